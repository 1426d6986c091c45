-- What is told of a step to the subscriptions that are remembered, and what they have heard once it is made.
use Rattle.std.specs.Prelude.{◌≡◌, ℕ, ◌++◌, List, Bool}
use Rattle.event_directory.specs.Changes.{DirectoryRequest, Offer, directories_after_change, directory_answer, matches_of}
use Rattle.event_directory.specs.Directories.{WrittenDirectories, directories_after_moments, matches_by}
use Rattle.event_directory.specs.Remembered.{AreHeard, DirectoriesPrepared, DirectoriesShown, directories_after_commit}
use Rattle.event_directory.specs.declared.directory_change.DirectoryAnswer.{DirectoryAnswer}
use Rattle.event_directory.specs.declared.hit.Hit.{Hit}
use Rattle.s6_events.specs.declared.moment.Moment.{Moment}

-- after these moments and then this request, the matches and the answer are those of each directories that are remembered so, and what
-- is prepared remembers what these become
pub record HearsStep (test : List ℕ → List ℕ → Bool) (old : DirectoriesShown) (ms : List Moment) (request : DirectoryRequest)
    (matches : List (ℕ × Hit)) (told : DirectoryAnswer) (prepared : DirectoriesPrepared) : Type 0 where
  pub matched : (d : WrittenDirectories) → AreHeard test old d
      → matches ≡ matches_by test d ms ++ matches_of test request (directories_after_moments d ms)
  pub answer : (d : WrittenDirectories) → AreHeard test old d
      → told ≡ directory_answer request (directories_after_moments d ms)
  pub stands : (offer : Offer) (d : WrittenDirectories) → AreHeard test old d
      → AreHeard test (directories_after_commit prepared offer)
      (directories_after_change request offer (directories_after_moments d ms))
