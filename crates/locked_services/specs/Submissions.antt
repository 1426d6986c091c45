-- What actors submitted, and what their rings gave.
use Rattle.std.specs.Prelude.{◌≡◌, ℕ, ◌==◌, ◌<◌, List, [], ◌∷◌, ◌++◌, length, slice_get, Option, None, Some, if◌then◌else◌}
use Rattle.std.specs.List.{flat_map}
use Rattle.std.specs.declared.alloc.Global.{Global}
use Rattle.inbox.specs.declared.submission.Submission.{Submission}
use Rattle.inbox.specs.Ends.{DrainView}
use Rattle.tree_core.specs.declared.input.Input.{Input}
use Rattle.run_records.specs.Runs.{RunStep}

-- an input as its seat submitted it, where it is this actor's
abbrev pub submission_by : ℕ → Input Global → List Submission
submission_by actor input = if input.actor == actor then record { at = input.at; act = input.act } ∷ [] else []

-- the input that is held, where it is this actor's
abbrev pub held_by : ℕ → Option (Input Global) → List Submission
held_by actor None = []
held_by actor (Some input) = submission_by actor input

-- what this actor submitted of these steps, in order
abbrev pub submissions_of : ℕ → List RunStep → List Submission
submissions_of actor [] = []
submissions_of actor (s ∷ steps) = submission_by actor s.input ++ submissions_of actor steps

abbrev pub taken_by : Option DrainView → List Submission
taken_by None = []
taken_by (Some drain) = drain.taken

-- what the ring of this actor gave
abbrev pub taken_from : ℕ → List DrainView → List Submission
taken_from actor drains = taken_by (slice_get drains actor)

-- what this actor submitted of these inputs, in order
abbrev pub submissions_in : ℕ → List (Input Global) → List Submission
submissions_in actor inputs = flat_map (submission_by actor) inputs

-- there are as many rings as before, and each gave those of these inputs that are its actor's, in order, and no more
pub record Give (given : List (Input Global)) (old new : List DrainView) : Type 0 where
  pub each : length new ≡ length old
  pub taken : (actor : ℕ) → taken_from actor new ≡ taken_from actor old ++ submissions_in actor given

-- each drain stands at the place of its actor
abbrev pub AreNumbered : List DrainView → Type 0
AreNumbered drains = (k : ℕ) (drain : DrainView) → slice_get drains k ≡ Some drain → drain.actor ≡ k

-- nothing is seen in any ring beyond what was taken
abbrev pub NoneSeen : List DrainView → Type 0
NoneSeen drains = (k : ℕ) (drain : DrainView) → slice_get drains k ≡ Some drain → drain.seen ≡ []

-- nothing is seen beyond what was taken in the rings at places below n
abbrev pub NoneSeenBelow : ℕ → List DrainView → Type 0
NoneSeenBelow n drains = (k : ℕ) (drain : DrainView) → k < n → slice_get drains k ≡ Some drain → drain.seen ≡ []
