-- Laws of the list of a subscription.
use Rattle.std.specs.Prelude.{◌≡◌, ℕ, ◌≤◌, ◌<◌, List, [], ◌∷◌, ◌++◌, Bool, true, false, length, take, Some, None}
use Rattle.s6_events.specs.Rising.{AreRising}
use Rattle.event_directory.specs.Directories.{WrittenDirectories, subscriptions_to}
use Rattle.event_directory.specs.Remembered.{AreHeard, DirectoriesShown}
use Rattle.event_directory.specs.Sending.{hit_ids, hits_of_letter}
use Rattle.event_directory.specs.SubscriberList.{least_match, list_by, subscriber_list, live_with, list_with_letter}
use Rattle.event_directory.specs.declared.source.Source.{Source}

-- the list of a text is made of its least match and the list of what follows that match
abbrev pub BeginsAgain : Type 0
BeginsAgain =
    (find : List ℕ → Bool) (repeats : Bool) (text : List ℕ) →
    subscriber_list find repeats text ≡ list_by (least_match find text)
    (λ rest. subscriber_list find repeats rest) repeats text

-- the first k letters of the text have a match, and no fewer of them have one
pub record IsLeastMatch (find : List ℕ → Bool) (text : List ℕ) (k : ℕ) : Type 0 where
  pub some_letters : 1 ≤ k
  pub within_text : k ≤ length text
  pub within_limit : k ≤ 1024
  pub matches : find (take k text) ≡ true
  pub least : (j : ℕ) → 1 ≤ j → j < k → find (take j text) ≡ false

-- what `least_match` finds is the least match
abbrev pub LeastIsLeast : Type 0
LeastIsLeast = (find : List ℕ → Bool) (text : List ℕ) (k : ℕ) → least_match find text ≡ Some k
    → IsLeastMatch find text k

-- where `least_match` finds none, there is no match at all in the letters that are searched
abbrev pub NoneIsNone : Type 0
NoneIsNone =
    (find : List ℕ → Bool) (text : List ℕ) → least_match find text ≡ None →
    (k : ℕ) → 1 ≤ k → k ≤ length text → k ≤ 1024 → find (take k text) ≡ false

-- the list of a text without letters is live and empty
abbrev pub StartsLive : Type 0
StartsLive = (find : List ℕ → Bool) (repeats : Bool) → subscriber_list find repeats [] ≡ live_with []

-- the list of a text with one more letter is found from the list of the text
abbrev pub GrowsByLetters : Type 0
GrowsByLetters =
    (find : List ℕ → Bool) (repeats : Bool) (x : ℕ) (text : List ℕ) →
    subscriber_list find repeats (text ++ x ∷ []) ≡ list_with_letter find repeats x (subscriber_list find repeats text)

-- in all directories that are remembered, the matches of a letter come in rising serial, whatever its source
abbrev pub MatchesRise : Type 0
MatchesRise =
    (test : List ℕ → List ℕ → Bool) (s : DirectoriesShown) (d : WrittenDirectories) → AreHeard test s d →
    (source : Source) (x : ℕ) → AreRising (hit_ids (hits_of_letter test x (subscriptions_to source d)))
