-- What a contract sees of a ring, and of its ends.
use Rattle.std.specs.Prelude.{ℕ, zero, suc, List, [], ◌∷◌, ◌++◌, Option}
use Rattle.channel_names.specs.RingName.{RingName}
use Rattle.inbox.specs.declared.submission.Submission.{Submission}

-- how many submissions a ring holds
abbrev pub places : ℕ
places = 64

-- the actor whose ring it is, and the name of the ring
pub record RingView : Type 0 where
  pub actor : ℕ
  pub ring : RingName

-- all that a seat ever submitted, oldest first, and how many of these it does not know to be taken
pub record SeatView : Type 0 where
  pub actor : ℕ
  pub submitted : List Submission
  pub waiting : ℕ

-- all that a drain ever took, oldest first, and what it has seen in the ring beyond that
pub record DrainView : Type 0 where
  pub actor : ℕ
  pub taken : List Submission
  pub seen : List Submission

-- all that a seat had submitted when it finished, if its ring told that
pub record FinishedView : Type 0 where
  pub actor : ℕ
  pub submitted : Option (List Submission)

-- the numbers below n, in order
abbrev pub numbers_below : ℕ → List ℕ
numbers_below zero = []
numbers_below (suc n) = numbers_below n ++ n ∷ []
