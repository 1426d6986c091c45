-- What the channels of a run are before it begins.
use Rattle.std.specs.Prelude.{◌≡◌, ℕ, ◌+◌, List, [], slice_get, Some}
use Rattle.channel_names.specs.RingName.{RingName}
use Rattle.inbox.specs.Ends.{RingView, SeatView}

-- the rings are those of the actors from number n on, in order, and each has the name of its actor's ring
abbrev pub AreNamedFrom : ℕ → (ℕ → RingName) → List RingView → Type 0
AreNamedFrom n names rings = (k : ℕ) (r : RingView) → slice_get rings k ≡ Some r → (r.actor ≡ n + k) × (r.ring ≡ names r.actor)

abbrev pub AreNamed : (ℕ → RingName) → List RingView → Type 0
AreNamed names rings = AreNamedFrom 0 names rings

-- each seat is at its actor's place, and nothing was submitted there
abbrev pub AreUnused : List SeatView → Type 0
AreUnused seats = (k : ℕ) (s : SeatView) → slice_get seats k ≡ Some s → (s.actor ≡ k) × (s.submitted ≡ [])
