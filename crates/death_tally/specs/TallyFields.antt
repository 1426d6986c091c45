-- How a tally is stored.
use Rattle.std.specs.Prelude.{◌≡◌, ◌<◌, ℕ, List, [], Option, None, Some}
use Rattle.circular_buffer.specs.Buffer.{Buffer}
use Rattle.s6_events.specs.declared.exit.Exit.{Exit}
use Rattle.death_tally.specs.LastDeaths.{Deaths}
use Rattle.death_tally.specs.declared.tally.Tally.TheInside.{Inside}

-- the deaths in the ring, where there is one
abbrev pub ring_deaths : Option (Buffer (ℕ × Exit)) → List (ℕ × Exit)
ring_deaths None = []
ring_deaths (Some ring) = ring.items

-- its deaths, and how many it has at most
abbrev pub deaths_in : {A : Type 0} → Inside A → Deaths
deaths_in t = record { kept = ring_deaths t.ring; most = t.most }

-- the ring has as many places as the tally keeps at most; there is none where it keeps none
abbrev pub HasPlaces : Option (Buffer (ℕ × Exit)) → ℕ → Type 0
HasPlaces None most = most ≡ 0
HasPlaces (Some ring) most = (ring.capacity ≡ most) × (0 < most)

abbrev pub IsTally : {A : Type 0} → Inside A → Type 0
IsTally t = HasPlaces t.ring t.most
