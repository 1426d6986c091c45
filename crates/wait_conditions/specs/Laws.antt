-- Laws of a waiter's release.
use Rattle.std.specs.Prelude.{◌≡◌, ℕ, ◌+◌, ◌≤◌, List, [], ◌∷◌, ◌++◌, true, length, map, take}
use Rattle.s6_events.specs.Rising.{AreRising}
use Rattle.s6_events.specs.declared.moment.Moment.{Moment}
use Rattle.s6_events.specs.declared.moment.Moment.TheVariants.{Clock}
use Rattle.wait_conditions.specs.declared.verdict.Verdict.{Verdict}
use Rattle.wait_conditions.specs.declared.verdict.WaitState.TheVariants.{Waiting, Released}
use Rattle.wait_conditions.specs.Verdict.{WaitTerms, verdict}
use Rattle.wait_conditions.specs.Release.{release_state, first_release_of, IsLeast}
use Rattle.wait_conditions.specs.Stands.{WaitsShown, WaitsStandFor}
use Rattle.wait_conditions.specs.NextDeadline.{next_deadline, is_before}
use Rattle.wait_conditions.specs.Watch.{Watch, releases}

-- a released waiter has the verdict that comes at the least number of moments since its place
abbrev pub ReleasedAtTheLeast : Type 0
ReleasedAtTheLeast =
    (a : WaitTerms) (past since : List Moment) (v : Verdict) → release_state a past since ≡ Released v
    → (k : ℕ) × IsLeast (verdict a past) since v k

-- a waiter that waits still: its verdict is waiting over each number of moments since its place
abbrev pub WaitsThroughout : Type 0
WaitsThroughout =
    (a : WaitTerms) (past since : List Moment) → release_state a past since ≡ Waiting
    → (k : ℕ) → k ≤ length since → verdict a past (take k since) ≡ Waiting

-- with one more moment, a waiter that waits takes its verdict over all moments, and a released one keeps its own
abbrev pub GrowsByMoments : Type 0
GrowsByMoments =
    (a : WaitTerms) (past since : List Moment) (m : Moment)
    → release_state a past (since ++ m ∷ [])
    ≡ first_release_of (release_state a past since) (verdict a past (since ++ m ∷ []))

-- a waiter that one more moment releases is released at the least number of moments at which it isn't waiting, this one the last of them
abbrev pub ReleasedByTheLastMoment : Type 0
ReleasedByTheLastMoment =
    (a : WaitTerms) (past since : List Moment) (m : Moment) (v : Verdict)
    → release_state a past since ≡ Waiting → release_state a past (since ++ m ∷ []) ≡ Released v
    → IsLeast (verdict a past) (since ++ m ∷ []) v (length since + 1)

-- of all waiters for which stored ones stand, the releases of a moment come in rising serial
abbrev pub ReleasesRise : Type 0
ReleasesRise = (s : WaitsShown) (w : Watch) (m : Moment) → WaitsStandFor s w
    → AreRising (map (λ (r : ℕ × Verdict). r.0) (releases w m))

-- a clock reading before the next deadline releases none
abbrev pub ReleasesNoneBefore : Type 0
ReleasesNoneBefore = (w : Watch) (at : ℕ) → is_before at (next_deadline w) ≡ true → releases w (Clock at) ≡ []
