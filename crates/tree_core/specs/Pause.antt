-- A service that died is not started again within a second.
use Rattle.std.specs.Prelude.{◌≡◌, ℕ, ◌+◌, List, [], ◌∷◌, ◌++◌, Bool, true, false, ◌||◌, nat_le, nat_lt, fold, Option}
use Rattle.std.specs.Prelude.{None, Some}
use Rattle.std.specs.List.{list_any}
use Rattle.s6_events.specs.declared.mark.Mark.{Mark}
use Rattle.s6_events.specs.declared.mark.Mark.TheVariants.{Spawned, Ready, Died}
use Rattle.tree_core.specs.declared.input.Input.{Input}
use Rattle.tree_core.specs.Closing.{is_run}
use Rattle.tree_core.specs.Permanent.{wants_up}
use Rattle.tree_core.specs.Taken.{StepTaken, steps_taken, next_step, clock_in, marks_in, orders_in, change_in_step}

-- a death: its moment, and since when the service had been ready then
pub record PastDeath : Type 0 where
  pub at : ℕ
  pub ready_since : Option ℕ

-- what the marks of a service tell: since when its present run has been ready, and its last death
pub record Past : Type 0 where
  pub ready_since : Option ℕ
  pub last_death : Option PastDeath

abbrev pub no_past : Past
no_past = record { ready_since = None; last_death = None }

-- the same after one more mark, told at this moment
abbrev pub past_with : ℕ → Past → Mark → Past
past_with now past Spawned = record past { ready_since = None }
past_with now past Ready = record past { ready_since = Some now }
past_with now past Died = record past { last_death = Some (record { at = now; ready_since = past.ready_since }) }
past_with now past mark = past

-- the same after the marks of one more step, and after those of all steps
abbrev pub past_with_step : {A : Type 0} → ℕ → Past → StepTaken A → Past
past_with_step sid past t = fold (past_with (clock_in t)) past (marks_in sid t)

abbrev pub past_of : {A : Type 0} → ℕ → List (StepTaken A) → Past
past_of sid steps = fold (past_with_step sid) no_past steps

-- it had been ready for more than a second when it died
abbrev pub was_long_ready : Option ℕ → ℕ → Bool
was_long_ready None died = false
was_long_ready (Some since) died = nat_lt (since + 1000) died

-- a run may come now: the service has not died, or it had been ready for more than a second then, or a second has passed since
abbrev pub has_paused : ℕ → Option PastDeath → Bool
has_paused now None = true
has_paused now (Some death) = was_long_ready death.ready_since death.at || nat_le (death.at + 1000) now

-- where the next step starts a run of the service, and has no letter u for it, the run may come at the clock of that step
abbrev pub PausesAfterDeath : {A : Type 0} → List (Input A) → Input A → ℕ → Type 0
PausesAfterDeath inputs input sid =
    wants_up (change_in_step sid (next_step inputs input)) ≡ false
    → list_any is_run (orders_in sid (next_step inputs input)) ≡ true
    → has_paused (clock_in (next_step inputs input))
    (past_of sid (steps_taken inputs ++ next_step inputs input ∷ [])).last_death ≡ true
