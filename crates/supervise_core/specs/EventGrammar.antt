-- The words that the marks of a service form: (s (u U? d O? D)* x)*, or the beginning of one.
use Rattle.std.specs.Prelude.{◌≡◌, List, [], ◌∷◌, ◌++◌, Bool, if◌then◌else◌, fold, Option, None, Some, is_some}
use Rattle.s6_events.specs.declared.mark.Mark.{Mark}
use Rattle.s6_events.specs.declared.mark.Mark.TheVariants.{SupervisorStarted, Spawned, Ready, Died, FinishDone}
use Rattle.s6_events.specs.declared.mark.Mark.TheVariants.{PermanentFailure, SupervisorEnded}
use Rattle.supervise_core.specs.declared.chart_state.ChartState.{ChartState}
use Rattle.supervise_core.specs.declared.phase.Phase.{Phase}
use Rattle.supervise_core.specs.declared.phase.Phase.TheVariants.{Down, Starting, Up, Finish, Gone}

-- one run: whether it became ready, and whether its finish told a permanent failure
pub record Ran : Type 0 where
  pub became_ready : Bool
  pub failed_for_good : Bool

-- a mark that may be missing, and then the rest
abbrev pub perhaps : Bool → Mark → List Mark → List Mark
perhaps there mark rest = if there then mark ∷ rest else rest

-- u U? d O? D, and then the rest
abbrev pub spell_run : Ran → List Mark → List Mark
spell_run run rest = Spawned ∷ perhaps run.became_ready Ready
    (Died ∷ perhaps run.failed_for_good PermanentFailure (FinishDone ∷ rest))

-- any number of runs, and then the rest
abbrev pub spell_runs : List Ran → List Mark → List Mark
spell_runs [] rest = rest
spell_runs (run ∷ runs) rest = spell_run run (spell_runs runs rest)

-- any number of supervisors, each of them s, its runs, x
abbrev pub spell : List (List Ran) → List Mark
spell [] = []
spell (runs ∷ supervisors) = SupervisorStarted ∷ spell_runs runs (SupervisorEnded ∷ spell supervisors)

-- the marks are the beginning of a word
pub record BeginsWord (marks : List Mark) : Type 0 where
  pub rest : List Mark
  pub supervisors : List (List Ran)
  pub spelled : marks ++ rest ≡ spell supervisors

-- which mark may come next at a place, and the place after it. A place is named by the mark that leads there, D where that is s
abbrev pub next_place : Mark → Mark → Option Mark
next_place SupervisorEnded SupervisorStarted = Some FinishDone
next_place FinishDone Spawned = Some Spawned
next_place Spawned Ready = Some Ready
next_place Spawned Died = Some Died
next_place Ready Died = Some Died
next_place Died PermanentFailure = Some PermanentFailure
next_place Died FinishDone = Some FinishDone
next_place PermanentFailure FinishDone = Some FinishDone
next_place FinishDone SupervisorEnded = Some SupervisorEnded
next_place _ _ = None

abbrev pub step_on : Option Mark → Mark → Option Mark
step_on None mark = None
step_on (Some place) mark = next_place place mark

-- the place after these marks, which begin at this place, where each of them may come in its turn
abbrev pub walk : Mark → List Mark → Option Mark
walk place marks = fold step_on (Some place) marks

-- where a service stands in the grammar
abbrev pub place_in : Phase → Bool → Mark
place_in Down ready = FinishDone
place_in Starting ready = FinishDone
place_in Up ready = if ready then Ready else Spawned
place_in Finish ready = Died
place_in Gone ready = SupervisorEnded

abbrev pub place_of : ChartState → Mark
place_of c = place_in c.phase (is_some c.ready_since)

-- the marks are the beginning of a word that ends where the service stands
pub record LeadsTo (marks : List Mark) (c : ChartState) : Type 0 where
  pub word : BeginsWord marks
  pub place : walk SupervisorEnded marks ≡ Some (place_of c)
