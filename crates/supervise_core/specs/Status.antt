-- What a service stores of its marks, and the histories that agree with it.
use Rattle.std.specs.Prelude.{◌≡◌, ℕ, List, map, fold, None, Some, if◌then◌else◌}
use Rattle.s6_events.specs.declared.mark.Mark.{Mark}
use Rattle.s6_events.specs.declared.mark.Mark.TheVariants.{FinishDone}
use Rattle.s6_events.specs.declared.moment.Moment.{Moment}
use Rattle.s6_events.specs.declared.moment.Moment.TheVariants.{Event}
use Rattle.s6_events.specs.CurrentLetter.{current_letter, up_or_down_since, ready_or_done_since, is_start, tells_state}
use Rattle.s6_events.specs.CurrentLetter.{is_up_or_down, is_ready_or_done}
use Rattle.supervise_core.specs.declared.row.Status.{Status}

-- the marks of a service, as they join the history
abbrev pub mark_moments : ℕ → List Mark → List Moment
mark_moments sid marks = map (λ mark. Event sid mark) marks

-- a history agrees with what is stored of the service of this serial
pub record Agrees (sid : ℕ) (status : Status) (history : List Moment) : Type 0 where
  pub letter : status.letter ≡ current_letter sid history
  pub up_or_down : status.up_or_down_since ≡ up_or_down_since sid history
  pub ready_or_done : status.ready_or_done_since ≡ ready_or_done_since sid history

-- nothing was told since s
abbrev pub no_marks : Status
no_marks = record { letter = FinishDone; up_or_down_since = None; ready_or_done_since = None }

-- a mark is told at a moment
abbrev pub status_with : ℕ → Status → Mark → Status
status_with now s mark =
    if is_start mark then no_marks
    else record {
      letter = if tells_state mark then mark else s.letter;
      up_or_down_since = if is_up_or_down mark then Some now else s.up_or_down_since;
      ready_or_done_since = if is_ready_or_done mark then Some now else s.ready_or_done_since;
    }

-- the marks of a change are told, all at one moment
abbrev pub status_with_all : ℕ → List Mark → Status → Status
status_with_all now marks s = fold (status_with now) s marks
