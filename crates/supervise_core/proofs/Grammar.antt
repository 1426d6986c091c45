-- Every change of a service keeps the event grammar.
use Rattle.std.proofs.Common.{◌≡◌, refl, ap, ◌∙◌, ℕ, List, [], ◌∷◌, fold, Some, rules}
use Rattle.std.proofs.lemmas.List.Sums.{fold-append}
use Rattle.s6_events.specs.declared.exit.Exit.{Exit}
use Rattle.control_letters.specs.declared.control_letter.ControlLetter.{ControlLetter}
use Rattle.supervise_core.specs.declared.change.Change.{Change}
use Rattle.s6_events.specs.declared.report.Report.TheVariants.{Started, StartFailed, Notify, Death, FinishEnded}
use Rattle.supervise_core.specs.declared.change.Change.TheVariants.{Report, Control, Fire, SetConfig, SetActive}
use Rattle.supervise_core.specs.declared.chart_state.ChartState.{ChartState}
use Rattle.supervise_core.specs.ChartState.{Moved, no_move}
use Rattle.supervise_core.specs.Chart.{started_move, start_failed_move, notify_move, death_move, finish_ended_move, control_move, letter_move}
use Rattle.supervise_core.specs.Chart.{fire_move, changed_by}
use Rattle.supervise_core.specs.ControlLetters.{then_move}
use Rattle.supervise_core.specs.EventGrammar.{step_on, walk, place_of}

-- the marks of a move lead from where the service stood to where it stands
abbrev pub Walks : ChartState → Moved → Type 0
Walks c moved = walk (place_of c) moved.marks ≡ Some (place_of moved.chart)

walks_started : (generation pid now : ℕ) (c : ChartState) → Walks c (started_move generation pid now c)
walks_started generation pid now c = search rules

walks_start_failed : (generation now : ℕ) (c : ChartState) → Walks c (start_failed_move generation now c)
walks_start_failed generation now c = search rules

walks_notified : (generation : ℕ) (bytes : List ℕ) (now : ℕ) (c : ChartState) → Walks c (notify_move generation bytes now c)
walks_notified generation bytes now c = search rules

walks_death : (generation : ℕ) (exit : Exit) (now : ℕ) (c : ChartState) → Walks c (death_move generation exit now c)
walks_death generation exit now c = search rules

walks_finish_ended : (generation : ℕ) (exit : Exit) (now : ℕ) (c : ChartState) → Walks c (finish_ended_move generation exit now c)
walks_finish_ended generation exit now c = search rules

walks_fire : (now : ℕ) (c : ChartState) → Walks c (fire_move now c)
walks_fire now c = search rules

walks_letter : (now : ℕ) (letter : ControlLetter) (c : ChartState) → Walks c (letter_move now letter c)
walks_letter now letter c = search rules

walks_rest : (now : ℕ) (letters : List ControlLetter) (c : ChartState) (m : Moved) → Walks c m
    → Walks c (fold (λ so_far letter. then_move (letter_move now letter) so_far) m letters)
walks_rest now [] c m h = h
walks_rest now (letter ∷ rest) c m h =
    walks_rest now rest c (then_move (letter_move now letter) m)
    (fold-append step_on (Some (place_of c)) m.marks (letter_move now letter m.chart).marks
    ∙ ap (λ p. fold step_on p (letter_move now letter m.chart).marks) h
    ∙ walks_letter now letter m.chart)

walks_control : (letters : List ControlLetter) (now : ℕ) (c : ChartState) → Walks c (control_move letters now c)
walks_control letters now c = walks_rest now letters c (no_move c) refl

pub walks_changed : (change : Change) (now : ℕ) (c : ChartState) → Walks c (changed_by change now c)
walks_changed (Report (Started _ generation pid)) now c = walks_started generation pid now c
walks_changed (Report (StartFailed _ generation)) now c = walks_start_failed generation now c
walks_changed (Report (Notify _ generation bytes)) now c = walks_notified generation bytes.items now c
walks_changed (Report (Death _ generation exit)) now c = walks_death generation exit now c
walks_changed (Report (FinishEnded _ generation exit)) now c = walks_finish_ended generation exit now c
walks_changed (Control letters) now c = walks_control letters.items now c
walks_changed Fire now c = walks_fire now c
walks_changed (SetConfig config) now c = refl
walks_changed (SetActive active) now c = search rules
