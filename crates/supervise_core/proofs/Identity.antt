-- A service keeps its serial, its name and the number of deaths that its tally was opened with.
use Rattle.std.proofs.Common.{◌≡◌, refl, ◌∙◌, ℕ, List, [], ◌∷◌, Bool, fold, rules}
use Rattle.s6_events.specs.declared.exit.Exit.{Exit}
use Rattle.servicedir.specs.declared.config.Config.{Config}
use Rattle.control_letters.specs.declared.control_letter.ControlLetter.{ControlLetter}
use Rattle.supervise_core.specs.declared.change.Change.{Change}
use Rattle.s6_events.specs.declared.report.Report.TheVariants.{Started, StartFailed, Notify, Death, FinishEnded}
use Rattle.supervise_core.specs.declared.change.Change.TheVariants.{Report, Control, Fire, SetConfig, SetActive}
use Rattle.supervise_core.specs.declared.chart_state.ChartState.{ChartState}
use Rattle.supervise_core.specs.ChartState.{Moved, no_move, new_service}
use Rattle.supervise_core.specs.Moves.{begin_move}
use Rattle.supervise_core.specs.ControlLetters.{letter_move, then_move}
use Rattle.supervise_core.specs.Chart.{started_move, start_failed_move, notify_move, death_move, finish_ended_move, fire_move, with_activity}
use Rattle.supervise_core.specs.Chart.{changed_by}

-- a state with the serial and the name of another one, whose tally keeps as many deaths
pub record IsSame (c after : ChartState) : Type 0 where
  pub sid : after.sid ≡ c.sid
  pub name : after.name ≡ c.name
  pub most : after.config.max_death_tally ≡ c.config.max_death_tally

-- a move leaves these as they were
abbrev pub KeepsIdentity : ChartState → Moved → Type 0
KeepsIdentity c moved = IsSame c moved.chart

keeps_letter : (now : ℕ) (letter : ControlLetter) (c : ChartState) → KeepsIdentity c (letter_move now letter c)
keeps_letter now letter c = record { sid = search rules; name = search rules; most = search rules }

keeps_rest : (now : ℕ) (letters : List ControlLetter) (c : ChartState) (m : Moved) → KeepsIdentity c m
    → KeepsIdentity c (fold (λ so_far letter. then_move (letter_move now letter) so_far) m letters)
keeps_rest now [] c m h = h
keeps_rest now (letter ∷ rest) c m h =
    let one = keeps_letter now letter m.chart in
    keeps_rest now rest c (then_move (letter_move now letter) m)
    (record { sid = one.sid ∙ h.sid; name = one.name ∙ h.name; most = one.most ∙ h.most })

pub keeps_fire : (now : ℕ) (c : ChartState) → KeepsIdentity c (fire_move now c)
keeps_fire now c = record { sid = search rules; name = search rules; most = search rules }

pub keeps_active : (active : Bool) (now : ℕ) (c : ChartState) → IsSame c (with_activity active now c)
keeps_active active now c = record { sid = search rules; name = search rules; most = search rules }

pub keeps_begin : (sid : ℕ) (name : List ℕ) (config : Config)
    → KeepsIdentity (new_service sid name config) (begin_move (new_service sid name config))
keeps_begin sid name config = record { sid = search rules; name = search rules; most = search rules }

keeps_started : (generation pid now : ℕ) (c : ChartState) → KeepsIdentity c (started_move generation pid now c)
keeps_started generation pid now c = record { sid = search rules; name = search rules; most = search rules }

keeps_start_failed : (generation now : ℕ) (c : ChartState) → KeepsIdentity c (start_failed_move generation now c)
keeps_start_failed generation now c = record { sid = search rules; name = search rules; most = search rules }

keeps_notified : (generation : ℕ) (bytes : List ℕ) (now : ℕ) (c : ChartState) → KeepsIdentity c (notify_move generation bytes now c)
keeps_notified generation bytes now c = record { sid = search rules; name = search rules; most = search rules }

keeps_death : (generation : ℕ) (exit : Exit) (now : ℕ) (c : ChartState) → KeepsIdentity c (death_move generation exit now c)
keeps_death generation exit now c = record { sid = search rules; name = search rules; most = search rules }

keeps_finish_ended : (generation : ℕ) (exit : Exit) (now : ℕ) (c : ChartState) → KeepsIdentity c (finish_ended_move generation exit now c)
keeps_finish_ended generation exit now c = record { sid = search rules; name = search rules; most = search rules }

pub keeps_changed : (change : Change) (now : ℕ) (c : ChartState) → KeepsIdentity c (changed_by change now c)
keeps_changed (Report (Started _ generation pid)) now c = keeps_started generation pid now c
keeps_changed (Report (StartFailed _ generation)) now c = keeps_start_failed generation now c
keeps_changed (Report (Notify _ generation bytes)) now c = keeps_notified generation bytes.items now c
keeps_changed (Report (Death _ generation exit)) now c = keeps_death generation exit now c
keeps_changed (Report (FinishEnded _ generation exit)) now c = keeps_finish_ended generation exit now c
keeps_changed (Control letters) now c = keeps_rest now letters.items c (no_move c) (record { sid = refl; name = refl; most = refl })
keeps_changed Fire now c = keeps_fire now c
keeps_changed (SetConfig config) now c = record { sid = refl; name = refl; most = refl }
keeps_changed (SetActive active) now c = keeps_active active now c
