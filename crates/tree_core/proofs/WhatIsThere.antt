-- A signal goes to a run whose start was reported, and whose death was not reported before.
use Rattle.std.proofs.Common.{◌≡◌, refl, sym, ap, ◌∙◌, ℕ, ◌+◌, ◌≤◌, List, [], ◌∷◌, ◌++◌, ◌==◌, ◌&&◌, not, Bool, true, false, arith}
use Rattle.std.specs.Prelude.{Option, Some, None}
use Rattle.std.specs.List.{flat_map, list_all}
use Rattle.std.proofs.lemmas.Bool.Decides.{Decides-eqb, nat_tests}
use Rattle.std.proofs.lemmas.List.Folds.{list_any-append}
use Rattle.s6_events.specs.declared.order.Order.{Order}
use Rattle.s6_events.specs.declared.order.Order.TheVariants.{Run, Finish, Signal, KillFinish}
use Rattle.supervise_core.specs.declared.change.Change.{Change}
use Rattle.s6_events.specs.declared.report.Report.TheVariants.{Started, StartFailed, Notify, Death, FinishEnded}
use Rattle.supervise_core.specs.declared.change.Change.TheVariants.{Report, Control, Fire, SetConfig, SetActive}
use Rattle.supervise_core.specs.declared.chart_state.ChartState.{ChartState}
use Rattle.supervise_core.specs.declared.phase.Phase.{Phase}
use Rattle.supervise_core.specs.declared.phase.Phase.TheVariants.{Down, Starting, Up, Finish, Gone}
use Rattle.supervise_core.specs.ChartState.{is_starting}
use Rattle.supervise_core.specs.Chart.{fire_move}
use Rattle.svscan_core.proofs.Serials.{itself}
use Rattle.svscan_core.proofs.Truth.{either_left, either_right, both_of, both_left, neither_of}
use Rattle.tree_core.specs.declared.input.Input.{Input}
use Rattle.tree_core.specs.Signals.{signal_generations, signals_in, is_start_of, is_death_of, has_started, has_died, is_run_there}
use Rattle.tree_core.specs.Signals.{SignalsWhatIsThere}
use Rattle.tree_core.specs.Taken.{StepTaken, orders_in, change_in_step}
use Rattle.tree_core.proofs.OwnScan.{begins}
use Rattle.tree_core.proofs.OwnWork.{Did, move_of, told_of, IsFresh}
use Rattle.tree_core.proofs.OwnSteps.{Law, Steps, Shows, marks_by, orders_by, checked}
use Rattle.tree_core.proofs.Signalled.{first_alive, IsFine, AllFair, all_fair_append, fire_signals, TellsStart, did_signals, TellsDeath, did_dies}
use Rattle.tree_core.proofs.Signalled.{begins_fair, begins_not_up}

-- no death of this generation or of a later one was reported
abbrev AreAlive : {A : Type 0} → ℕ → List (StepTaken A) → ℕ → Type 0
AreAlive sid ts first = (generation : ℕ) → first ≤ generation → has_died sid ts generation ≡ false

-- a run that is up has been started
abbrev WasStarted : {A : Type 0} → ℕ → List (StepTaken A) → Phase → ℕ → Type 0
WasStarted sid ts Up generation = has_started sid ts generation ≡ true
WasStarted sid ts phase generation = Unit

record IsWatched (A : Type 0) (sid : ℕ) (ts : List (StepTaken A)) (c : ChartState) : Type 0 where
  alive : AreAlive sid ts (first_alive c.phase c.generation)
  up : WasStarted sid ts c.phase c.generation

abbrev signal_law : (A : Type 0) → ℕ → Law A
signal_law A sid = record {
  Unborn = λ ts. AreAlive sid ts 0;
  Living = λ ts clock c. IsWatched A sid ts c;
  Dropped = λ ts. Unit;
  Check = λ ts t. list_all (is_run_there sid ts t) (signals_in sid t) ≡ true;
}

-- one step more
started_later : {A : Type 0} (sid : ℕ) (ts : List (StepTaken A)) (t : StepTaken A) (generation : ℕ) → has_started sid ts generation ≡ true
    → has_started sid (ts ++ t ∷ []) generation ≡ true
started_later sid ts t generation h =
    list_any-append (λ s. is_start_of generation (change_in_step sid s)) ts (t ∷ []) ∙ either_left (has_started sid ts generation) _ h

started_now : {A : Type 0} (sid : ℕ) (ts : List (StepTaken A)) (t : StepTaken A) (generation : ℕ)
    → is_start_of generation (change_in_step sid t) ≡ true → has_started sid (ts ++ t ∷ []) generation ≡ true
started_now sid ts t generation h =
    list_any-append (λ s. is_start_of generation (change_in_step sid s)) ts (t ∷ [])
    ∙ either_right (has_started sid ts generation) _ (either_left (is_start_of generation (change_in_step sid t)) false h)

was_started_later : {A : Type 0} (sid : ℕ) (ts : List (StepTaken A)) (t : StepTaken A) (p : Phase) (generation : ℕ) → WasStarted sid ts p generation
    → WasStarted sid (ts ++ t ∷ []) p generation
was_started_later sid ts t Up generation h = started_later sid ts t generation h
was_started_later sid ts t Down generation h = tt
was_started_later sid ts t Starting generation h = tt
was_started_later sid ts t Finish generation h = tt
was_started_later sid ts t Gone generation h = tt

other_death : (generation of : ℕ) → of + 1 ≤ generation → (of == generation) ≡ false
other_death generation of h = grind (arith, nat_tests)

no_death_now : (told : Option Change) (first generation : ℕ) → TellsDeath first told → first ≤ generation → is_death_of generation told ≡ false
no_death_now None first generation h above = refl
no_death_now (Some (Report (Death _ of exit))) first generation h above = other_death generation of (omega (arith, h, above))
no_death_now (Some (Report (Started _ of pid))) first generation h above = refl
no_death_now (Some (Report (StartFailed _ of))) first generation h above = refl
no_death_now (Some (Report (Notify _ of bytes))) first generation h above = refl
no_death_now (Some (Report (FinishEnded _ of exit))) first generation h above = refl
no_death_now (Some (Control letters)) first generation h above = refl
no_death_now (Some Fire) first generation h above = refl
no_death_now (Some (SetConfig config)) first generation h above = refl
no_death_now (Some (SetActive active)) first generation h above = refl

alive_later : {A : Type 0} (sid : ℕ) (ts : List (StepTaken A)) (t : StepTaken A) (first now : ℕ) (told : Option Change)
    → change_in_step sid t ≡ told → TellsDeath now told → first ≤ now → AreAlive sid ts first
    → AreAlive sid (ts ++ t ∷ []) now
alive_later sid ts t first now told e tells later h = λ generation above.
    list_any-append (λ s. is_death_of generation (change_in_step sid s)) ts (t ∷ [])
    ∙ neither_of (has_died sid ts generation) _ (h generation (omega (arith, later, above)))
    (neither_of (is_death_of generation (change_in_step sid t)) false
    (ap (is_death_of generation) e ∙ no_death_now told now generation tells above) refl)

-- a run that is up is there
there_of : {A : Type 0} (sid : ℕ) (ts : List (StepTaken A)) (t : StepTaken A) (generation : ℕ) → has_started sid (ts ++ t ∷ []) generation ≡ true
    → has_died sid ts generation ≡ false
    → is_run_there sid ts t generation ≡ true
there_of sid ts t generation h k = both_of (has_started sid (ts ++ t ∷ []) generation) _ h (ap not k)

fine_of : {A : Type 0} (sid : ℕ) (ts : List (StepTaken A)) (t : StepTaken A) (p : Phase) (generation : ℕ)
    → WasStarted sid (ts ++ t ∷ []) p generation → AreAlive sid ts (first_alive p generation)
    → IsFine (is_run_there sid ts t) p generation
fine_of sid ts t Up generation h alive = there_of sid ts t generation h (alive generation (omega arith))
fine_of sid ts t Down generation h alive = tt
fine_of sid ts t Starting generation h alive = tt
fine_of sid ts t Finish generation h alive = tt
fine_of sid ts t Gone generation h alive = tt

started_of : {A : Type 0} (sid : ℕ) (ts : List (StepTaken A)) (t : StepTaken A) (p : Phase) (generation : ℕ)
    → IsFine (is_run_there sid ts t) p generation → WasStarted sid (ts ++ t ∷ []) p generation
started_of sid ts t Up generation h = both_left (has_started sid (ts ++ t ∷ []) generation) _ h
started_of sid ts t Down generation h = tt
started_of sid ts t Starting generation h = tt
started_of sid ts t Finish generation h = tt
started_of sid ts t Gone generation h = tt

-- a start that is told is that of the run that is awaited
awaited : {A : Type 0} (sid : ℕ) (ts : List (StepTaken A)) (t : StepTaken A) (of generation pid : ℕ) (p : Phase) (now : ℕ)
    → change_in_step sid t ≡ Some (Report (Started of generation pid))
    → AreAlive sid ts (first_alive p now) → (is_starting p && (now == generation)) ≡ true → is_run_there sid ts t now ≡ true
awaited sid ts t of generation pid Starting now e alive h =
    let same : now ≡ generation = (Decides-eqb now generation).0 h in
    there_of sid ts t now (started_now sid ts t now (ap (is_start_of now) e ∙ (ap (λ n. n == now) (sym same) ∙ itself now)))
    (alive now (omega arith))
awaited sid ts t of generation pid Down now e alive h = cc
awaited sid ts t of generation pid Up now e alive h = cc
awaited sid ts t of generation pid Finish now e alive h = cc
awaited sid ts t of generation pid Gone now e alive h = cc

tells_start : {A : Type 0} (sid : ℕ) (ts : List (StepTaken A)) (t : StepTaken A) (c : ChartState) (told : Option Change)
    → change_in_step sid t ≡ told → AreAlive sid ts (first_alive c.phase c.generation)
    → TellsStart (is_run_there sid ts t) c told
tells_start sid ts t c None e alive = tt
tells_start sid ts t c (Some (Report (Started of generation pid))) e alive = λ h. awaited sid ts t of generation pid c.phase c.generation e alive h
tells_start sid ts t c (Some (Report (Death _ of exit))) e alive = tt
tells_start sid ts t c (Some (Report (StartFailed _ of))) e alive = tt
tells_start sid ts t c (Some (Report (Notify _ of bytes))) e alive = tt
tells_start sid ts t c (Some (Report (FinishEnded _ of exit))) e alive = tt
tells_start sid ts t c (Some (Control letters)) e alive = tt
tells_start sid ts t c (Some Fire) e alive = tt
tells_start sid ts t c (Some (SetConfig config)) e alive = tt
tells_start sid ts t c (Some (SetActive active)) e alive = tt

all_there : (there : ℕ → Bool) (orders : List Order) → AllFair there orders → list_all there (flat_map signal_generations orders) ≡ true
all_there there [] h = refl
all_there there (Signal sid generation number ∷ orders) h = both_of (there generation) _ h.0 (all_there there orders h.1)
all_there there (Run sid generation name descriptor ∷ orders) h = all_there there orders h.1
all_there there (Finish sid generation name code signal ∷ orders) h = all_there there orders h.1
all_there there (KillFinish sid generation ∷ orders) h = all_there there orders h.1

signals_so : {A : Type 0} (sid : ℕ) (ts : List (StepTaken A)) (t : StepTaken A) (orders : List Order) → orders_in sid t ≡ orders
    → AllFair (is_run_there sid ts t) orders
    → list_all (is_run_there sid ts t) (signals_in sid t) ≡ true
signals_so sid ts t orders e h = ap (λ os. list_all (is_run_there sid ts t) (flat_map signal_generations os)) e
    ∙ all_there (is_run_there sid ts t) orders h

moves_watched : (A : Type 0) (sid : ℕ) (ts : List (StepTaken A)) (t : StepTaken A) (now : ℕ) (c : ChartState) (did : Did) → IsWatched A sid ts c
    → IsFresh did now (fire_move now c).chart
    → Shows A sid t (marks_by did now c) (orders_by did now c) (told_of did)
    → (list_all (is_run_there sid ts t) (signals_in sid t) ≡ true) × IsWatched A sid (ts ++ t ∷ []) (move_of did now (fire_move now c).chart).chart
moves_watched A sid ts t now c did h fresh shows =
    let first = fire_signals (is_run_there sid ts t) now c
    (fine_of sid ts t c.phase c.generation (was_started_later sid ts t c.phase c.generation h.up) h.alive) in
    let a = first.later in
    let alive : AreAlive sid ts (first_alive (fire_move now c).chart.phase (fire_move now c).chart.generation) =
    λ generation above. h.alive generation (omega (arith, a, above)) in
    let second = did_signals (is_run_there sid ts t) did now (fire_move now c).chart
    (tells_start sid ts t (fire_move now c).chart (told_of did) shows.told_so alive) first.up in (
      signals_so sid ts t (orders_by did now c) shows.orders_shown
          (all_fair_append (is_run_there sid ts t) (fire_move now c).orders
          (move_of did now (fire_move now c).chart).orders first.fair second.fair),
      record {
        alive = alive_later sid ts t (first_alive (fire_move now c).chart.phase (fire_move now c).chart.generation)
            (first_alive (move_of did now (fire_move now c).chart).chart.phase (move_of did now (fire_move now c).chart).chart.generation)
            (told_of did) shows.told_so (did_dies did now (fire_move now c).chart fresh) second.later alive;
        up = started_of sid ts t (move_of did now (fire_move now c).chart).chart.phase
            (move_of did now (fire_move now c).chart).chart.generation second.up;
      },
    )

signal_steps : (A : Type 0) (sid : ℕ) → Steps A sid (signal_law A sid)
signal_steps A sid = record {
  none_yet = λ ts t h shows. (signals_so sid ts t [] shows.orders_shown tt, alive_later sid ts t 0 0 None shows.told_so tt (omega arith) h);
  born = λ ts t now name config at h shows. (
    signals_so sid ts t (begins sid name config).orders shows.orders_shown (begins_fair (is_run_there sid ts t) sid name config),
    record {
      alive = alive_later sid ts t 0 (first_alive (begins sid name config).chart.phase (begins sid name config).chart.generation) None shows.told_so
          tt (omega arith) h;
      up = started_of sid ts t (begins sid name config).chart.phase (begins sid name config).chart.generation
          (begins_not_up (is_run_there sid ts t) sid name config);
    },
  );
  still = λ ts t clock c h shows. (
    signals_so sid ts t [] shows.orders_shown tt,
    record {
      alive = alive_later sid ts t (first_alive c.phase c.generation) (first_alive c.phase c.generation) None shows.told_so tt
          (omega arith) h.alive;
      up = was_started_later sid ts t c.phase c.generation h.up;
    },
  );
  moves = λ ts t clock now c did at later same h fresh shows. moves_watched A sid ts t now c did h fresh shows;
  ends = λ ts clock c h. tt;
  none_more = λ ts t h shows. (signals_so sid ts t [] shows.orders_shown tt, tt);
}

pub signals_what_is_there : {A : Type 0} (inputs : List (Input A)) (input : Input A) (sid : ℕ) → SignalsWhatIsThere inputs input sid
signals_what_is_there {A} inputs input sid = checked sid (signal_law A sid) (signal_steps A sid) (λ generation above. refl) tt inputs input
