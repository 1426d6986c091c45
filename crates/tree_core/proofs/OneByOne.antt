-- The runs of a service come one by one, each after the one before it is over.
use Rattle.std.proofs.Common.{◌≡◌, refl, sym, ap, ◌∙◌, ℕ, zero, suc, ◌+◌, List, [], ◌∷◌, ◌++◌, length, ◌==◌, ◌||◌, Bool, true, false, append-nil}
use Rattle.std.proofs.Common.{length-append, add-one}
use Rattle.std.specs.Prelude.{Option, Some, None}
use Rattle.std.specs.List.{list_all, list_any}
use Rattle.std.proofs.lemmas.Grind.{flat_map-append}
use Rattle.std.proofs.lemmas.List.Folds.{list_any-append}
use Rattle.s6_events.specs.declared.order.Order.{Order}
use Rattle.s6_events.specs.declared.order.Order.TheVariants.{Run, Finish, Signal, KillFinish}
use Rattle.supervise_core.specs.declared.change.Change.{Change}
use Rattle.s6_events.specs.declared.report.Report.TheVariants.{Started, StartFailed, Notify, Death, FinishEnded}
use Rattle.supervise_core.specs.declared.change.Change.TheVariants.{Report, Control, Fire, SetConfig, SetActive}
use Rattle.supervise_core.specs.declared.chart_state.ChartState.{ChartState}
use Rattle.supervise_core.specs.declared.phase.Phase.{Phase}
use Rattle.supervise_core.specs.declared.phase.Phase.TheVariants.{Down, Starting, Up, Finish, Gone}
use Rattle.svscan_core.proofs.Serials.{itself}
use Rattle.svscan_core.proofs.Truth.{either_left, either_right, both_of}
use Rattle.tree_core.specs.declared.input.Input.{Input}
use Rattle.tree_core.specs.Machine.{new_machine}
use Rattle.tree_core.specs.Run.{after_all}
use Rattle.tree_core.specs.OneLife.{generations_of, generations_in, generations_given, up_to, ends_before, may_come, HasOneLife}
use Rattle.tree_core.specs.Taken.{StepTaken, steps_taken, orders_in, change_in_step}
use Rattle.tree_core.proofs.OwnScan.{begins}
use Rattle.tree_core.proofs.OwnWork.{told_of}
use Rattle.tree_core.proofs.OwnSteps.{Law, Steps, Keeps, orders_by, kept, checked}
use Rattle.tree_core.proofs.OwnSteps.Keeps.{unborn, living, dropped}
use Rattle.tree_core.proofs.Lives.{MayStart, AllAllowed, IsEnd, step_lives, begins_lives}

-- what may come may come after one step more
may_later : {A : Type 0} (sid : ℕ) (ts : List (StepTaken A)) (t : StepTaken A) (generation : ℕ) → may_come sid ts generation ≡ true
    → may_come sid (ts ++ t ∷ []) generation ≡ true
may_later sid ts t generation h =
    ap (λ b. generation == 1 || b) (list_any-append (λ s. ends_before generation (change_in_step sid s)) ts (t ∷ []))
    ∙ by (generation == 1) (list_any (λ s. ends_before generation (change_in_step sid s)) ts)
    (list_any (λ s. ends_before generation (change_in_step sid s)) (t ∷ [])) h
  where
    by : (a b d : Bool) → (a || b) ≡ true → (a || (b || d)) ≡ true
    by true b d h = refl
    by false b d h = either_left b d h

may_start_later : {A : Type 0} (sid : ℕ) (ts : List (StepTaken A)) (t : StepTaken A) (p : Phase) (generation : ℕ)
    → MayStart (may_come sid ts) p generation → MayStart (may_come sid (ts ++ t ∷ [])) p generation
may_start_later sid ts t Starting generation h = tt
may_start_later sid ts t Up generation h = tt
may_start_later sid ts t Down generation h = may_later sid ts t (generation + 1) h
may_start_later sid ts t Finish generation h = may_later sid ts t (generation + 1) h
may_start_later sid ts t Gone generation h = may_later sid ts t (generation + 1) h

-- what ended a run in this step
now_over : {A : Type 0} (sid : ℕ) (ts : List (StepTaken A)) (t : StepTaken A) (generation : ℕ)
    → ends_before generation (change_in_step sid t) ≡ true → may_come sid (ts ++ t ∷ []) generation ≡ true
now_over sid ts t generation h =
    ap (λ b. generation == 1 || b) (list_any-append (λ s. ends_before generation (change_in_step sid s)) ts (t ∷ []))
    ∙ either_right (generation == 1) _ (either_right (list_any (λ s. ends_before generation (change_in_step sid s)) ts) _
    (either_left (ends_before generation (change_in_step sid t)) false h))

is_end : {A : Type 0} (sid : ℕ) (ts : List (StepTaken A)) (t : StepTaken A) (told : Option Change) → change_in_step sid t ≡ told
    → IsEnd (may_come sid (ts ++ t ∷ [])) told
is_end sid ts t None e = tt
is_end sid ts t (Some (Report (Death _ generation exit))) e =
    now_over sid ts t (generation + 1) (ap (ends_before (generation + 1)) e ∙ itself (generation + 1))
is_end sid ts t (Some (Report (StartFailed _ generation))) e =
    now_over sid ts t (generation + 1) (ap (ends_before (generation + 1)) e ∙ itself (generation + 1))
is_end sid ts t (Some (Report (Started _ generation pid))) e = tt
is_end sid ts t (Some (Report (Notify _ generation bytes))) e = tt
is_end sid ts t (Some (Report (FinishEnded _ generation exit))) e = tt
is_end sid ts t (Some (Control letters)) e = tt
is_end sid ts t (Some Fire) e = tt
is_end sid ts t (Some (SetConfig config)) e = tt
is_end sid ts t (Some (SetActive active)) e = tt

-- what is allowed of each order is allowed of each generation
all_may : (may : ℕ → Bool) (orders : List Order) → AllAllowed may orders → list_all may (generations_of orders) ≡ true
all_may may [] h = refl
all_may may (Run sid generation name descriptor ∷ orders) h = both_of (may generation) _ h.0 (all_may may orders h.1)
all_may may (Finish sid generation name code signal ∷ orders) h = all_may may orders h.1
all_may may (Signal sid generation number ∷ orders) h = all_may may orders h.1
all_may may (KillFinish sid generation ∷ orders) h = all_may may orders h.1

generations_more : {A : Type 0} (sid : ℕ) (ts : List (StepTaken A)) (t : StepTaken A) (orders : List Order) → orders_in sid t ≡ orders
    → generations_given sid (ts ++ t ∷ []) ≡ generations_given sid ts ++ generations_of orders
generations_more sid ts t orders e =
    flat_map-append (generations_in sid) ts (t ∷ [])
    ∙ ((λ i. generations_given sid ts ++ append-nil (generations_in sid t) i) ∙ ap (λ os. generations_given sid ts ++ generations_of os) e)

no_more : {A : Type 0} (sid : ℕ) (ts : List (StepTaken A)) (t : StepTaken A) → orders_in sid t ≡ []
    → generations_given sid (ts ++ t ∷ []) ≡ generations_given sid ts
no_more sid ts t e = generations_more sid ts t [] e ∙ append-nil (generations_given sid ts)

-- generations that were given are 1, 2, 3 and so on
record IsUpTo (generations : List ℕ) : Type 0 where
  count : ℕ
  same : generations ≡ up_to count

record LivesNow (A : Type 0) (sid : ℕ) (ts : List (StepTaken A)) (c : ChartState) : Type 0 where
  counted : generations_given sid ts ≡ up_to c.generation
  next : MayStart (may_come sid ts) c.phase c.generation

abbrev life_law : (A : Type 0) → ℕ → Law A
life_law A sid = record {
  Unborn = λ ts. generations_given sid ts ≡ [];
  Living = λ ts clock c. LivesNow A sid ts c;
  Dropped = λ ts. IsUpTo (generations_given sid ts);
  Check = λ ts t. list_all (may_come sid (ts ++ t ∷ [])) (generations_in sid t) ≡ true;
}

none_started : {A : Type 0} (sid : ℕ) (ts : List (StepTaken A)) (t : StepTaken A) → orders_in sid t ≡ []
    → list_all (may_come sid (ts ++ t ∷ [])) (generations_in sid t) ≡ true
none_started sid ts t e = ap (λ os. list_all (may_come sid (ts ++ t ∷ [])) (generations_of os)) e

life_steps : (A : Type 0) (sid : ℕ) → Steps A sid (life_law A sid)
life_steps A sid = record {
  none_yet = λ ts t h shows. (none_started sid ts t shows.orders_shown, no_more sid ts t shows.orders_shown ∙ h);
  born = λ ts t now name config at h shows.
      let lives = begins_lives (may_come sid (ts ++ t ∷ [])) sid name config refl in (
        ap (λ os. list_all (may_come sid (ts ++ t ∷ [])) (generations_of os)) shows.orders_shown
            ∙ all_may (may_come sid (ts ++ t ∷ [])) (begins sid name config).orders lives.allowed,
        record {
          counted = generations_more sid ts t (begins sid name config).orders shows.orders_shown
              ∙ (ap (λ gs. gs ++ generations_of (begins sid name config).orders) h ∙ lives.counted);
          next = lives.next;
        },
      );
  still = λ ts t clock c h shows. (
    none_started sid ts t shows.orders_shown,
    record { counted = no_more sid ts t shows.orders_shown ∙ h.counted; next = may_start_later sid ts t c.phase c.generation h.next },
  );
  moves = λ ts t clock now c did at later same h fresh shows.
      let lives = step_lives (may_come sid (ts ++ t ∷ [])) did now c (is_end sid ts t (told_of did) shows.told_so)
      (may_start_later sid ts t c.phase c.generation h.next) in (
        ap (λ os. list_all (may_come sid (ts ++ t ∷ [])) (generations_of os)) shows.orders_shown
            ∙ all_may (may_come sid (ts ++ t ∷ [])) (orders_by did now c) lives.allowed,
        record {
          counted = generations_more sid ts t (orders_by did now c) shows.orders_shown
              ∙ (ap (λ gs. gs ++ generations_of (orders_by did now c)) h.counted ∙ lives.counted);
          next = lives.next;
        },
      );
  ends = λ ts clock c h. record { count = c.generation; same = h.counted };
  none_more = λ ts t h shows. (
    none_started sid ts t shows.orders_shown,
    record
        { count = h.count; same = no_more sid ts t shows.orders_shown ∙ h.same },
  );
}

length-up_to : (n : ℕ) → length (up_to n) ≡ n
length-up_to zero = refl
length-up_to (suc n) = length-append (up_to n) (suc n ∷ []) ∙ (ap (λ k. k + 1) (length-up_to n) ∙ add-one n)

by_length : (generations : List ℕ) (n : ℕ) → generations ≡ up_to n → generations ≡ up_to (length generations)
by_length generations n e = e ∙ ap up_to (sym (ap length e ∙ length-up_to n))

counted_so : {A : Type 0} (inputs : List (Input A)) (sid : ℕ) → Keeps A sid (life_law A sid) (steps_taken inputs) (after_all new_machine inputs)
    → generations_given sid (steps_taken inputs) ≡ up_to (length (generations_given sid (steps_taken inputs)))
counted_so inputs sid (unborn below none h) = by_length (generations_given sid (steps_taken inputs)) 0 h
counted_so inputs sid (living c lower one same h) = by_length (generations_given sid (steps_taken inputs)) c.generation h.counted
counted_so inputs sid (dropped lower none h) = by_length (generations_given sid (steps_taken inputs)) h.count h.same

pub has_one_life : {A : Type 0} (inputs : List (Input A)) (input : Input A) (sid : ℕ) → HasOneLife inputs input sid
has_one_life {A} inputs input sid = record {
  counted = counted_so inputs sid (kept sid (life_law A sid) (life_steps A sid) refl (record { count = 0; same = refl }) inputs);
  after_another = checked sid (life_law A sid) (life_steps A sid) refl (record { count = 0; same = refl }) inputs input;
}
