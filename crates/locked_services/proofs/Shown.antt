-- Shots of a run stay shots of it.
use Rattle.std.proofs.Common.{◌≡◌, ℕ, zero, suc, ◌≤◌, ◌==◌, Bool, true, List, [], ◌∷◌, ◌++◌, All, false, Some, length, take, if◌then◌else◌, refl, ap, sym, subst, ◌∙◌, arith}
use Rattle.std.proofs.lemmas.List.{take-append-le, length-append}
use Rattle.status_board.specs.declared.shot.Shot.{Shot}
use Rattle.supervise_core.specs.declared.row.Row.{Row}
use Rattle.tree_core.specs.Machine.{Machine}
use Rattle.tree_core.specs.Run.{after, after_all}
use Rattle.tree_core.specs.StandsFor.{StoredTree, StandsFor}
use Rattle.tree_core.specs.Step.{spent_step, step_limit, timed_step, with_clock, with_listeners}
use Rattle.tree_core.specs.declared.input.Input.{Input}
use Rattle.std.specs.declared.alloc.Global.{Global}
use Rattle.status_board.specs.Board.{last_shot, steps_or, RisesFrom, NeverFalls}
use Rattle.tree_core.specs.Rows.{all_rows}
use Rattle.run_records.specs.Runs.{RunStep, end_of, inputs_of}
use Rattle.locked_services.specs.Shots.{first_shot, shot_of, IsShotOf, RoomView, IsSoundRoom}

pub shot_later : (m : Machine) (ts more : List RunStep) (s : Shot) → IsShotOf m ts s → IsShotOf m (ts ++ more) s
shot_later m ts more s is =
    let e = length-append ts more in
    let below = is.1 in
    (is.0, omega arith, is.2 ∙ ap (λ (xs : List RunStep). shot_of (end_of m xs)) (sym (take-append-le is.0 ts more is.1)))

pub shots_later : (m : Machine) (ts more : List RunStep) (ss : List Shot) → All (IsShotOf m ts) ss → All (IsShotOf m (ts ++ more)) ss
shots_later m ts more ss all k d below = shot_later m ts more _ (all k d below)

take_all : (ts : List RunStep) → take (length ts) ts ≡ ts
take_all [] = refl
take_all (x ∷ xs) = ap (λ (ys : List RunStep). x ∷ ys) (take_all xs)

pub shot_now : (m : Machine) (ts : List RunStep) (s : Shot) → s ≡ shot_of (end_of m ts) → IsShotOf m ts s
shot_now m ts s is = (length ts, omega arith, is ∙ ap (λ (xs : List RunStep). shot_of (end_of m xs)) (sym (take_all ts)))

-- a step counts itself, unless the tree has made all that it may
counted_by : (spent : Bool) (m : Machine) (input : Input Global)
    → m.steps ≤ (if spent then spent_step m else with_listeners m input.at (timed_step input.act (with_clock input.at m))).machine.steps
counted_by true m input = omega arith
counted_by false m input = omega arith

counted : (m : Machine) (input : Input Global) → m.steps ≤ (after m input).steps
counted m input = counted_by (m.steps == step_limit) m input

all_counted : (m : Machine) (inputs : List (Input Global)) → m.steps ≤ (after_all m inputs).steps
all_counted m [] = omega arith
all_counted m (input ∷ inputs) =
    let first = counted m input in
    let others = all_counted (after m input) inputs in
    omega (arith, first, others)

-- a machine on its way has made no more steps than at the end
counted_to_end : (m : Machine) (n : ℕ) (ts : List RunStep) → (end_of m (take n ts)).steps ≤ (end_of m ts).steps
counted_to_end m zero [] = omega arith
counted_to_end m zero (t ∷ ts) = all_counted m (inputs_of (t ∷ ts))
counted_to_end m (suc n) [] = omega arith
counted_to_end m (suc n) (t ∷ ts) = counted_to_end (after m t.input) n ts

counted_at : (m : Machine) (ts : List RunStep) (s : Shot) → IsShotOf m ts s → s.at ≤ (end_of m ts).steps
counted_at m ts s is =
    subst (λ (n : ℕ). n ≤ (end_of m ts).steps) (sym (ap (λ (x : Shot). x.at) is.2)) (counted_to_end m is.0 ts)

-- no shot of a run was taken after more steps than its machine has made
pub counted_last : (m : Machine) (ts : List RunStep) (n : ℕ) (ss : List Shot) → All (IsShotOf m ts) ss → n ≤ (end_of m ts).steps
    → steps_or n ss ≤ (end_of m ts).steps
counted_last m ts n [] all few = few
counted_last m ts n (s ∷ ss) all few =
    counted_last m ts s.at ss (λ k d below. all (suc k) d (omega arith)) (counted_at m ts s (all zero s (omega arith)))

rises_more : (n : ℕ) (ss : List Shot) (s : Shot) → RisesFrom n ss → steps_or n ss ≤ s.at → RisesFrom n (ss ++ s ∷ [])
rises_more n [] s rises later = (later, tt)
rises_more n (x ∷ xs) s rises later = (rises.0, rises_more x.at xs s rises.1 later)

-- the shot of the machine at the end of a run was taken after no fewer steps than those before it
pub rises_now : (m : Machine) (ts : List RunStep) (ss : List Shot) (s : Shot) → All (IsShotOf m ts) ss → NeverFalls ss
    → s ≡ shot_of (end_of m ts) → NeverFalls (ss ++ s ∷ [])
rises_now m ts ss s all rises is =
    rises_more 0 ss s rises
    (subst (λ (n : ℕ). steps_or 0 ss ≤ n) (sym (ap (λ (x : Shot). x.at) is)) (counted_last m ts 0 ss all (omega arith)))

abbrev shot_with : ℕ → List Row → Shot
shot_with n rows = record { at = n; rows = record { items = rows } }

pub shot_is : (m : Machine) (s : Shot) → s.at ≡ m.steps → s.rows.items ≡ all_rows m → s ≡ shot_of m
shot_is m s e f = ap (λ (n : ℕ). shot_with n s.rows.items) e ∙ ap (λ (rows : List Row). shot_with m.steps rows) f

pub all_snoc : {A : Type 0} (P : A → Type 0) (xs : List A) (x : A) → All P xs → P x → All P (xs ++ x ∷ [])
all_snoc P [] x all p zero d below = p
all_snoc P [] x all p (suc k) d below = absurd (omega arith)
all_snoc P (y ∷ ys) x all p zero d below = all zero y (omega arith)
all_snoc P (y ∷ ys) x all p (suc k) d below = all_snoc P ys x (λ j e b. all (suc j) e (omega arith)) p k d (omega arith)

pub first_more : (x s : Shot) (xs : List Shot) → first_shot xs ≡ Some x → first_shot (xs ++ s ∷ []) ≡ Some x
first_more x s [] e = absurd (cc (e))
first_more x s (y ∷ ys) e = e

-- after some more steps, which were not published
pub shows_steps : (o : StoredTree) (v w : RoomView) (more : List RunStep) → IsSoundRoom o v → w.running.opening ≡ v.running.opening
    → w.shots ≡ v.shots → w.running.steps ≡ v.running.steps ++ more → w.is_shown ≡ false → IsSoundRoom o w
shows_steps o v w more k opening shots steps hidden = record {
  begins = opening ∙ k.begins;
  first = λ m s. ap first_shot shots ∙ k.first m (subst (λ (o : StoredTree). StandsFor o m) opening s);
  each = λ m s.
      subst (λ (ss : List Shot). All (IsShotOf m w.running.steps) ss) (sym shots)
      (subst (λ (ts : List RunStep). All (IsShotOf m ts) v.shots) (sym steps)
      (shots_later m v.running.steps more v.shots (k.each m (subst (λ (o : StoredTree). StandsFor o m) opening s))));
  rising = subst (λ (ss : List Shot). NeverFalls ss) (sym shots) k.rising;
  last = λ shown m s. absurd (cc (shown, hidden));
}

pub shows_same : (o : StoredTree) (v w : RoomView) → IsSoundRoom o v → w.running.opening ≡ v.running.opening → w.shots ≡ v.shots
    → w.running.steps ≡ v.running.steps → w.is_shown ≡ v.is_shown → IsSoundRoom o w
shows_same o v w k opening shots steps shown = record {
  begins = opening ∙ k.begins;
  first = λ m s. ap first_shot shots ∙ k.first m (subst (λ (o : StoredTree). StandsFor o m) opening s);
  each = λ m s.
      subst (λ (ss : List Shot). All (IsShotOf m w.running.steps) ss) (sym shots)
      (subst (λ (ts : List RunStep). All (IsShotOf m ts) v.shots) (sym steps) (k.each m (subst (λ (o : StoredTree). StandsFor o m) opening s)));
  rising = subst (λ (ss : List Shot). NeverFalls ss) (sym shots) k.rising;
  last = λ is m s.
      subst (λ (ss : List Shot). last_shot ss ≡ Some (shot_of (end_of m w.running.steps))) (sym shots)
      (subst (λ (ts : List RunStep). last_shot v.shots ≡ Some (shot_of (end_of m ts))) (sym steps)
      (k.last (sym shown ∙ is) m (subst (λ (o : StoredTree). StandsFor o m) opening s)));
}

-- the present state alone was published
pub shows_begin : (o : StoredTree) (v : RoomView) → v.running.opening ≡ o → ((m : Machine) × StandsFor v.running.opening m) → v.running.steps ≡ []
    → ((m : Machine) → StandsFor v.running.opening m → v.shots ≡ shot_of (end_of m v.running.steps) ∷ []) → IsSoundRoom o v
shows_begin o v opening there none one = record {
  begins = opening;
  rising = subst (λ (ss : List Shot). NeverFalls ss) (sym (one there.0 there.1)) (omega arith, tt);
  first = λ m s. ap first_shot (one m s) ∙ ap (λ (ts : List RunStep). Some (shot_of (end_of m ts))) none;
  each = λ m s.
      subst (λ (ss : List Shot). All (IsShotOf m v.running.steps) ss) (sym (one m s))
      (all_snoc (IsShotOf m v.running.steps) [] (shot_of (end_of m v.running.steps)) (λ k d below. absurd (omega arith))
      (shot_now m v.running.steps (shot_of (end_of m v.running.steps)) refl));
  last = λ is m s. ap last_shot (one m s);
}
