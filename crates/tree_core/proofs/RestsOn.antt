-- After a permanent failure no step starts a run of the service, until a letter u for it or an s of it.
use Rattle.std.proofs.Common.{◌≡◌, refl, sym, ap, ◌∙◌, ℕ, List, [], ◌∷◌, ◌++◌, ◌||◌, Bool, true, false, cond, rules}
use Rattle.std.specs.Prelude.{None}
use Rattle.std.specs.List.{list_any}
use Rattle.std.proofs.lemmas.List.Folds.{list_any-append}
use Rattle.std.proofs.lemmas.List.Sums.{fold-append}
use Rattle.servicedir.specs.declared.config.Config.{Config}
use Rattle.supervise_core.specs.declared.chart_state.ChartState.{ChartState}
use Rattle.supervise_core.specs.Chart.{fire_move}
use Rattle.svscan_core.proofs.Truth.{neither_of, neither_left, neither_right, either_right, second}
use Rattle.tree_core.specs.declared.input.Input.{Input}
use Rattle.tree_core.specs.Closing.{is_run}
use Rattle.tree_core.specs.Permanent.{is_failure_mark, tells_start, wants_up, fails_on, has_failed_for_good, RestsAfterFailure}
use Rattle.tree_core.specs.Taken.{StepTaken, marks_in, orders_in, change_in_step}
use Rattle.tree_core.proofs.OwnWork.{Did, move_of, told_of}
use Rattle.tree_core.proofs.OwnSteps.{Law, Steps, Shows, marks_by, orders_by, checked}
use Rattle.tree_core.proofs.Resting.{IsResting, fire_rests, did_rests, did_fails, fire_tells_none, fire_finishing}
use Rattle.tree_core.proofs.OwnScan.{begins}

-- a service that has failed rests
abbrev rest_law : (A : Type 0) → ℕ → Law A
rest_law A sid = record {
  Unborn = λ ts. has_failed_for_good sid ts ≡ false;
  Living = λ ts clock c. has_failed_for_good sid ts ≡ true → IsResting c.phase c.timer;
  Dropped = λ ts. Unit;
  Check = λ ts t. has_failed_for_good sid (ts ++ t ∷ []) ≡ true → list_any is_run (orders_in sid t) ≡ false;
}

-- a step more
failed_more : {A : Type 0} (sid : ℕ) (ts : List (StepTaken A)) (t : StepTaken A)
    → has_failed_for_good sid (ts ++ t ∷ []) ≡ fails_on sid (has_failed_for_good sid ts) t
failed_more sid ts t = fold-append (fails_on sid) false ts (t ∷ [])

nothing_told : {A : Type 0} (sid : ℕ) (t : StepTaken A) (failed : Bool) → marks_in sid t ≡ [] → change_in_step sid t ≡ None
    → fails_on sid failed t ≡ failed
nothing_told sid t failed m e =
    ap (λ b. cond b false (failed || list_any is_failure_mark (marks_in sid t)))
    (neither_of (wants_up (change_in_step sid t)) _ (ap wants_up e) (ap (list_any tells_start) m))
    ∙ (ap (λ ms. failed || list_any is_failure_mark ms) m ∙ or_false failed)
  where
    or_false : (b : Bool) → (b || false) ≡ b
    or_false true = refl
    or_false false = refl

no_run : {A : Type 0} (sid : ℕ) (t : StepTaken A) → orders_in sid t ≡ [] → list_any is_run (orders_in sid t) ≡ false
no_run sid t e = ap (list_any is_run) e

-- where a step leaves a service failed: it freed nothing, and it failed before or now
record StaysFailed (A : Type 0) (sid : ℕ) (failed : Bool) (t : StepTaken A) : Type 0 where
  unasked : wants_up (change_in_step sid t) ≡ false
  unstarted : list_any tells_start (marks_in sid t) ≡ false
  failure : (failed || list_any is_failure_mark (marks_in sid t)) ≡ true

stays_failed : {A : Type 0} (sid : ℕ) (failed : Bool) (t : StepTaken A) → fails_on sid failed t ≡ true → StaysFailed A sid failed t
stays_failed {A} sid failed t h = by (wants_up (change_in_step sid t)) (list_any tells_start (marks_in sid t)) refl refl h
  where
    by : (u s : Bool) → wants_up (change_in_step sid t) ≡ u → list_any tells_start (marks_in sid t) ≡ s
        → cond (u || s) false (failed || list_any is_failure_mark (marks_in sid t)) ≡ true → StaysFailed A sid failed t
    by true s eu es k = cc
    by false true eu es k = cc
    by false false eu es k = record { unasked = eu; unstarted = es; failure = k }

-- what a timer and an act make of a service that has failed by the end of the step
record RestsOn (did : Did) (now : ℕ) (c : ChartState) : Type 0 where
  rests : IsResting (move_of did now (fire_move now c).chart).chart.phase (move_of did now (fire_move now c).chart).chart.timer
  orders : list_any is_run (orders_by did now c) ≡ false

rests_both : (did : Did) (now : ℕ) (c : ChartState) (failed : Bool) → wants_up (told_of did) ≡ false
    → list_any tells_start (marks_by did now c) ≡ false
    → (failed || list_any is_failure_mark (marks_by did now c)) ≡ true → (failed ≡ true → IsResting c.phase c.timer) → RestsOn did now c
rests_both did now c true unasked unstarted failure rest =
    let split = sym (list_any-append tells_start (fire_move now c).marks (move_of did now (fire_move now c).chart).marks) ∙ unstarted in
    let first = fire_rests now c (rest refl) (neither_left (list_any tells_start (fire_move now c).marks) _ split) in
    let second = did_rests did now (fire_move now c).chart unasked
    (neither_right (list_any tells_start (fire_move now c).marks) _ split) first.chart in
    record {
      rests = second.chart;
      orders = list_any-append is_run (fire_move now c).orders (move_of did now (fire_move now c).chart).orders
          ∙ neither_of (list_any is_run (fire_move now c).orders) _ first.orders second.orders;
    }
rests_both did now c false unasked unstarted failure rest =
    let split = sym (list_any-append is_failure_mark (fire_move now c).marks (move_of did now (fire_move now c).chart).marks) ∙ failure in
    let fails = did_fails did now (fire_move now c).chart
    (second (list_any is_failure_mark (fire_move now c).marks) _ split (fire_tells_none now c)) in
    record {
      rests = fails.rests.chart;
      orders =
          list_any-append is_run (fire_move now c).orders (move_of did now (fire_move now c).chart).orders
          ∙ neither_of (list_any is_run (fire_move now c).orders) _ (fire_finishing now c fails.finishing) fails.rests.orders;
    }

moves_rests : (A : Type 0) (sid : ℕ) (ts : List (StepTaken A)) (t : StepTaken A) (now : ℕ) (c : ChartState) (did : Did)
    → (has_failed_for_good sid ts ≡ true → IsResting c.phase c.timer)
    → Shows A sid t (marks_by did now c) (orders_by did now c) (told_of did) → has_failed_for_good sid (ts ++ t ∷ []) ≡ true → RestsOn did now c
moves_rests A sid ts t now c did h shows failed =
    let stays = stays_failed sid (has_failed_for_good sid ts) t (sym (failed_more sid ts t) ∙ failed) in
    rests_both did now c (has_failed_for_good sid ts) (ap wants_up (sym shows.told_so) ∙ stays.unasked)
    (ap (list_any tells_start) (sym shows.marks_shown) ∙ stays.unstarted)
    (ap (λ ms. has_failed_for_good sid ts || list_any is_failure_mark ms) (sym shows.marks_shown) ∙ stays.failure) h

-- a service that has just begun has not failed
begins_started : (sid : ℕ) (name : List ℕ) (config : Config) → list_any tells_start (begins sid name config).marks ≡ true
begins_started sid name config = search rules

not_failed_yet : {A : Type 0} (sid : ℕ) (ts : List (StepTaken A)) (t : StepTaken A) (name : List ℕ) (config : Config)
    → marks_in sid t ≡ (begins sid name config).marks
    → has_failed_for_good sid (ts ++ t ∷ []) ≡ false
not_failed_yet sid ts t name config e =
    failed_more sid ts t
    ∙ ap (λ b. cond b false (has_failed_for_good sid ts || list_any is_failure_mark (marks_in sid t)))
    (either_right (wants_up (change_in_step sid t)) _ (ap (list_any tells_start) e ∙ begins_started sid name config))

impossible : {X : Type 0} (b : Bool) → b ≡ false → b ≡ true → X
impossible b e h = cc

rest_steps : (A : Type 0) (sid : ℕ) → Steps A sid (rest_law A sid)
rest_steps A sid = record {
  none_yet = λ ts t h shows. (
    (λ _. no_run sid t shows.orders_shown),
    failed_more sid ts t ∙ (nothing_told sid t (has_failed_for_good sid ts) shows.marks_shown shows.told_so ∙ h),
  );
  born = λ ts t now name config at h shows.
      let not_yet = not_failed_yet sid ts t name config shows.marks_shown in (
        (λ failed. impossible (has_failed_for_good sid (ts ++ t ∷ [])) not_yet failed),
        (λ failed. impossible (has_failed_for_good sid (ts ++ t ∷ [])) not_yet failed),
      );
  still = λ ts t clock c h shows. (
    (λ _. no_run sid t shows.orders_shown),
    (λ failed. h (sym (failed_more sid ts t ∙ nothing_told sid t (has_failed_for_good sid ts) shows.marks_shown shows.told_so) ∙ failed)),
  );
  moves = λ ts t clock now c did at later same h fresh shows. (
    (λ failed. ap (list_any is_run) shows.orders_shown ∙ (moves_rests A sid ts t now c did h shows failed).orders),
    (λ failed. (moves_rests A sid ts t now c did h shows failed).rests),
  );
  ends = λ ts clock c h. tt;
  none_more = λ ts t h shows. ((λ _. no_run sid t shows.orders_shown), tt);
}

pub rests_after_failure : {A : Type 0} (inputs : List (Input A)) (input : Input A) (sid : ℕ) → RestsAfterFailure inputs input sid
rests_after_failure {A} inputs input sid = checked sid (rest_law A sid) (rest_steps A sid) refl tt inputs input
