use Rattle.std.proofs.Common.{◌≡◌, ◌∙◌, ◌+◌, ◌-◌, ℕ, List, ap, sym, subst, arith, length, take, drop, map}
use Rattle.std.proofs.lemmas.List.{take_all, length-drop, drop-map}
use Rattle.s6_events.specs.Rising.{AreRising}
use Rattle.wait_conditions.specs.declared.waiter.Waiter.{Waiter}
use Rattle.wait_conditions.specs.Kept.{waiter_view}
use Rattle.wait_conditions.specs.WaitsFields.{waiters_view}
use Rattle.wait_conditions.specs.Watchers.{IsFirst, serials_where}
use Rattle.wait_conditions.proofs.Searching.{serials, rising_drop}
use Rattle.wait_conditions.proofs.releasing.place_from.Goals as goal

part_is : (start : ℕ) (ws : List Waiter) → waiters_view (take (length ws - start) (drop start ws)) ≡ drop start (waiters_view ws)
part_is start ws =
    ap (map waiter_view) (take_all (length ws - start) (drop start ws) (omega (arith, length-drop start ws))) ∙ sym (drop-map waiter_view start ws)

pub place_in-requires : goal.place_in-requires
place_in-requires c =
    subst (λ ks. AreRising (serials ks)) (sym (part_is c.args.start c.args.waiters.now))
    (rising_drop c.args.start (waiters_view c.args.waiters.now) c.requires.rising)

pub returns-clause-first : goal.returns-clause-first
returns-clause-first c = λ p rest e.
    let same = part_is c.args.start c.args.waiters.now in
    let back : c.place_in.result ≡ c.args.start + c.place_in.result - c.args.start = omega arith in
    subst (IsFirst p (drop c.args.start (waiters_view c.args.waiters.now)) rest) back
    (subst (λ ks. IsFirst p ks rest c.place_in.result) same (c.place_in.ensures.first p rest (ap (serials_where p) same ∙ e)))
