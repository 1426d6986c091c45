use Rattle.std.proofs.Common.{◌≡◌, ◌∙◌, ◌++◌, ℕ, List, ap, sym, subst, arith, length, take, drop, map, append-nil}
use Rattle.std.proofs.lemmas.List.{drop_all, take_all, length-map}
use Rattle.std.proofs.lemmas.List.Elements.{All-same}
use Rattle.s6_events.specs.Rising.{AreRising}
use Rattle.wait_conditions.specs.declared.waiter.Waiter.{Waiter}
use Rattle.wait_conditions.specs.Kept.{waiter_view, with_moments}
use Rattle.wait_conditions.specs.WaitsFields.{IsCounted, waiters_view}
use Rattle.wait_conditions.specs.Watchers.{AreDueFrom, AreIndexed, BeganInOrder}
use Rattle.wait_conditions.proofs.Ordered.{began_moments, due_moments, rising_moments}
use Rattle.wait_conditions.proofs.Searching.{serials}
use Rattle.wait_conditions.proofs.waiter_list.WaiterList.change.Goals as goal

-- a vector of which each element was written
written : (n : ℕ) (old new : List Waiter) → n ≡ length old → length new ≡ length old → take n (new ++ drop (length new) old) ≡ new
written n old new same long =
    ap (λ ws. take n (new ++ ws)) (drop_all (length new) old (omega (arith, long)))
    ∙ (ap (take n) (append-nil new) ∙ take_all n new (omega (arith, same, long)))

pub invariant_of-self : goal.invariant_of-self
invariant_of-self g c =
    let F = with_moments c.args.moments.now in
    let old = c.self.inside.waiters.items in
    let new = c.change_touched.new.waiters in
    let W = waiters_view old in
    let changed : waiters_view new ≡ map F W = c.change_touched.ensures.waiters ∙ ap (λ ws. map F (waiters_view ws)) c.deref_mut.ensures.value in
    let long : length new ≡ length old =
    omega (arith, ap length changed, length-map new waiter_view, length-map old waiter_view, length-map W F) in
    let same = written c.self.inside.waiters.len old new (omega (arith, c.deref_mut.ensures.len, ap length c.deref_mut.ensures.value)) long in
    let now = ap waiters_view same ∙ changed in
    record {
      counted = All-same IsCounted _ new same c.change_touched.ensures.counted;
      rising = subst (λ ks. AreRising (serials ks)) (sym now) (rising_moments c.args.moments.now W c.self.invariant.rising);
      began = subst BeganInOrder (sym now) (began_moments c.args.moments.now W c.self.invariant.began);
      indexed = subst (AreIndexed c.change_touched.new.watchers.watchers) (sym (ap waiters_view same)) c.change_touched.ensures.indexed;
      due = subst (λ ws. AreDueFrom c.least_deadline-self-inside.result (waiters_view ws)) c.deref.ensures.value c.least_deadline-self-inside.ensures;
    }

pub invariant_of-self-else-is_reached : goal.invariant_of-self-else-is_reached
invariant_of-self-else-is_reached g c =
    let F = with_moments c.args.moments.now in
    let old = c.self.inside.waiters.items in
    let new = c.change_touched.new.waiters in
    let W = waiters_view old in
    let changed : waiters_view new ≡ map F W = c.change_touched.ensures.waiters ∙ ap (λ ws. map F (waiters_view ws)) c.deref_mut.ensures.value in
    let long : length new ≡ length old =
    omega (arith, ap length changed, length-map new waiter_view, length-map old waiter_view, length-map W F) in
    let same = written c.self.inside.waiters.len old new (omega (arith, c.deref_mut.ensures.len, ap length c.deref_mut.ensures.value)) long in
    let now = ap waiters_view same ∙ changed in
    record {
      counted = All-same IsCounted _ new same c.change_touched.ensures.counted;
      rising = subst (λ ks. AreRising (serials ks)) (sym now) (rising_moments c.args.moments.now W c.self.invariant.rising);
      began = subst BeganInOrder (sym now) (began_moments c.args.moments.now W c.self.invariant.began);
      indexed = subst (AreIndexed c.change_touched.new.watchers.watchers) (sym (ap waiters_view same)) c.change_touched.ensures.indexed;
      due = subst (AreDueFrom c.self.inside.due) (sym now) (due_moments c.self.inside.due c.args.moments.now W c.self.invariant.due);
    }
