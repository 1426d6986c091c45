use Rattle.std.proofs.Common.{◌≡◌, ◌∙◌, ◌≤◌, ◌<◌, ◌++◌, ◌∷◌, [], All, ap, sym, subst}
use Rattle.std.proofs.lemmas.List.{map-append}
use Rattle.std.proofs.lemmas.List.Elements.{All-push, All-same}
use Rattle.s6_events.proofs.Rising.{rising_push}
use Rattle.s6_events.specs.Rising.{AreRising}
use Rattle.wait_conditions.specs.Kept.{StoredWaiter, waiter_view}
use Rattle.wait_conditions.specs.Stands.{StoredList}
use Rattle.wait_conditions.specs.WaitsFields.{IsCounted, waiters_view}
use Rattle.wait_conditions.specs.Watchers.{AreDueFrom, AreIndexed, BeganInOrder, earlier}
use Rattle.wait_conditions.proofs.Ordered.{began_push, due_push, indexed_push}
use Rattle.wait_conditions.proofs.Searching.{serials}
use Rattle.wait_conditions.proofs.waiter_list.WaiterList.push.Goals as goal

pub invariant_of-self : goal.invariant_of-self
invariant_of-self g c =
    let ws = c.self.inside.waiters.items in
    let k = waiter_view c.args.waiter in
    let now : waiters_view c.push_reserved.new.self.items ≡ waiters_view ws ++ k ∷ [] =
    ap waiters_view c.push_reserved.ensures.items ∙ map-append waiter_view ws (c.args.waiter ∷ []) in
    let below : All (λ (j : StoredWaiter). j.id < k.id) (waiters_view ws) =
    subst (λ (l : StoredList). All (λ (j : StoredWaiter). j.id < k.id) l.waiters) (sym c.self.view_is) c.requires.serial in
    let before : All (λ (j : StoredWaiter). j.place ≤ k.place) (waiters_view ws) =
    subst (λ (l : StoredList). All (λ (j : StoredWaiter). j.place ≤ k.place) l.waiters) (sym c.self.view_is) c.requires.place in
    record {
      counted = All-same IsCounted c.push_reserved.new.self.items (ws ++ c.args.waiter ∷ []) c.push_reserved.ensures.items
          (All-push IsCounted ws c.args.waiter c.self.invariant.counted c.requires.counted);
      rising = subst (λ ks. AreRising (serials ks)) (sym now)
          (subst AreRising (sym (map-append (λ (j : StoredWaiter). j.id) (waiters_view ws) (k ∷ [])))
          (rising_push (λ (j : StoredWaiter). j.id) k.id (waiters_view ws) c.self.invariant.rising below));
      began = subst BeganInOrder (sym now) (began_push k (waiters_view ws) c.self.invariant.began before);
      indexed = subst (AreIndexed c.join.new.self.watchers) (sym now)
          (indexed_push c.self.inside.watchers.watchers c.join.new.self.watchers k (waiters_view ws) c.self.invariant.indexed c.join.ensures);
      due = subst (λ n. AreDueFrom n (waiters_view c.push_reserved.new.self.items)) (sym c.earlier-self-inside.ensures)
          (subst (AreDueFrom (earlier c.self.inside.due k.deadline)) (sym now) (due_push c.self.inside.due k (waiters_view ws) c.self.invariant.due));
    }
