use Rattle.std.proofs.Common.{sym, subst}
use Rattle.std.proofs.lemmas.List.Elements.{All-filter}
use Rattle.s6_events.proofs.Rising.{rising_left}
use Rattle.s6_events.specs.Rising.{AreRising}
use Rattle.wait_conditions.specs.Kept.{StoredWaiter, is_other}
use Rattle.wait_conditions.specs.WaitsFields.{waiters_view}
use Rattle.wait_conditions.specs.Watchers.{AreDueFrom, AreIndexed, BeganInOrder, IsDueFrom}
use Rattle.wait_conditions.proofs.Ordered.{began_left, indexed_left}
use Rattle.wait_conditions.proofs.Searching.{serials}
use Rattle.wait_conditions.proofs.waiter_list.WaiterList.remove.Goals as goal

pub invariant_of-self : goal.invariant_of-self
invariant_of-self g c =
    let W = waiters_view c.self.inside.waiters.items in
    let now = c.drop_named.ensures.waiters in
    record {
      counted = c.drop_named.ensures.counted;
      rising = subst (λ ks. AreRising (serials ks)) (sym now)
          (rising_left (λ (j : StoredWaiter). j.id) (is_other c.args.id) W c.self.invariant.rising);
      began = subst BeganInOrder (sym now) (began_left (is_other c.args.id) W c.self.invariant.began);
      indexed = subst (AreIndexed c.leave.new.self.watchers) (sym now)
          (indexed_left c.self.inside.watchers.watchers c.leave.new.self.watchers c.args.id W c.self.invariant.indexed c.leave.ensures.serials);
      due = subst (AreDueFrom c.self.inside.due) (sym now) (All-filter (is_other c.args.id) (IsDueFrom c.self.inside.due) W c.self.invariant.due);
    }
