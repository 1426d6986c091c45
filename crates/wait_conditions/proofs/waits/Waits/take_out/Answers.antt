use Rattle.std.proofs.Common.{◌<◌, ◌≤◌, All, sym, subst}
use Rattle.std.proofs.lemmas.List.Elements.{All-filter}
use Rattle.wait_conditions.specs.Kept.{StoredWaiter, is_other}
use Rattle.wait_conditions.proofs.waits.Waits.take_out.Goals as goal

pub invariant_of-self : goal.invariant_of-self
invariant_of-self g c = record {
  below = subst (All (λ (k : StoredWaiter). k.id < c.self.inside.next)) (sym c.remove.ensures)
      (All-filter (is_other c.args.id) (λ (k : StoredWaiter). k.id < c.self.inside.next) c.self.inside.list.waiters c.self.invariant.below);
  placed = subst (All (λ (k : StoredWaiter). k.place ≤ c.self.inside.count)) (sym c.remove.ensures)
      (All-filter (is_other c.args.id) (λ (k : StoredWaiter). k.place ≤ c.self.inside.count) c.self.inside.list.waiters c.self.invariant.placed);
  few = c.self.invariant.few;
}
