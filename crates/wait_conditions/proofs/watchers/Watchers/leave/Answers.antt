use Rattle.std.proofs.Common.{◌==◌, ◌∙◌, ap, sym, subst, not, rules}
use Rattle.std.specs.List.Sorted.{IsNonDecreasingBy}
use Rattle.std.proofs.lemmas.Fn.{filter_same}
use Rattle.std.proofs.lemmas.List.Kept.{IsNonDecreasingBy-filter}
use Rattle.wait_conditions.specs.declared.watchers.Watcher.{Watcher}
use Rattle.wait_conditions.specs.Watchers.{serials_of}
use Rattle.wait_conditions.proofs.Indexed.{left_is}
use Rattle.wait_conditions.proofs.watchers.Watchers.leave.Goals as goal

pub invariant_of-self : goal.invariant_of-self
invariant_of-self g c =
    subst (IsNonDecreasingBy (λ (w : Watcher). w.sid))
    (sym (filter_same _ (λ (w : Watcher). not (w.waiter == c.args.waiter)) _ (λ x b f k. search rules) _ _ c.retain.ensures.filtered))
    (IsNonDecreasingBy-filter (λ (w : Watcher). w.sid) (λ w. not (w.waiter == c.args.waiter)) c.self.inside.list.items c.self.invariant)

pub returns-clause-serials : goal.returns-clause-serials
returns-clause-serials g c = λ sid.
    rw (← c.self.view_is)
    (ap (serials_of sid) (filter_same _ (λ (w : Watcher). not (w.waiter == c.args.waiter)) _ (λ x b f k. search rules) _ _ c.retain.ensures.filtered)
    ∙ left_is sid c.args.waiter c.self.inside.list.items)
