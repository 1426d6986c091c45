use Rattle.std.proofs.Common.{◌==◌, not, ◌∙◌, sym, ap, map, rules, subst, All}
use Rattle.std.proofs.lemmas.Fn.{filter_same}
use Rattle.std.proofs.lemmas.List.Elements.{All-filter}
use Rattle.wait_conditions.specs.declared.waiter.Waiter.{Waiter}
use Rattle.wait_conditions.specs.Kept.{waiter_view}
use Rattle.wait_conditions.specs.WaitsFields.{IsCounted}
use Rattle.wait_conditions.proofs.Named.{stored_left}
use Rattle.wait_conditions.proofs.waiter_list.drop_named.Goals as goal

pub returns-clause-waiters : goal.returns-clause-waiters
returns-clause-waiters g c =
    ap (map waiter_view) (filter_same _ (λ (w : Waiter). not (w.id == c.args.id)) _ (λ x b f k. search rules) _ _ c.retain.ensures.filtered)
    ∙ sym (stored_left c.args.id c.args.waiters.now.items)

pub returns-clause-counted : goal.returns-clause-counted
returns-clause-counted g c =
    subst (All IsCounted)
    (sym (filter_same _ (λ (w : Waiter). not (w.id == c.args.id)) _ (λ x b f k. search rules) _ _ c.retain.ensures.filtered))
    (All-filter (λ (w : Waiter). not (w.id == c.args.id)) IsCounted c.args.waiters.now.items c.requires)
