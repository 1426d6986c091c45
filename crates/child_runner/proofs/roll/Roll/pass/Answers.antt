use Rattle.std.proofs.Common.{◌≡◌, ◌∷◌, ◌++◌, List, [], Some, slice_get, subst}
use Rattle.s6_events.specs.declared.order.Order.{Order}
use Rattle.child_runner.specs.Roll.{RollView, orders_in, reports_in, Passes}
use Rattle.child_runner.proofs.roll.Roll.pass.Goals as goal

pub returns-clause-given : goal.returns-clause-given
returns-clause-given c =
    let a = c.in_ok-place.ensures.answered in
    let old : RollView = record {
      asked = orders_in c.self.inside.asked.items;
      given = reports_in c.self.inside.given.items;
      living = c.self.inside.living.items;
    } in
    let new : RollView = record {
      asked = orders_in c.self.inside.asked.items;
      given = reports_in c.add_given.new.given.items;
      living = c.end_last.new.living.items;
    } in
    let there = subst (λ (orders : List Order). slice_get orders c.in_ok-place.place ≡ Some a.0) c.as_slice.ensures.value a.1 in
    let given : reports_in c.add_given.new.given.items ≡ old.given ++ c.args.report ∷ [] = c.in-Ok.ensures.added in
    let lives = c.end_last.ensures.left in
    let passes : Passes c.args.report old new =
    (c.in_ok-place.place, a.0, there, a.2, λ i. record { asked = old.asked; given = given i; living = lives i }) in
    subst (λ (v : RollView). Passes c.args.report v new) c.self.view_is passes
