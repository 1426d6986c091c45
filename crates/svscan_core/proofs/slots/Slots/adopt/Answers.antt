use Rattle.std.proofs.Common.{◌≡◌, ◌∙◌, ℕ, List, refl, sym, ap, subst, Option, None, Some, option_map, slice_get, slice_set}
use Rattle.std.specs.Prelude.{option_and_then, IsSomeAnd}
use Rattle.std.proofs.lemmas.Option.{none-some, same_Some}
use Rattle.slab.specs.Slab.{get, Updates}
use Rattle.supervise_core.specs.Service.{Supervised, with_view}
use Rattle.svscan_core.specs.SlotFields.{services_in, AreHeld}
use Rattle.svscan_core.proofs.Held.{services_in-at}
use Rattle.svscan_core.proofs.Changed.{changes}
use Rattle.svscan_core.proofs.slots.Slots.adopt.Given.{Over}
use Rattle.svscan_core.proofs.slots.Slots.adopt.Goals as goal

-- the service at the place takes over what it became
taken : (g : Over) (c : goal.After-adopt_in g) (s : Supervised)
    → slice_get (services_in c.self.inside.slots c.self.inside.index.entries) c.args.place ≡ Some s
    → (services_in c.adopt_in.new.slots c.self.inside.index.entries
    ≡ slice_set (services_in c.self.inside.slots c.self.inside.index.entries) c.args.place (with_view c.args.standing.now c.args.death s))
    × AreHeld c.adopt_in.new.slots c.self.inside.index.entries
taken g c s there =
    let old = c.self.inside.slots in
    let ps = c.self.inside.index.entries in
    let pair : List ℕ × ℕ = (c.in-Some.field-0-0.now, c.in-Some.slot.now) in
    let at : slice_get ps c.args.place ≡ Some pair = sym c.get_index.ensures.entry ∙ ap (option_map (λ e. (e.0.now, e.1.now))) c.in-Some.is in
    let own : get old c.in-Some.slot.now ≡ Some s =
    sym (services_in-at old ps c.args.place c.self.invariant ∙ ap (option_and_then (λ p. get old p.1)) at) ∙ there in
    changes (with_view c.args.standing.now c.args.death s) old c.adopt_in.new.slots ps c.args.place pair
    (rw (← c.self.view_is) at c.requires.name)
    (λ t is. subst (λ (x : Supervised). Updates old c.adopt_in.new.slots c.in-Some.slot.now (Some (with_view c.args.standing.now c.args.death x)))
    (same_Some t s (sym is ∙ own)) (c.adopt_in.ensures.updates t is))
    at c.len-count.ensures.unique c.self.invariant

-- one stands at the place
there : (g : Over) (c : goal.After-adopt_in g)
    → (s : Supervised) × (slice_get (services_in c.self.inside.slots c.self.inside.index.entries) c.args.place ≡ Some s)
there g c = by (slice_get (services_in c.self.inside.slots c.self.inside.index.entries) c.args.place) refl
    (rw (← c.self.view_is) at c.requires.name)
  where
    by : (o : Option Supervised) → slice_get (services_in c.self.inside.slots c.self.inside.index.entries) c.args.place ≡ o
        → IsSomeAnd o (λ s. s.chart.name ≡ c.args.standing.now.chart.name)
        → (s : Supervised) × (slice_get (services_in c.self.inside.slots c.self.inside.index.entries) c.args.place ≡ Some s)
    by None is h = absurd h
    by (Some s) is h = (s, is)

pub invariant_of-self : goal.invariant_of-self
invariant_of-self g c = let s = there g c in (taken g c s.0 s.1).1

pub returns-in-Some-clause-services : goal.returns-in-Some-clause-services
returns-in-Some-clause-services g c = rw (← c.self.view_is) (λ s is. (taken g c s is).0)

pub returns-in_default-clause-services : goal.returns-in_default-clause-services
returns-in_default-clause-services g c =
    let ps = c.self.inside.index.entries in
    let none : slice_get ps c.args.place ≡ None = sym c.get_index.ensures.entry ∙ ap (option_map (λ e. (e.0.now, e.1.now))) c.in_default.is in
    rw (← c.self.view_is)
    (λ s is. absurd (none-some s (sym (services_in-at c.self.inside.slots ps c.args.place c.self.invariant
    ∙ ap (option_and_then (λ p. get c.self.inside.slots p.1)) none) ∙ is)))
