-- A change in place.
use Rattle.std.proofs.Common.{◌≡◌, ◌≢◌, ◌∙◌, ℕ, zero, suc, false, List, [], ◌∷◌, ◌++◌, slice_get, slice_set, Option, Some, IsSomeAnd, bytes_eq}
use Rattle.std.proofs.Common.{refl, sym, ap, ap₂, subst}
use Rattle.std.proofs.lemmas.Option.{none-some, same_Some}
use Rattle.std.proofs.lemmas.Map.Keys.{IsDistinct-head, IsDistinct-tail}
use Rattle.std.specs.List.{IsDistinct, AllByRecursion}
use Rattle.std.specs.Option.{option_to_list}
use Rattle.std.specs.Map.{keys_of}
use Rattle.slab.specs.Slab.{Slab, get, Updates}
use Rattle.supervise_core.specs.Service.{Supervised}
use Rattle.svscan_core.specs.SlotFields.{services_in, AreHeld}
use Rattle.svscan_core.proofs.Held.{Pairs, held_first}
use Rattle.svscan_core.proofs.Removed.{apart_of, kept_others}

-- what holds of all keys holds of the one at a place
key_at : (P : List ℕ → Type 0) (ps : Pairs) (i : ℕ) (p : List ℕ × ℕ) → AllByRecursion P (keys_of ps) → slice_get ps i ≡ Some p → P p.0
key_at P [] i p all at = absurd (none-some p at)
key_at P (q ∷ ps) zero p all at = subst (λ (x : List ℕ × ℕ). P x.0) (same_Some q p at) all.0
key_at P (q ∷ ps) (suc i) p all at = key_at P ps i p all.1 at

-- the service in the slot of the pair at a place
slot_at : (slots : Slab Supervised) (ps : Pairs) (i : ℕ) (p : List ℕ × ℕ) → AreHeld slots ps → slice_get ps i ≡ Some p
    → (s : Supervised) × (get slots p.1 ≡ Some s) × (s.chart.name ≡ p.0)
slot_at slots [] i p h at = absurd (none-some p at)
slot_at slots (q ∷ ps) zero p h at =
    subst (λ (x : List ℕ × ℕ). (s : Supervised) × (get slots x.1 ≡ Some s) × (s.chart.name ≡ x.0)) (same_Some q p at) (held_first slots q h.0)
slot_at slots (q ∷ ps) (suc i) p h at = slot_at slots ps i p h.1 at

-- the pair of another name has another slot
other_slot : (slots : Slab Supervised) (p : List ℕ × ℕ) (key : ℕ) (s : Supervised) (name : List ℕ) → get slots key ≡ Some s → s.chart.name ≡ name
    → (g : Supervised) × (get slots p.1 ≡ Some g) × (g.chart.name ≡ p.0) → bytes_eq name p.0 ≡ false → key ≢ p.1
other_slot slots p key s name is named there differs = λ same.
    apart_of slots p key s name is named (subst (λ (o : Option Supervised). IsSomeAnd o (λ g. g.chart.name ≡ p.0)) (sym there.1) there.2) differs
    (sym same)

-- a service that takes another state in its slot has it at its place, and every other one stays
pub changes : (v : Supervised) (old new : Slab Supervised) (ps : Pairs) (i : ℕ) (p : List ℕ × ℕ)
    → IsSomeAnd (slice_get (services_in old ps) i) (λ s. s.chart.name ≡ v.chart.name)
    → ((s : Supervised) → get old p.1 ≡ Some s → Updates old new p.1 (Some v))
    → slice_get ps i ≡ Some p → IsDistinct bytes_eq (keys_of ps) → AreHeld old ps
    → (services_in new ps ≡ slice_set (services_in old ps) i v) × AreHeld new ps
changes v old new [] i p keeps us at d h = absurd (none-some p at)
changes v old new (q ∷ ps) zero p keeps us at d h =
    let o = held_first old q h.0 in
    let one : q ≡ p = same_Some q p at in
    let is : get old p.1 ≡ Some o.0 = ap (λ (x : List ℕ × ℕ). get old x.1) (sym one) ∙ o.1 in
    let u = us o.0 is in
    let rest = kept_others old new p.1 (Some v) o.0 q.0 ps u is o.2 (IsDistinct-head bytes_eq q.0 (keys_of ps) d) h.1 in
    let now : get new q.1 ≡ Some v = ap (λ (x : List ℕ × ℕ). get new x.1) one ∙ u.changed in
    let same : o.0.chart.name ≡ v.chart.name = rw o.1 at keeps in
    rw (o.1, now) (ap (λ es. v ∷ es) rest.0, (sym same ∙ o.2, rest.1))
changes v old new (q ∷ ps) (suc i) p keeps us at d h =
    let o = held_first old q h.0 in
    let rest = changes v old new ps i p (rw o.1 at keeps) us at (IsDistinct-tail bytes_eq q.0 (keys_of ps) d) h.1 in
    let differs : bytes_eq q.0 p.0 ≡ false = key_at (λ y. bytes_eq q.0 y ≡ false) ps i p (IsDistinct-head bytes_eq q.0 (keys_of ps) d) at in
    let there = slot_at old ps i p h.1 at in
    let apart : q.1 ≢ p.1 = λ same. other_slot old p q.1 o.0 q.0 o.1 o.2 there differs same in
    let same = (us there.0 there.1).others q.1 apart in
    let P : Option Supervised → Type 0 = λ x. IsSomeAnd x (λ s. s.chart.name ≡ q.0) in
    (ap₂ (λ x y. option_to_list x ++ y) (same ∙ o.1) rest.0 ∙ sym (rw o.1 refl), (subst P (sym same) h.0, rest.1))
