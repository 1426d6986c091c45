-- What a removal leaves.
use Rattle.std.proofs.Common.{◌≡◌, ◌≢◌, ◌∙◌, ℕ, Bool, true, false, cond, List, [], ◌∷◌, ◌++◌, Option, None, Some, IsSomeAnd, bytes_eq, refl, sym}
use Rattle.std.proofs.Common.{ap, ap₂, subst, true≢false}
use Rattle.std.proofs.lemmas.Option.{none-some, same_Some}
use Rattle.std.proofs.lemmas.Map.Keys.{IsDistinct-head, IsDistinct-tail}
use Rattle.std.specs.List.{IsDistinct, AllByRecursion}
use Rattle.std.specs.Option.{option_to_list}
use Rattle.std.specs.Cmp.Lexicographic.{nat_list_eq_equiv, same_text}
use Rattle.std.specs.Map.{lookup, remove_entry, keys_of}
use Rattle.slab.specs.Slab.{Slab, get, Updates}
use Rattle.supervise_core.specs.Service.{Supervised}
use Rattle.svscan_core.specs.Table.{without_name}
use Rattle.svscan_core.specs.SlotFields.{services_in, AreHeld}
use Rattle.svscan_core.proofs.Held.{Pairs, held_first}

-- the slot that the index has for a name holds a service of that name
pub held_named : (slots : Slab Supervised) (ps : Pairs) (name : List ℕ) (key : ℕ) → AreHeld slots ps → lookup (bytes_eq name) ps ≡ Some key
    → (s : Supervised) × (get slots key ≡ Some s) × (s.chart.name ≡ name)
held_named slots [] name key h at = absurd (none-some key at)
held_named slots (p ∷ ps) name key h at = by (bytes_eq name p.0) refl at (held_named slots ps name key h.1)
  where
    by : (b : Bool) → bytes_eq name p.0 ≡ b → cond b (Some p.1) (lookup (bytes_eq name) ps) ≡ Some key
        → (lookup (bytes_eq name) ps ≡ Some key → (s : Supervised) × (get slots key ≡ Some s) × (s.chart.name ≡ name))
        → (s : Supervised) × (get slots key ≡ Some s) × (s.chart.name ≡ name)
    by true e is later =
        let o = held_first slots p h.0 in
        (o.0, ap (λ k. get slots k) (sym (same_Some p.1 key is)) ∙ o.1, o.2 ∙ sym (same_text name p.0 (sym e)))
    by false e is later = later is

-- a pair of another name has another slot
pub apart_of : (slots : Slab Supervised) (p : List ℕ × ℕ) (key : ℕ) (s : Supervised) (name : List ℕ) → get slots key ≡ Some s → s.chart.name ≡ name
    → IsSomeAnd (get slots p.1) (λ f. f.chart.name ≡ p.0) → bytes_eq name p.0 ≡ false → p.1 ≢ key
apart_of slots p key s name is named h differs = λ same.
    let o = held_first slots p h in
    let one : s ≡ o.0 = same_Some s o.0 (sym is ∙ ap (λ k. get slots k) (sym same) ∙ o.1) in
    let names : name ≡ p.0 = sym named ∙ ap (λ (f : Supervised). f.chart.name) one ∙ o.2 in
    true≢false (sym (nat_list_eq_equiv.refl name) ∙ ap (bytes_eq name) names ∙ differs)

-- slots of other names keep their services
pub kept_others : (old new : Slab Supervised) (key : ℕ) (slot : Option Supervised) (s : Supervised) (name : List ℕ) (ps : Pairs)
    → Updates old new key slot
    → get old key ≡ Some s → s.chart.name ≡ name → AllByRecursion (λ y. bytes_eq name y ≡ false) (keys_of ps) → AreHeld old ps
    → (services_in new ps ≡ services_in old ps) × AreHeld new ps
kept_others old new key slot s name [] u is named all h = (refl, tt)
kept_others old new key slot s name (p ∷ ps) u is named all h =
    let same = u.others p.1 (apart_of old p key s name is named h.0 all.0) in
    let rest = kept_others old new key slot s name ps u is named all.1 h.1 in
    let P : Option Supervised → Type 0 = λ x. IsSomeAnd x (λ f. f.chart.name ≡ p.0) in
    (ap₂ (λ x y. option_to_list x ++ y) same rest.0, (subst P (sym same) h.0, rest.1))

-- without the pair of a name and the service in its slot
pub removes : (old new : Slab Supervised) (key : ℕ) (s : Supervised) (name : List ℕ) (ps : Pairs) → Updates old new key None → get old key ≡ Some s
    → s.chart.name ≡ name → lookup (bytes_eq name) ps ≡ Some key → IsDistinct bytes_eq (keys_of ps) → AreHeld old ps
    → (services_in new (remove_entry (bytes_eq name) ps) ≡ without_name (services_in old ps) name) × AreHeld new (remove_entry (bytes_eq name) ps)
removes old new key s name [] u is named at d h = absurd (none-some key at)
removes old new key s name (p ∷ ps) u is named at d h =
    let o = held_first old p h.0 in
    rw (o.1, o.2) (by (bytes_eq name p.0) refl at
    (λ found. removes old new key s name ps u is named found (IsDistinct-tail bytes_eq p.0 (keys_of ps) d) h.1))
  where
    by : (b : Bool) → bytes_eq name p.0 ≡ b → cond b (Some p.1) (lookup (bytes_eq name) ps) ≡ Some key
        → (lookup (bytes_eq name) ps ≡ Some key
        → (services_in new (remove_entry (bytes_eq name) ps) ≡ without_name (services_in old ps) name)
        × AreHeld new (remove_entry (bytes_eq name) ps))
        → (services_in new (cond b ps (p ∷ remove_entry (bytes_eq name) ps))
        ≡ cond b (services_in old ps) ((held_first old p h.0).0 ∷ without_name (services_in old ps) name))
        × AreHeld new (cond b ps (p ∷ remove_entry (bytes_eq name) ps))
    by true t found later =
        let P : List ℕ → Type 0 = λ n. AllByRecursion (λ y. bytes_eq n y ≡ false) (keys_of ps) in
        kept_others old new key None s name ps u is named
        (subst P (sym (same_text name p.0 (sym t))) (IsDistinct-head bytes_eq p.0 (keys_of ps) d)) h.1
    by false t found later =
        let same = u.others p.1 (apart_of old p key s name is named h.0 t) in
        let rest = later found in
        let P : Option Supervised → Type 0 = λ x. IsSomeAnd x (λ f. f.chart.name ≡ p.0) in
        (ap₂ (λ x y. option_to_list x ++ y) (same ∙ (held_first old p h.0).1) rest.0, (subst P (sym same) h.0, rest.1))

-- a name that the index lacks takes nothing out
pub without-absent : (slots : Slab Supervised) (ps : Pairs) (name : List ℕ) → AreHeld slots ps → lookup (bytes_eq name) ps ≡ None
    → without_name (services_in slots ps) name ≡ services_in slots ps
without-absent slots [] name h none = refl
without-absent slots (p ∷ ps) name h none =
    let o = held_first slots p h.0 in
    rw (o.1, o.2) (by (bytes_eq name p.0) o.0 none (without-absent slots ps name h.1))
  where
    by : (b : Bool) (s : Supervised) → cond b (Some p.1) (lookup (bytes_eq name) ps) ≡ None
        → (lookup (bytes_eq name) ps ≡ None → without_name (services_in slots ps) name ≡ services_in slots ps)
        → cond b (services_in slots ps) (s ∷ without_name (services_in slots ps) name) ≡ s ∷ services_in slots ps
    by true s none later = absurd (none-some p.1 (sym none))
    by false s none later = ap (λ es. s ∷ es) (later none)
