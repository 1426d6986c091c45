-- The services in the slots that an index names.
use Rattle.std.proofs.Common.{◌≡◌, ◌≢◌, ◌∙◌, ℕ, zero, suc, Bool, true, false, cond, ◌||◌, List, [], ◌∷◌, ◌++◌, length, find, slice_get, Option}
use Rattle.std.proofs.Common.{None, Some, is_some, IsSomeAnd, option_and_then, bytes_eq, refl, sym, ap, ap₂, subst, arith, append_assoc}
use Rattle.std.proofs.Common.{true≢false}
use Rattle.std.proofs.lemmas.Option.{none-some}
use Rattle.std.proofs.lemmas.Map.Keys.{IsDistinct-head, IsDistinct-tail}
use Rattle.std.specs.List.{IsDistinct, AllByRecursion, list_any}
use Rattle.std.specs.Option.{option_to_list}
use Rattle.std.specs.Map.{lookup, keys_of}
use Rattle.slab.specs.Slab.{Slab, get, Updates}
use Rattle.supervise_core.specs.Service.{Supervised}
use Rattle.svscan_core.specs.Names.{lists, repeats_name}
use Rattle.svscan_core.specs.Table.{charts_of, names_of}
use Rattle.svscan_core.specs.SlotFields.{services_in, AreHeld}

-- the names of an index and their slots
abbrev pub Pairs : Type 0
Pairs = List (List ℕ × ℕ)

opened : (o : Option Supervised) (P : Supervised → Type 0) → IsSomeAnd o P → (s : Supervised) × (o ≡ Some s) × P s
opened None P h = absurd h
opened (Some s) P h = (s, refl, h)

-- the service in the slot of a pair
pub held_first : (slots : Slab Supervised) (p : List ℕ × ℕ) → IsSomeAnd (get slots p.1) (λ s. s.chart.name ≡ p.0)
    → (s : Supervised) × (get slots p.1 ≡ Some s) × (s.chart.name ≡ p.0)
held_first slots p h = opened (get slots p.1) (λ s. s.chart.name ≡ p.0) h

-- as many as the index names
pub length-services_in : (slots : Slab Supervised) (ps : Pairs) → AreHeld slots ps → length (services_in slots ps) ≡ length ps
length-services_in slots [] h = refl
length-services_in slots (p ∷ ps) h =
    let o = held_first slots p h.0 in let rest = length-services_in slots ps h.1 in rw o.1 (omega (arith, rest))

-- their names are those of the index
pub names_held : (slots : Slab Supervised) (ps : Pairs) → AreHeld slots ps → names_of (charts_of (services_in slots ps)) ≡ keys_of ps
names_held slots [] h = refl
names_held slots (p ∷ ps) h =
    let o = held_first slots p h.0 in rw o.1 (ap₂ (λ x xs. x ∷ xs) o.2 (names_held slots ps h.1))

-- where no name is equal to one after it none is there twice
unlisted : (name : List ℕ) (names : List (List ℕ)) → AllByRecursion (λ y. bytes_eq name y ≡ false) names → lists names name ≡ false
unlisted name [] all = refl
unlisted name (x ∷ names) all = ap₂ (λ a b. a || b) all.0 (unlisted name names all.1)

pub distinct_names : (names : List (List ℕ)) → IsDistinct bytes_eq names → repeats_name names ≡ false
distinct_names [] d = refl
distinct_names (x ∷ names) d =
    ap₂ (λ a b. a || b) (unlisted x names (IsDistinct-head bytes_eq x names d)) (distinct_names names (IsDistinct-tail bytes_eq x names d))

-- the i-th is in the i-th slot of the index
pub services_in-at : (slots : Slab Supervised) (ps : Pairs) (i : ℕ) → AreHeld slots ps
    → slice_get (services_in slots ps) i ≡ option_and_then (λ p. get slots p.1) (slice_get ps i)
services_in-at slots [] i h = refl
services_in-at slots (p ∷ ps) zero h = let o = held_first slots p h.0 in rw o.1 refl
services_in-at slots (p ∷ ps) (suc i) h = let o = held_first slots p h.0 in rw o.1 (services_in-at slots ps i h.1)

-- the one of a name is in the slot that the index has for it
pub services_in-named : (slots : Slab Supervised) (ps : Pairs) (name : List ℕ) → AreHeld slots ps
    → find (λ s. bytes_eq name s.chart.name) (services_in slots ps) ≡ option_and_then (λ k. get slots k) (lookup (bytes_eq name) ps)
services_in-named slots [] name h = refl
services_in-named slots (p ∷ ps) name h =
    let o = held_first slots p h.0 in
    rw (o.1, o.2) (by (bytes_eq name p.0) o.0 o.1 _ _ (services_in-named slots ps name h.1))
  where
    by : (b : Bool) (s : Supervised) → get slots p.1 ≡ Some s → (x : Option Supervised) (y : Option ℕ) → x ≡ option_and_then (λ k. get slots k) y
        → cond b (Some s) x ≡ option_and_then (λ k. get slots k) (cond b (Some p.1) y)
    by true s is x y r = sym is
    by false s is x y r = r

-- one has the name just where the index has it
pub any_named : (slots : Slab Supervised) (ps : Pairs) (name : List ℕ) → AreHeld slots ps
    → list_any (λ s. bytes_eq name s.chart.name) (services_in slots ps) ≡ is_some (lookup (bytes_eq name) ps)
any_named slots [] name h = refl
any_named slots (p ∷ ps) name h =
    let o = held_first slots p h.0 in
    rw (o.1, o.2) (by (bytes_eq name p.0) _ _ (any_named slots ps name h.1))
  where
    by : (b x : Bool) (y : Option ℕ) → x ≡ is_some y → (b || x) ≡ is_some (cond b (Some p.1) y)
    by true x y r = refl
    by false x y r = r

-- a name that none has is not in the index
pub absent : (slots : Slab Supervised) (ps : Pairs) (name : List ℕ) → AreHeld slots ps
    → list_any (λ s. bytes_eq name s.chart.name) (services_in slots ps) ≡ false → lookup (bytes_eq name) ps ≡ None
absent slots ps name h none = by (lookup (bytes_eq name) ps) (sym (any_named slots ps name h) ∙ none)
  where
    by : (o : Option ℕ) → is_some o ≡ false → o ≡ None
    by None e = refl
    by (Some k) e = absurd (true≢false e)

-- a service in a slot that was vacant leaves the others
services_in-kept : (old new : Slab Supervised) (key : ℕ) (v : Supervised) (ps : Pairs) → Updates old new key (Some v) → get old key ≡ None
    → AreHeld old ps
    → (services_in new ps ≡ services_in old ps) × AreHeld new ps
services_in-kept old new key v [] u none h = (refl, tt)
services_in-kept old new key v (p ∷ ps) u none h =
    let o = held_first old p h.0 in
    let apart : p.1 ≢ key = λ e. none-some o.0 (sym none ∙ ap (λ k. get old k) (sym e) ∙ o.1) in
    let same = u.others p.1 apart in
    let rest = services_in-kept old new key v ps u none h.1 in
    let P : Option Supervised → Type 0 = λ x. IsSomeAnd x (λ s. s.chart.name ≡ p.0) in
    (ap₂ (λ x y. option_to_list x ++ y) same rest.0, (subst P (sym same) h.0, rest.1))

services_in-push : (slots : Slab Supervised) (ps : Pairs) (name : List ℕ) (key : ℕ) (s : Supervised) → get slots key ≡ Some s
    → services_in slots (ps ++ (name, key) ∷ []) ≡ services_in slots ps ++ s ∷ []
services_in-push slots [] name key s is = rw is refl
services_in-push slots (p ∷ ps) name key s is =
    ap (λ rest. option_to_list (get slots p.1) ++ rest) (services_in-push slots ps name key s is)
    ∙ sym (append_assoc (option_to_list (get slots p.1)) (services_in slots ps) (s ∷ []))

AreHeld-push : (slots : Slab Supervised) (ps : Pairs) (name : List ℕ) (key : ℕ) (s : Supervised) → get slots key ≡ Some s → s.chart.name ≡ name
    → AreHeld slots ps → AreHeld slots (ps ++ (name, key) ∷ [])
AreHeld-push slots [] name key s is named h =
    let P : Option Supervised → Type 0 = λ x. IsSomeAnd x (λ s. s.chart.name ≡ name) in (subst P (sym is) named, tt)
AreHeld-push slots (p ∷ ps) name key s is named h = (h.0, AreHeld-push slots ps name key s is named h.1)

-- one more under a new name goes last
pub adds : (old new : Slab Supervised) (ps qs : Pairs) (key : ℕ) (s : Supervised) → Updates old new key (Some s) → get old key ≡ None
    → AreHeld old ps
    → qs ≡ ps ++ (s.chart.name, key) ∷ [] → (services_in new qs ≡ services_in old ps ++ s ∷ []) × AreHeld new qs
adds old new ps qs key s u vacant held q =
    let kept = services_in-kept old new key s ps u vacant held in (
      rw q (services_in-push new ps s.chart.name key s u.changed ∙ ap (λ x. x ++ s ∷ []) kept.0),
      rw q (AreHeld-push new ps s.chart.name key s u.changed refl kept.1),
    )
