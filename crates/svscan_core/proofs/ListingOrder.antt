-- The names of a listing in the order of their bytes are those of the listing.
use Rattle.std.proofs.Common.{◌≡◌, ℕ, List, [], ◌∷◌, ◌++◌, Bool, true, false, ◌||◌, ◌+◌, ◌<◌, not, length, take, get_or, refl, sym, ◌∙◌, ap}
use Rattle.std.specs.Prelude.{bytes_eq, fold}
use Rattle.std.specs.List.{list_any}
use Rattle.std.proofs.lemmas.List.{take_more}
use Rattle.std.proofs.lemmas.List.Sums.{fold-append}
use Rattle.std.specs.Ordering.{nat_cmp, match_ordering, is_eq}
use Rattle.std.specs.declared.cmp.Ordering.{Ordering}
use Rattle.std.specs.declared.cmp.Ordering.TheVariants.{Less, Equal, Greater}
use Rattle.std.specs.Cmp.Lexicographic.{slice_cmp, texts_ties, bytes_decides, nat_list_eq_equiv}
use Rattle.std.specs.BTreeSet.{insert_key}
use Rattle.svscan_core.specs.Listing.{in_byte_order}
use Rattle.svscan_core.specs.Names.{lists, repeats_name}

or_twice : (a b : Bool) → (b || a) ≡ (b || (b || a))
or_twice a true = refl
or_twice a false = refl

or_swap : (a b c : Bool) → (a || (b || c)) ≡ (b || (a || c))
or_swap true true c = refl
or_swap true false c = refl
or_swap false b c = refl

pub or_joined : (a b c : Bool) → ((a || b) || c) ≡ (a || (b || c))
or_joined true b c = refl
or_joined false b c = refl

-- names that compare equal are one name
pub same_name : (k x : List ℕ) → slice_cmp nat_cmp k x ≡ Equal → k ≡ x
same_name k x e = (bytes_decides k x).0 (texts_ties k x ∙ ap is_eq e)

-- a name is among the names where another one was put in order, where it is that one or was there
pub in_order-found : (q k : List ℕ) (ks : List (List ℕ))
    → list_any (bytes_eq q) (insert_key (slice_cmp nat_cmp) ks k) ≡ (bytes_eq q k || list_any (bytes_eq q) ks)
in_order-found q k [] = refl
in_order-found q k (x ∷ xs) = by_order (slice_cmp nat_cmp k x) refl (in_order-found q k xs)
  where
    by_order : (o : Ordering) → slice_cmp nat_cmp k x ≡ o
        → list_any (bytes_eq q) (insert_key (slice_cmp nat_cmp) xs k) ≡ (bytes_eq q k || list_any (bytes_eq q) xs)
        → list_any (bytes_eq q) (match_ordering o (k ∷ x ∷ xs) (x ∷ xs) (x ∷ insert_key (slice_cmp nat_cmp) xs k))
        ≡ (bytes_eq q k || (bytes_eq q x || list_any (bytes_eq q) xs))
    by_order Less e rest = refl
    by_order Equal e rest = or_twice (list_any (bytes_eq q) xs) (bytes_eq q x)
        ∙ ap (λ n. bytes_eq q n || (bytes_eq q x || list_any (bytes_eq q) xs)) (sym (same_name k x e))
    by_order Greater e rest = ap (λ b. bytes_eq q x || b) rest ∙ or_swap (bytes_eq q x) (bytes_eq q k) (list_any (bytes_eq q) xs)

pub all_found : (q : List ℕ) (ks names : List (List ℕ))
    → list_any (bytes_eq q) (fold (insert_key (slice_cmp nat_cmp)) ks names) ≡ (list_any (bytes_eq q) ks || list_any (bytes_eq q) names)
all_found q ks [] = or_none (list_any (bytes_eq q) ks)
  where
    or_none : (a : Bool) → a ≡ (a || false)
    or_none true = refl
    or_none false = refl
all_found q ks (k ∷ names) =
    all_found q (insert_key (slice_cmp nat_cmp) ks k) names
    ∙ (ap (λ b. b || list_any (bytes_eq q) names) (in_order-found q k ks)
    ∙ (or_joined (bytes_eq q k) (list_any (bytes_eq q) ks) (list_any (bytes_eq q) names)
    ∙ or_swap (bytes_eq q k) (list_any (bytes_eq q) ks) (list_any (bytes_eq q) names)))

-- the set of the names so far has a name where it was listed
pub listed_before : (names : List (List ℕ)) (q : List ℕ) → list_any (λ k. is_eq (slice_cmp nat_cmp q k)) (in_byte_order names) ≡ lists names q
listed_before names q = sym (λ i. list_any (λ k. texts_ties q k i) (in_byte_order names)) ∙ all_found q [] names

same_both_ways : (x y : List ℕ) → bytes_eq x y ≡ bytes_eq y x
same_both_ways x y = nat_list_eq_equiv.symm x y

pub listed_last : (names : List (List ℕ)) (x q : List ℕ) → lists (names ++ x ∷ []) q ≡ (lists names q || bytes_eq q x)
listed_last [] x q = or_false (bytes_eq q x)
  where
    or_false : (a : Bool) → (a || false) ≡ a
    or_false true = refl
    or_false false = refl
listed_last (n ∷ names) x q = ap (λ b. bytes_eq q n || b) (listed_last names x q) ∙ sym (or_joined (bytes_eq q n) (lists names q) (bytes_eq q x))

-- one more name is there twice where it was listed before
pub repeats_last : (names : List (List ℕ)) (x : List ℕ) → repeats_name (names ++ x ∷ []) ≡ (repeats_name names || lists names x)
repeats_last [] x = refl
repeats_last (n ∷ names) x =
    (λ i. listed_last names x n i || repeats_last names x i)
    ∙ (ap (λ b. (lists names n || b) || (repeats_name names || lists names x)) (same_both_ways n x)
    ∙ regrouped (lists names n) (bytes_eq x n) (repeats_name names) (lists names x))
  where
    regrouped : (a b c d : Bool) → ((a || b) || (c || d)) ≡ ((a || c) || (b || d))
    regrouped true b c d = refl
    regrouped false true true d = refl
    regrouped false true false d = refl
    regrouped false false c d = refl

-- the first i + 1 names are the first i and the name at i
pub more_names : (listing : List (List ℕ)) (i : ℕ) (name : List ℕ) → i < length listing → name ≡ get_or listing i name
    → take (i + 1) listing ≡ take i listing ++ name ∷ []
more_names listing i name lt at = take_more listing i name lt ∙ ap (λ n. take i listing ++ n ∷ []) (sym at)

-- one more name in order
pub order_more : (listing : List (List ℕ)) (i : ℕ) (name : List ℕ) (before : List (List ℕ)) → i < length listing → name ≡ get_or listing i name
    → before ≡ in_byte_order (take i listing)
    → insert_key (slice_cmp nat_cmp) before name ≡ in_byte_order (take (i + 1) listing)
order_more listing i name before lt at was =
    ap (λ b. insert_key (slice_cmp nat_cmp) b name) was
    ∙ (sym (fold-append (insert_key (slice_cmp nat_cmp)) [] (take i listing) (name ∷ []))
    ∙ ap in_byte_order (sym (more_names listing i name lt at)))

pub twice : (b : Bool) → not (not b) ≡ b
twice true = refl
twice false = refl

-- one more name, and whether it was there before
pub repeats_more : (listing : List (List ℕ)) (i : ℕ) (name : List ℕ) (before : List (List ℕ)) (was added : Bool) → i < length listing
    → name ≡ get_or listing i name
    → before ≡ in_byte_order (take i listing) → was ≡ repeats_name (take i listing)
    → added ≡ not (list_any (λ k. is_eq (slice_cmp nat_cmp name k)) before)
    → (was || not added) ≡ repeats_name (take (i + 1) listing)
repeats_more listing i name before was added lt at names seen new =
    (λ j. seen j || not (new j))
    ∙ (ap (λ b. repeats_name (take i listing) || b) (twice (list_any (λ k. is_eq (slice_cmp nat_cmp name k)) before))
    ∙ (ap (λ b. repeats_name (take i listing) || list_any (λ k. is_eq (slice_cmp nat_cmp name k)) b) names
    ∙ (ap (λ b. repeats_name (take i listing) || b) (listed_before (take i listing) name)
    ∙ (sym (repeats_last (take i listing) name)
    ∙ ap repeats_name (sym (more_names listing i name lt at))))))
