-- The names of a listing in the order of their bytes rise, and none is there twice.
use Rattle.std.proofs.Common.{◌≡◌, ℕ, List, [], ◌∷◌, false, refl, ◌∙◌, ap}
use Rattle.std.specs.Prelude.{fold, bytes_eq}
use Rattle.std.specs.List.{AllByRecursion}
use Rattle.std.specs.List.Sorted.{IsStrictlySortedBy}
use Rattle.std.specs.Ordering.{nat_cmp, match_ordering, ordering_reverse, is_eq}
use Rattle.std.specs.declared.cmp.Ordering.{Ordering}
use Rattle.std.specs.declared.cmp.Ordering.TheVariants.{Less, Equal, Greater}
use Rattle.std.specs.Cmp.Lexicographic.{slice_cmp, texts_ties}
use Rattle.std.proofs.lemmas.Cmp.{nat_list_cmp_total}
use Rattle.std.specs.BTreeSet.{insert_key}
use Rattle.svscan_core.specs.Listing.{in_byte_order}
use Rattle.svscan_core.specs.Names.{lists, repeats_name}
use Rattle.svscan_core.proofs.Truth.{neither_of}

-- the name comes before each of these
abbrev IsBefore : List ℕ → List (List ℕ) → Type 0
IsBefore name names = AllByRecursion (λ other. slice_cmp nat_cmp name other ≡ Less) names

before_more : (k x : List ℕ) (xs : List (List ℕ)) → slice_cmp nat_cmp k x ≡ Less → IsBefore x xs → IsBefore k xs
before_more k x [] e h = h
before_more k x (y ∷ ys) e h = (nat_list_cmp_total.trans k x y e h.0, before_more k x ys e h.1)

before_inserted : (x k : List ℕ) (xs : List (List ℕ)) → slice_cmp nat_cmp x k ≡ Less → IsBefore x xs
    → IsBefore x (insert_key (slice_cmp nat_cmp) xs k)
before_inserted x k [] e h = (e, h)
before_inserted x k (y ∷ ys) e h = by (slice_cmp nat_cmp k y) (before_inserted x k ys e h.1)
  where
    by : (o : Ordering) → IsBefore x (insert_key (slice_cmp nat_cmp) ys k)
        → IsBefore x (match_ordering o (k ∷ y ∷ ys) (y ∷ ys) (y ∷ insert_key (slice_cmp nat_cmp) ys k))
    by Less rest = (e, h)
    by Equal rest = h
    by Greater rest = (h.0, rest)

-- one more name in order keeps the order
insert_rises : (k : List ℕ) (xs : List (List ℕ)) → IsStrictlySortedBy (slice_cmp nat_cmp) xs
    → IsStrictlySortedBy (slice_cmp nat_cmp) (insert_key (slice_cmp nat_cmp) xs k)
unfolding IsStrictlySortedBy
insert_rises k [] s = (s, s)
insert_rises k (x ∷ xs) s = by (slice_cmp nat_cmp k x) refl (insert_rises k xs s.1)
  where
    by : (o : Ordering) → slice_cmp nat_cmp k x ≡ o → IsStrictlySortedBy (slice_cmp nat_cmp) (insert_key (slice_cmp nat_cmp) xs k)
        → IsStrictlySortedBy (slice_cmp nat_cmp) (match_ordering o (k ∷ x ∷ xs) (x ∷ xs) (x ∷ insert_key (slice_cmp nat_cmp) xs k))
    by Less e rest = ((e, before_more k x xs e s.0), s)
    by Equal e rest = s
    by Greater e rest = (before_inserted x k xs (nat_list_cmp_total.antisymm x k ∙ ap ordering_reverse e) s.0, rest)

all_rise : (names before : List (List ℕ)) → IsStrictlySortedBy (slice_cmp nat_cmp) before
    → IsStrictlySortedBy (slice_cmp nat_cmp) (fold (insert_key (slice_cmp nat_cmp)) before names)
all_rise [] before s = s
all_rise (name ∷ names) before s = all_rise names (insert_key (slice_cmp nat_cmp) before name) (insert_rises name before s)

pub order_rises : (names : List (List ℕ)) → IsStrictlySortedBy (slice_cmp nat_cmp) (in_byte_order names)
unfolding IsStrictlySortedBy
order_rises names = all_rise names [] tt

-- none of them is there twice
apart_of : (name other : List ℕ) → slice_cmp nat_cmp name other ≡ Less → bytes_eq name other ≡ false
apart_of name other e = texts_ties name other ∙ ap is_eq e

unlisted : (name : List ℕ) (names : List (List ℕ)) → IsBefore name names → lists names name ≡ false
unlisted name [] h = refl
unlisted name (x ∷ names) h = neither_of (bytes_eq name x) _ (apart_of name x h.0) (unlisted name names h.1)

once_rising : (names : List (List ℕ)) → IsStrictlySortedBy (slice_cmp nat_cmp) names → repeats_name names ≡ false
unfolding IsStrictlySortedBy
once_rising [] s = refl
once_rising (x ∷ names) s = neither_of (lists names x) _ (unlisted x names s.0) (once_rising names s.1)

pub order_once : (names : List (List ℕ)) → repeats_name (in_byte_order names) ≡ false
order_once names = once_rising (in_byte_order names) (order_rises names)
