-- Items that are changed one after the other.
use Rattle.std.proofs.Common.{◌≡◌, suc, ◌<◌, List, [], ◌∷◌, ◌++◌, length, slice_index_or, refl, sym, ap, arith}
use lib.ListN.{drop}
use Rattle.office.specs.Changed.{ComeOf}

-- one more
pub come_snoc : {A B : Type 0} (comes : A → B → Type 0) (xs : List A) (ys : List B) (x : A) (y : B) → ComeOf comes xs ys → comes x y
    → ComeOf comes (xs ++ x ∷ []) (ys ++ y ∷ [])
come_snoc comes [] [] x y all one = (one, tt)
come_snoc comes [] (b ∷ ys) x y all one = absurd all
come_snoc comes (a ∷ xs) [] x y all one = absurd all
come_snoc comes (a ∷ xs) (b ∷ ys) x y all one = (all.0, come_snoc comes xs ys x y all.1 one)

pub come_length : {A B : Type 0} (comes : A → B → Type 0) (xs : List A) (ys : List B) → ComeOf comes xs ys → length ys ≡ length xs
come_length comes [] [] all = refl
come_length comes [] (b ∷ ys) all = absurd all
come_length comes (a ∷ xs) [] all = absurd all
come_length comes (a ∷ xs) (b ∷ ys) all = ap suc (come_length comes xs ys all.1)

-- the first item, and the others
pub first_removed : {A : Type 0} (items left : List A) (x : A) → x ≡ slice_index_or items 0 x → left ≡ drop 1 items → 0 < length items
    → items ≡ x ∷ left
first_removed [] left x value rest some = absurd (omega arith)
first_removed (a ∷ items) left x value rest some = search (value, rest, sym)

pub nothing_left : {A : Type 0} (items : List A) → length items ≡ 0 → items ≡ []
nothing_left [] none = refl
nothing_left (x ∷ items) none = absurd (omega arith)
