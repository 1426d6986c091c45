-- What holds of the first items of a list, and of one more.
use Rattle.std.proofs.Common.{ℕ, ◌+◌, ◌<◌, ◌≤◌, List, [], ◌∷◌, All, length, take, get_or, sym, subst}
use Rattle.std.proofs.lemmas.List.{take_more, take_all}
use Rattle.std.proofs.lemmas.List.Elements.{All-append, All-nil, All-cons}

module _ {X : Type 0} (P : X → Type 0) (xs : List X) (n : ℕ) where
  pub one_more : (d : X) → n < length xs → All P (take n xs) → P (get_or xs n d) → All P (take (n + 1) xs)
  one_more d lt all one =
      subst (All P) (sym (take_more xs n d lt)) (All-append P (take n xs) (get_or xs n d ∷ []) all (All-cons P (get_or xs n d) [] one (All-nil P)))

  pub all_of_them : length xs ≤ n → All P (take n xs) → All P xs
  all_of_them le all = subst (All P) (take_all n xs le) all
