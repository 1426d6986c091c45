-- The code of a number tells it.
use Rattle.std.proofs.Common.{◌≡◌, ℕ, ◌<◌, ◌^◌, Bool, true, false, nat_lt, List, ◌∷◌, ◌++◌, ◌⊎◌, inl, inr, length, refl, ◌∙◌, arith}
use Rattle.std.proofs.lemmas.Bool.Decides.{nat_tests}
use Rattle.byteorder.specs.Endian.{little_bytes}
use Rattle.step_codes.specs.NumberCodes.{number_onto}

pub small_code : (n : ℕ) (rest : List ℕ) → nat_lt n 251 ≡ true → number_onto n rest ≡ n ∷ rest
unfolding number_onto
small_code n rest low = rw low refl

pub middle_code : (n : ℕ) (rest : List ℕ) → nat_lt n 251 ≡ false → nat_lt n (2 ^ 32) ≡ true → number_onto n rest ≡ 251 ∷ (little_bytes 4 n ++ rest)
unfolding number_onto
middle_code n rest high low = rw (high, low) refl

pub large_code : (n : ℕ) (rest : List ℕ) → nat_lt n 251 ≡ false → nat_lt n (2 ^ 32) ≡ false → number_onto n rest ≡ 252 ∷ (little_bytes 8 n ++ rest)
unfolding number_onto
large_code n rest high higher = rw (high, higher) refl

-- how a code begins, and what follows
pub record IsSmall (n : ℕ) (code rest : List ℕ) : Type 0 where
  pub low : n < 251
  pub code_is : code ≡ n ∷ rest

pub record IsMiddle (n : ℕ) (code rest : List ℕ) : Type 0 where
  pub low : n < 2 ^ 32
  pub code_is : code ≡ 251 ∷ (little_bytes 4 n ++ rest)

pub record IsLarge (n : ℕ) (code rest : List ℕ) : Type 0 where
  pub code_is : code ≡ 252 ∷ (little_bytes 8 n ++ rest)

cases_after : (n : ℕ) (code rest : List ℕ) → code ≡ number_onto n rest → (small middle : Bool) → nat_lt n 251 ≡ small → nat_lt n (2 ^ 32) ≡ middle
    → IsSmall n code rest ⊎ IsMiddle n code rest ⊎ IsLarge n code rest
cases_after n code rest is true middle s m = inl (record { low = grind (arith, nat_tests); code_is = is ∙ small_code n rest s })
cases_after n code rest is false true s m = inr (inl (record { low = grind (arith, nat_tests); code_is = is ∙ middle_code n rest s m }))
cases_after n code rest is false false s m = inr (inr (record { code_is = is ∙ large_code n rest s m }))

pub cases_of : (n : ℕ) (code rest : List ℕ) → code ≡ number_onto n rest → IsSmall n code rest ⊎ IsMiddle n code rest ⊎ IsLarge n code rest
cases_of n code rest is = cases_after n code rest is (nat_lt n 251) (nat_lt n (2 ^ 32)) refl refl

module _ (n : ℕ) (code rest : List ℕ) (r : ℕ) (left : List ℕ)
    (first : (byte : ℕ) (more : List ℕ) → code ≡ byte ∷ more → (r ≡ byte) × (left ≡ more)) (is : code ≡ number_onto n rest) where
  small_after : ¬ (r ≡ 251) → ¬ (r ≡ 252) → IsSmall n code rest ⊎ IsMiddle n code rest ⊎ IsLarge n code rest → (r ≡ n) × (left ≡ rest)
  small_after m l (inl s) = first n rest s.code_is
  small_after m l (inr (inl s)) = absurd (m (first 251 (little_bytes 4 n ++ rest) s.code_is).0)
  small_after m l (inr (inr s)) = absurd (l (first 252 (little_bytes 8 n ++ rest) s.code_is).0)

  pub at_small : ¬ (r ≡ 251) → ¬ (r ≡ 252) → (r ≡ n) × (left ≡ rest)
  at_small m l = small_after m l (cases_of n code rest is)

  module _ (res new : List ℕ) where
    middle_after : r ≡ 251 → ((bytes more : List ℕ) → length bytes ≡ 4 → left ≡ bytes ++ more → (res ≡ bytes) × (new ≡ more))
        → IsSmall n code rest ⊎ IsMiddle n code rest ⊎ IsLarge n code rest → (n < 2 ^ 32) × (res ≡ little_bytes 4 n) × (new ≡ rest)
    middle_after m t (inl s) = absurd (let e = (first n rest s.code_is).0 in let low = s.low in omega arith)
    middle_after m t (inr (inl s)) =
        let cut = t (little_bytes 4 n) rest refl (first 251 (little_bytes 4 n ++ rest) s.code_is).1 in (s.low, cut.0, cut.1)
    middle_after m t (inr (inr s)) = absurd (let e = (first 252 (little_bytes 8 n ++ rest) s.code_is).0 in omega arith)

    pub at_middle : r ≡ 251 → ((bytes more : List ℕ) → length bytes ≡ 4 → left ≡ bytes ++ more → (res ≡ bytes) × (new ≡ more))
        → (n < 2 ^ 32) × (res ≡ little_bytes 4 n) × (new ≡ rest)
    at_middle m t = middle_after m t (cases_of n code rest is)

    large_after : r ≡ 252 → ((bytes more : List ℕ) → length bytes ≡ 8 → left ≡ bytes ++ more → (res ≡ bytes) × (new ≡ more))
        → IsSmall n code rest ⊎ IsMiddle n code rest ⊎ IsLarge n code rest → (res ≡ little_bytes 8 n) × (new ≡ rest)
    large_after m t (inl s) = absurd (let e = (first n rest s.code_is).0 in let low = s.low in omega arith)
    large_after m t (inr (inl s)) = absurd (let e = (first 251 (little_bytes 4 n ++ rest) s.code_is).0 in omega arith)
    large_after m t (inr (inr s)) = t (little_bytes 8 n) rest refl (first 252 (little_bytes 8 n ++ rest) s.code_is).1

    pub at_large : r ≡ 252 → ((bytes more : List ℕ) → length bytes ≡ 8 → left ≡ bytes ++ more → (res ≡ bytes) × (new ≡ more))
        → (res ≡ little_bytes 8 n) × (new ≡ rest)
    at_large m t = large_after m t (cases_of n code rest is)
