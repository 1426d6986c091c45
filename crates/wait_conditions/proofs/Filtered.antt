-- Lists of which some elements are left out.
use Rattle.std.proofs.Common.{◌≡◌, ◌<◌, ◌≤◌, ℕ, List, [], ◌∷◌, Bool, true, false, ◌&&◌, cond, length, take, drop, filter, get_or}
use Rattle.std.proofs.Common.{refl, sym, ap, ◌∙◌, arith, zero, suc}

-- an element that passes, or one that doesn't, before others
pub filter_yes : {X : Type 0} (p : X → Bool) (x : X) (xs : List X) → p x ≡ true → filter p (x ∷ xs) ≡ x ∷ filter p xs
filter_yes p x xs h = ap (λ b. cond b (x ∷ filter p xs) (filter p xs)) h

pub filter_no : {X : Type 0} (p : X → Bool) (x : X) (xs : List X) → p x ≡ false → filter p (x ∷ xs) ≡ filter p xs
filter_no p x xs h = ap (λ b. cond b (x ∷ filter p xs) (filter p xs)) h

-- what passes two tests, one after the other
pub filter_twice : {X : Type 0} (p q r : X → Bool) → ((x : X) → r x ≡ (p x && q x)) → (xs : List X) → filter q (filter p xs) ≡ filter r xs
filter_twice p q r same [] = refl
filter_twice p q r same (x ∷ xs) = by (p x) refl (filter_twice p q r same xs)
  where
    by : (b : Bool) → p x ≡ b → filter q (filter p xs) ≡ filter r xs → filter q (cond b (x ∷ filter p xs) (filter p xs)) ≡ filter r (x ∷ xs)
    by true e rest =
        let is : r x ≡ q x = same x ∙ ap (λ b. b && q x) e in
        ap (λ ys. cond (q x) (x ∷ ys) ys) rest ∙ sym (ap (λ b. cond b (x ∷ filter r xs) (filter r xs)) is)
    by false e rest =
        let is : r x ≡ false = same x ∙ ap (λ b. b && q x) e in
        rest ∙ sym (filter_no r x xs is)

-- where each passes up to a place, and none from there on
pub none_pass : {X : Type 0} (p : X → Bool) (xs : List X) → ((k : ℕ) (d : X) → k < length xs → p (get_or xs k d) ≡ false) → filter p xs ≡ []
none_pass p [] h = refl
none_pass p (x ∷ xs) h = filter_no p x xs (h 0 x (omega arith)) ∙ none_pass p xs (λ k d l. h (suc k) d (omega (arith, l)))

pub all_pass : {X : Type 0} (p : X → Bool) (xs : List X) → ((k : ℕ) (d : X) → k < length xs → p (get_or xs k d) ≡ true) → filter p xs ≡ xs
all_pass p [] h = refl
all_pass p (x ∷ xs) h =
    filter_yes p x xs (h 0 x (omega arith)) ∙ ap (λ ys. x ∷ ys) (all_pass p xs (λ k d l. h (suc k) d (omega (arith, l))))

pub take_passes : {X : Type 0} (p : X → Bool) (xs : List X) (i : ℕ) → i ≤ length xs → ((k : ℕ) (d : X) → 0 ≤ k → k < i → p (get_or xs k d) ≡ true)
    → ((k : ℕ) (d : X) → i ≤ k → k < length xs → p (get_or xs k d) ≡ false) → take i xs ≡ filter p xs
take_passes p [] zero l h n = refl
take_passes p [] (suc i) l h n = refl
take_passes p (x ∷ xs) zero l h n = sym (none_pass p (x ∷ xs) (λ k d m. n k d (omega arith) m))
take_passes p (x ∷ xs) (suc i) l h n =
    ap (λ ys. x ∷ ys) (take_passes p xs i (omega (arith, l)) (λ k d a m. h (suc k) d (omega arith) (omega (arith, m)))
    (λ k d a m. n (suc k) d (omega (arith, a)) (omega (arith, m))))
    ∙ sym (filter_yes p x xs (h 0 x (omega arith) (omega arith)))

pub drop_passes : {X : Type 0} (p : X → Bool) (xs : List X) (i : ℕ) → i ≤ length xs → ((k : ℕ) (d : X) → 0 ≤ k → k < i → p (get_or xs k d) ≡ false)
    → ((k : ℕ) (d : X) → i ≤ k → k < length xs → p (get_or xs k d) ≡ true) → drop i xs ≡ filter p xs
drop_passes p [] zero l h n = refl
drop_passes p [] (suc i) l h n = refl
drop_passes p (x ∷ xs) zero l h n = sym (all_pass p (x ∷ xs) (λ k d m. n k d (omega arith) m))
drop_passes p (x ∷ xs) (suc i) l h n =
    drop_passes p xs i (omega (arith, l)) (λ k d a m. h (suc k) d (omega arith) (omega (arith, m)))
    (λ k d a m. n (suc k) d (omega (arith, a)) (omega (arith, m)))
    ∙ sym (filter_no p x xs (h 0 x (omega arith) (omega arith)))
