-- Places in a list of references are those in the list of what they point to.
use Rattle.std.proofs.Common.{◌≡◌, ℕ, List, [], ◌∷◌, length, Bool, cond, not, map, refl, ap, ◌+◌, Bor, position, Some, None, nat_lt, ◌∙◌, sym}
use Rattle.std.specs.Str.{bytes_eq}
use Rattle.std.specs.List.{position_or_len}
use Rattle.std.proofs.lemmas.List.{length-map}

-- the first place, or the length
pub place_or_len : (p : List ℕ → Bool) (names : List (Bor (List ℕ)))
    → position_or_len p (map (λ n. n.now) names) ≡ position_or_len (λ n. p n.now) names
place_or_len p [] = refl
place_or_len p (n ∷ names) = ap (λ k. cond (not (p n.now)) (1 + k) 0) (place_or_len p names)

-- the first place, or none
pub place : (p : List ℕ → Bool) (names : List (Bor (List ℕ))) → position p (map (λ n. n.now) names) ≡ position (λ n. p n.now) names
place p names =
    let at : position_or_len p (map (λ n. n.now) names) ≡ position_or_len (λ n. p n.now) names = place_or_len p names in
    let count : length (map (λ n. n.now) names) ≡ length names = length-map names (λ n. n.now) in
    ap (λ k. cond (nat_lt k (length (map (λ n. n.now) names))) (Some k) None) at
    ∙ ap (λ m. cond (nat_lt (position_or_len (λ n. p n.now) names) m) (Some (position_or_len (λ n. p n.now) names)) None) count

-- the place of a name
pub place_named : (name : List ℕ) (names : List (Bor (List ℕ)))
    → position (λ known. bytes_eq known.now name) names ≡ position (λ known. bytes_eq known name) (map (λ n. n.now) names)
place_named name names = sym (place (λ known. bytes_eq known name) names)
