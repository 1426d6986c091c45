-- Rings in the order of their actors' numbers.
use Rattle.std.proofs.Common.{◌≡◌, ℕ, zero, suc, ⊎_elim, List, [], ◌∷◌, map, length, option_map, Some, slice_get, refl, sym, ap, ◌∙◌, arith}
use Rattle.std.proofs.lemmas.List.{length-append, length-map}
use Rattle.std.proofs.lemmas.Option.{slice_get-map}
use Rattle.channel_names.proofs.Places.{get_last}
use Rattle.inbox.specs.Ends.{RingView, numbers_below}

below_length : (n : ℕ) → length (numbers_below n) ≡ n
below_length zero = refl
below_length (suc n) = length-append (numbers_below n) (n ∷ []) ∙ (let e = below_length n in omega arith)

below_get : (n k a : ℕ) → slice_get (numbers_below n) k ≡ Some a → a ≡ k
below_get zero k a at = absurd (cc (at))
below_get (suc n) k a at =
    ⊎_elim (λ e. below_get n k a e) (λ t. sym t.1 ∙ (sym (below_length n) ∙ t.0)) (get_last (numbers_below n) n k a at)

-- there is one for each number
pub length_rings : (n : ℕ) (rings : List RingView) → map (λ r. r.actor) rings ≡ numbers_below n → length rings ≡ n
length_rings n rings e = sym (length-map rings (λ (r : RingView). r.actor)) ∙ (ap length e ∙ below_length n)

-- each stands at its place
pub ordered_rings : (n : ℕ) (rings : List RingView) → map (λ r. r.actor) rings ≡ numbers_below n
    → (k : ℕ) (r : RingView) → slice_get rings k ≡ Some r → r.actor ≡ k
ordered_rings n rings e k r at =
    below_get n k r.actor
    (ap (λ (numbers : List ℕ). slice_get numbers k) (sym e)
    ∙ (slice_get-map (λ (x : RingView). x.actor) rings k ∙ ap (option_map (λ (x : RingView). x.actor)) at))
