-- Serials still rise when one is added, when some are left out, and where only some are told.
use Rattle.std.proofs.Common.{◌<◌, ℕ, ◌++◌, List, [], ◌∷◌, Bool, true, false, Option, None, Some, cond, All, map, filter, option_map}
use Rattle.std.specs.List.{filter_map, cons_option}
use Rattle.std.proofs.lemmas.List.Elements.{All-head, All-tail}
use Rattle.s6_events.specs.Rising.{AreAbove, AreRising}

above_push : (n m : ℕ) (ns : List ℕ) → AreAbove n ns → n < m → AreAbove n (ns ++ m ∷ [])
above_push n m [] above lt = (lt, tt)
above_push n m (k ∷ ks) above lt = (above.0, above_push n m ks above.1 lt)

-- one more, above all of them
pub rising_push : {X : Type 0} (f : X → ℕ) (m : ℕ) (xs : List X) → AreRising (map f xs) → All (λ x. f x < m) xs → AreRising (map f xs ++ m ∷ [])
rising_push f m [] rising below = (tt, tt)
rising_push f m (x ∷ xs) rising below = (
  above_push (f x) m (map f xs) rising.0 (All-head (λ y. f y < m) x xs below),
  rising_push f m xs rising.1 (All-tail (λ y. f y < m) x xs below),
)

above_left_by : {X : Type 0} (f : X → ℕ) (n : ℕ) (b : Bool) (x : X) (us : List X) → n < f x → AreAbove n (map f us)
    → AreAbove n (map f (cond b (x ∷ us) us))
above_left_by f n true x us lt above = (lt, above)
above_left_by f n false x us lt above = above

above_left : {X : Type 0} (f : X → ℕ) (p : X → Bool) (n : ℕ) (xs : List X) → AreAbove n (map f xs) → AreAbove n (map f (filter p xs))
above_left f p n [] above = tt
above_left f p n (x ∷ xs) above = above_left_by f n (p x) x (filter p xs) above.0 (above_left f p n xs above.1)

rising_left_by : {X : Type 0} (f : X → ℕ) (b : Bool) (x : X) (us : List X) → AreAbove (f x) (map f us) → AreRising (map f us)
    → AreRising (map f (cond b (x ∷ us) us))
rising_left_by f true x us above rising = (above, rising)
rising_left_by f false x us above rising = rising

-- some are left out
pub rising_left : {X : Type 0} (f : X → ℕ) (p : X → Bool) (xs : List X) → AreRising (map f xs) → AreRising (map f (filter p xs))
rising_left f p [] rising = tt
rising_left f p (x ∷ xs) rising = rising_left_by f (p x) x (filter p xs) (above_left f p (f x) xs rising.0) (rising_left f p xs rising.1)

-- what is told of x under its serial
abbrev told_of : {X V : Type 0} → (X → ℕ) → (X → Option V) → X → Option (ℕ × V)
told_of f told x = option_map (λ v. (f x, v)) (told x)

above_told_by : {V : Type 0} (n m : ℕ) (o : Option V) (us : List (ℕ × V)) → n < m → AreAbove n (map (λ (r : ℕ × V). r.0) us) →
    AreAbove n (map (λ (r : ℕ × V). r.0) (cons_option (option_map (λ v. (m, v)) o) us))
above_told_by n m None us lt above = above
above_told_by n m (Some v) us lt above = (lt, above)

above_told : {X V : Type 0} (f : X → ℕ) (told : X → Option V) (n : ℕ) (xs : List X) → AreAbove n (map f xs)
    → AreAbove n (map (λ (r : ℕ × V). r.0) (filter_map (told_of f told) xs))
above_told f told n [] above = tt
above_told f told n (x ∷ xs) above = above_told_by n (f x) (told x) (filter_map (told_of f told) xs) above.0 (above_told f told n xs above.1)

rising_told_by : {V : Type 0} (m : ℕ) (o : Option V) (us : List (ℕ × V)) → AreAbove m (map (λ (r : ℕ × V). r.0) us)
    → AreRising (map (λ (r : ℕ × V). r.0) us) →
    AreRising (map (λ (r : ℕ × V). r.0) (cons_option (option_map (λ v. (m, v)) o) us))
rising_told_by m None us above rising = rising
rising_told_by m (Some v) us above rising = (above, rising)

-- only some are told
pub rising_told : {X V : Type 0} (f : X → ℕ) (told : X → Option V) (xs : List X) → AreRising (map f xs) →
    AreRising (map (λ (r : ℕ × V). r.0) (filter_map (λ x. option_map (λ v. (f x, v)) (told x)) xs))
rising_told f told [] rising = tt
rising_told f told (x ∷ xs) rising =
    rising_told_by (f x) (told x) (filter_map (told_of f told) xs) (above_told f told (f x) xs rising.0) (rising_told f told xs rising.1)
