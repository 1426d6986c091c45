-- The names that a directory gives, one after the other.
use Rattle.std.proofs.Common.{◌≡◌, ◌≢◌, ◌==◌, ℕ, suc, ◌+◌, ◌-◌, ◌<◌, if◌then◌else◌, nat_lt, slice_index, ◌&&◌, Bool, true, false, List, [], ◌∷◌, ◌++◌, All, length, take, Option, Some, IfSome, option_to_list, refl, sym, ap, subst, ◌∙◌, arith}
use Rattle.std.proofs.lemmas.Bool.Decides.{nat_tests}
use Rattle.std.proofs.lemmas.List.{append-nil, append_assoc, length-append}
use Rattle.std.proofs.Math.Seq.{get_or-append_seam, take-append_seam}
use Rattle.std.specs.Io.BufRead.{take_through, drop_through, first_piece, strip_last, ends_with_byte, DropsThrough}
use Rattle.std.specs.Io.KnownBytes.{IsAtEnd}
use Rattle.servicedir.specs.ServiceName.{seen_of}
use Rattle.scan_directory.specs.Names.{service_in, services_among, given_as, AreNames}

not_zero : (x : ℕ) → x ≢ 0 → (x == 0) ≡ false
not_zero x other = grind (other, arith, nat_tests)

all_rest : {A : Type 0} (P : A → Type 0) (x : A) (xs : List A) → All P (x ∷ xs) → All P xs
all_rest P x xs all k d below = all (suc k) d (omega arith)

-- a text without a 0 before one
pub through : (n more : List ℕ) → All (λ b. b ≢ 0) n → take_through 0 (n ++ 0 ∷ more) ≡ n ++ 0 ∷ []
through [] more none = refl
through (x ∷ n) more none =
    let other : (x == 0) ≡ false = not_zero x (none 0 0 (omega arith)) in
    ap (λ (b : Bool). if b then x ∷ [] else x ∷ take_through 0 (n ++ 0 ∷ more)) other
    ∙ ap (λ (xs : List ℕ). x ∷ xs) (through n more (all_rest (λ b. b ≢ 0) x n none))

pub after : (n more : List ℕ) → All (λ b. b ≢ 0) n → drop_through 0 (n ++ 0 ∷ more) ≡ more
after [] more none = refl
after (x ∷ n) more none =
    let other : (x == 0) ≡ false = not_zero x (none 0 0 (omega arith)) in
    ap (λ (b : Bool). if b then n ++ 0 ∷ more else drop_through 0 (n ++ 0 ∷ more)) other ∙ after n more (all_rest (λ b. b ≢ 0) x n none)

pub stripped : (n : List ℕ) → strip_last 0 (n ++ 0 ∷ []) ≡ n
stripped n =
    let long : length (n ++ 0 ∷ []) ≡ length n + 1 = length-append n (0 ∷ []) in
    let before : length (n ++ 0 ∷ []) - 1 ≡ length n = omega arith in
    let last : slice_index (n ++ 0 ∷ []) (length (n ++ 0 ∷ []) - 1) ≡ 0 =
    ap (λ (k : ℕ). slice_index (n ++ 0 ∷ []) k) before ∙ get_or-append_seam n 0 [] 0 in
    let some : nat_lt 0 (length (n ++ 0 ∷ [])) ≡ true = grind (arith, nat_tests) in
    let ends : ends_with_byte 0 (n ++ 0 ∷ []) ≡ true =
    ap (λ (b : Bool). b && (slice_index (n ++ 0 ∷ []) (length (n ++ 0 ∷ []) - 1) == 0)) some ∙ ap (λ (b : ℕ). b == 0) last in
    ap (λ (b : Bool). if b then take (length (n ++ 0 ∷ []) - 1) (n ++ 0 ∷ []) else n ++ 0 ∷ []) ends
    ∙ (ap (λ (k : ℕ). take k (n ++ 0 ∷ [])) before ∙ take-append_seam n (0 ∷ []))

pub among_snoc : (done : List (List ℕ)) (n : List ℕ)
    → services_among (done ++ n ∷ []) ≡ services_among done ++ option_to_list (service_in (seen_of n))
among_snoc [] n = append-nil (option_to_list (service_in (seen_of n)))
among_snoc (d ∷ done) n =
    ap (λ rest. option_to_list (service_in (seen_of d)) ++ rest) (among_snoc done n)
    ∙ sym (append_assoc (option_to_list (service_in (seen_of d))) (services_among done) (option_to_list (service_in (seen_of n))))

-- the first name that a directory gives, and what it gives after that
pub first_given : (n : List ℕ) (names : List (List ℕ)) → AreNames (n ∷ names) → first_piece 0 (given_as (n ∷ names)) ≡ n
first_given n names are =
    ap (λ (xs : List ℕ). strip_last 0 xs) (through n (given_as names) (are 0 [] (omega arith))) ∙ stripped n

pub others_given : (n : List ℕ) (names : List (List ℕ)) → AreNames (n ∷ names) → drop_through 0 (given_as (n ∷ names)) ≡ given_as names
others_given n names are = after n (given_as names) (are 0 [] (omega arith))

pub none_given : (names : List (List ℕ)) → given_as names ≡ [] → names ≡ []
none_given [] none = refl
none_given ([] ∷ names) none = absurd (cc none)
none_given ((b ∷ n) ∷ names) none = absurd (cc none)

others : (done : List (List ℕ)) (rest : List (List ℕ)) → AreNames (done ++ rest) → AreNames rest
others [] rest are = are
others (d ∷ done) rest are = others done rest (all_rest (All (λ b. b ≢ 0)) d (done ++ rest) are)

-- of these names some are listed, and the directory will give the others
abbrev pub IsBetween : List (List ℕ) → Option (List ℕ) → List (List ℕ) → Type 0
IsBetween names known listed =
    (done : List (List ℕ)) × (rest : List (List ℕ)) × (names ≡ done ++ rest) × (known ≡ Some (given_as rest)) × (listed ≡ services_among done)

-- one name more
pub one_more : (names : List (List ℕ)) (known known' : Option (List ℕ)) (x : List ℕ) (listed listed' : List (List ℕ)) → AreNames names
    → IfSome known (λ xs. (0 < length xs) × (x ≡ first_piece 0 xs)) → DropsThrough known known' 0
    → listed' ≡ listed ++ option_to_list (service_in (seen_of x)) → IsBetween names known listed → IsBetween names known' listed'
one_more names known known' x listed listed' are piece drops more (done, [], all, left, so_far) =
    absurd (let some = (subst (λ (k : Option (List ℕ)). IfSome k (λ xs. (0 < length xs) × (x ≡ first_piece 0 xs))) left piece).0 in omega arith)
one_more names known known' x listed listed' are piece drops more (done, n ∷ rest, all, left, so_far) =
    let are_rest : AreNames (n ∷ rest) = others done (n ∷ rest) (subst AreNames all are) in
    let first : x ≡ n =
    (subst (λ (k : Option (List ℕ)). IfSome k (λ xs. (0 < length xs) × (x ≡ first_piece 0 xs))) left piece).1 ∙ first_given n rest are_rest in (
      done ++ n ∷ [],
      rest,
      all ∙ sym (append_assoc done (n ∷ []) rest),
      subst (λ (k : Option (List ℕ)). DropsThrough k known' 0) left drops ∙ ap (λ (xs : List ℕ). Some xs) (others_given n rest are_rest),
      more
          ∙ (ap (λ (ls : List (List ℕ)). ls ++ option_to_list (service_in (seen_of x))) so_far
          ∙ (ap (λ (y : List ℕ). services_among done ++ option_to_list (service_in (seen_of y))) first ∙ sym (among_snoc done n))),
    )

-- the directory gives no more
pub all_listed : (names : List (List ℕ)) (known : Option (List ℕ)) (listed : List (List ℕ)) → IsAtEnd known → IsBetween names known listed
    → listed ≡ services_among names
all_listed names known listed end (done, rest, all, left, so_far) =
    let none : rest ≡ [] = none_given rest (subst IsAtEnd left end) in
    so_far ∙ ap services_among (sym (all ∙ (ap (λ (r : List (List ℕ)). done ++ r) none ∙ append-nil done)))
