-- What is read of a code is what was coded.
use Rattle.std.proofs.Common.{◌≡◌, ℕ, zero, suc, ◌<◌, ◌≤◌, ◌^◌, ◌==◌, Bool, true, false, nat_lt, nat_eq, Option, Some, None, List, [], ◌∷◌, ◌++◌, length, take, drop, if◌then◌else◌, refl, sym, ap, ◌∙◌, arith}
use Rattle.std.proofs.lemmas.Bool.Decides.{nat_tests}
use Rattle.std.proofs.Math.Seq.{drop-append_seam}
use Rattle.byteorder.specs.Endian.{little_bytes, little_number}
use Rattle.byteorder.specs.Numbers.{little_number-reads_back}
use Rattle.step_codes.specs.NumberCodes.{number_onto, bool_byte, option_onto, FitsOption}
use Rattle.step_codes.specs.NameCodes.{bytes_onto}
use Rattle.step_codes.specs.ListCodes.{items_onto, list_onto, AllFit}
use Rattle.step_codes.specs.Reading.{Reads, gives, then_in, byte_in, bytes_in, number_behind, number_in, bool_in, option_in, text_in, items_in, list_in}
use Rattle.step_codes.proofs.NumberCodes.{small_code, middle_code, large_code}

pub then_back : {X Y : Type 0} (read : Reads X) (next : X → Reads Y) (bytes : List ℕ) (x : X) (rest : List ℕ) → read bytes ≡ (x, rest)
    → then_in read next bytes ≡ next x rest
then_back {X} {Y} read next bytes x rest is = ap (λ (p : X × List ℕ). next p.0 p.1) is

number_of_cases : (n : ℕ) (rest : List ℕ) → n < 2 ^ 64 → (small middle : Bool) → nat_lt n 251 ≡ small → nat_lt n (2 ^ 32) ≡ middle
    → number_in (number_onto n rest) ≡ (n, rest)
unfolding number_in
number_of_cases n rest fits true middle s m =
    let low : n < 251 = grind (arith, nat_tests) in
    let a : (n == 251) ≡ false = grind (arith, nat_tests) in
    let b : (n == 252) ≡ false = grind (arith, nat_tests) in
    ap number_in (small_code n rest s) ∙ rw (a, b) refl
number_of_cases n rest fits false true s m =
    ap number_in (middle_code n rest s m)
    ∙ ap (λ (k : ℕ). (k, rest)) (little_number-reads_back 4 n rest (grind (arith, nat_tests)))
number_of_cases n rest fits false false s m =
    ap number_in (large_code n rest s m) ∙ ap (λ (k : ℕ). (k, rest)) (little_number-reads_back 8 n rest fits)

pub number_back : (n : ℕ) (rest : List ℕ) → n < 2 ^ 64 → number_in (number_onto n rest) ≡ (n, rest)
number_back n rest fits = number_of_cases n rest fits (nat_lt n 251) (nat_lt n (2 ^ 32)) refl refl

pub bool_back : (b : Bool) (rest : List ℕ) → bool_in (bool_byte b ∷ rest) ≡ (b, rest)
bool_back true rest = refl
bool_back false rest = refl

take_seam : (xs ys : List ℕ) → take (length xs) (xs ++ ys) ≡ xs
take_seam [] ys = refl
take_seam (x ∷ xs) ys = ap (λ (zs : List ℕ). x ∷ zs) (take_seam xs ys)

pub text_back : (text rest : List ℕ) → text_in (bytes_onto text rest) ≡ (text, rest)
text_back text rest = rw (take_seam text rest, drop-append_seam text rest) refl

pub option_back : {X : Type 0} (read : Reads X) (onto : X → List ℕ → List ℕ) (fits : X → Type 0)
    → ((x : X) (rest : List ℕ) → fits x → read (onto x rest) ≡ (x, rest))
    → (one : Option X) (rest : List ℕ) → FitsOption fits one → option_in read (option_onto onto one rest) ≡ (one, rest)
option_back read onto fits back None rest is = refl
option_back {X} read onto fits back (Some x) rest is = ap (λ (p : X × List ℕ). (Some p.0, p.1)) (back x rest is)

pub items_back : {X : Type 0} (read : Reads X) (onto : X → List ℕ → List ℕ) (fits : X → Type 0)
    → ((x : X) (rest : List ℕ) → fits x → read (onto x rest) ≡ (x, rest))
    → (xs : List X) (rest : List ℕ) → AllFit fits xs → items_in read (length xs) (items_onto onto xs rest) ≡ (xs, rest)
items_back read onto fits back [] rest all = refl
items_back {X} read onto fits back (x ∷ xs) rest all =
    then_back read (λ y. then_in (items_in read (length xs)) (λ ys. gives (y ∷ ys))) _ x _ (back x (items_onto onto xs rest) all.0)
    ∙ ap (λ (p : List X × List ℕ). (x ∷ p.0, p.1)) (items_back read onto fits back xs rest all.1)

pub list_back : {X : Type 0} (read : Reads X) (onto : X → List ℕ → List ℕ) (fits : X → Type 0)
    → ((x : X) (rest : List ℕ) → fits x → read (onto x rest) ≡ (x, rest))
    → (xs : List X) (rest : List ℕ) → AllFit fits xs → length xs < 2 ^ 64 → list_in read (list_onto onto xs rest) ≡ (xs, rest)
list_back read onto fits back xs rest all few =
    let items = items_onto onto xs rest in
    then_back number_in (items_in read) (number_onto (length xs) items) (length xs) items (number_back (length xs) items few)
    ∙ items_back read onto fits back xs rest all

-- what is read next, behind a number, and behind a text
pub past_number : {Y : Type 0} (next : ℕ → Reads Y) (n : ℕ) (rest : List ℕ) → n < 2 ^ 64 → then_in number_in next (number_onto n rest) ≡ next n rest
past_number next n rest fits = then_back number_in next (number_onto n rest) n rest (number_back n rest fits)

pub past_text : {Y : Type 0} (next : List ℕ → Reads Y) (text rest : List ℕ) → then_in text_in next (bytes_onto text rest) ≡ next text rest
past_text next text rest = then_back text_in next (bytes_onto text rest) text rest (text_back text rest)

pub past_option : {X Y : Type 0} (read : Reads X) (onto : X → List ℕ → List ℕ) (fits : X → Type 0)
    → ((x : X) (rest : List ℕ) → fits x → read (onto x rest) ≡ (x, rest)) → (next : Option X → Reads Y) (one : Option X) (rest : List ℕ)
    → FitsOption fits one → then_in (option_in read) next (option_onto onto one rest) ≡ next one rest
past_option read onto fits back next one rest is =
    then_back (option_in read) next (option_onto onto one rest) one rest (option_back read onto fits back one rest is)

pub past_list : {X Y : Type 0} (read : Reads X) (onto : X → List ℕ → List ℕ) (fits : X → Type 0)
    → ((x : X) (rest : List ℕ) → fits x → read (onto x rest) ≡ (x, rest)) → (next : List X → Reads Y) (xs : List X) (rest : List ℕ)
    → AllFit fits xs → length xs < 2 ^ 64 → then_in (list_in read) next (list_onto onto xs rest) ≡ next xs rest
past_list read onto fits back next xs rest all few =
    then_back (list_in read) next (list_onto onto xs rest) xs rest (list_back read onto fits back xs rest all few)
