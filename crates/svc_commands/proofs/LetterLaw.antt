-- The first fault of some words, and what they have to be.
use Rattle.std.proofs.Common.{rules, ◌≡◌, ◌≤◌, ◌+◌, ◌++◌, ◌&&◌, ◌||◌, ◌==◌, ℕ, List, [], ◌∷◌, Bool, true, false, not, cond, Option, Some, None}
use Rattle.std.proofs.Common.{is_none, length, drop, filter, flat_map, nat_lt, ap, refl, arith}
use Rattle.std.proofs.lemmas.List.{length-append}
use Rattle.std.specs.List.{list_all}
use Rattle.std.specs.Prelude.{if◌then◌else◌}
use Rattle.s6_events.specs.Name.{is_name}
use Rattle.svc_commands.specs.LetterLaw.{has_some, is_known, IsTakenBySvc, IsTakenBySvscanctl}
use Rattle.svc_commands.specs.LetterWords.{is_run, names_in, first_told, letter_fault, letters_fault, run_fault, words_fault, svc_letters}
use Rattle.svc_commands.specs.LetterWords.{scan_letters, name_fault, no_name}
use Rattle.svc_commands.specs.declared.usage_fault.UsageFault.{UsageFault}
use Rattle.svc_commands.specs.declared.usage_fault.UsageFault.TheVariants.{Missing}

-- no fault is told of two
both_none : (a b : Option UsageFault) → first_told a b ≡ None → (a ≡ None) × (b ≡ None)
both_none None b e = (refl, e)
both_none (Some fault) b e = absurd (cc)

none_both : (a b : Option UsageFault) → a ≡ None → b ≡ None → first_told a b ≡ None
none_both None b e f = f
none_both (Some fault) b e f = absurd (cc)

-- two tests
both_true : (a b : Bool) → (a && b) ≡ true → (a ≡ true) × (b ≡ true)
both_true true b e = (refl, e)
both_true false b e = absurd (cc)

true_both : (a b : Bool) → a ≡ true → b ≡ true → (a && b) ≡ true
true_both true b e f = f
true_both false b e f = absurd (cc)

-- a letter, and the letters of a run
letter_ok : {L : Type 0} (n : ℕ) (letters : List L) → letter_fault n letters ≡ None
    → (has_some letters ≡ true) × (n + length letters ≤ 63)
letter_ok n [] e = absurd (cc)
letter_ok n (l ∷ ls) e = (refl, search rules)

ok_letter : {L : Type 0} (n : ℕ) (letters : List L) → has_some letters ≡ true → n + length letters ≤ 63
    → letter_fault n letters ≡ None
ok_letter n [] e few = absurd (cc)
ok_letter n (l ∷ ls) e few = let t : nat_lt 63 (n + length (l ∷ ls)) ≡ false = search rules in rw t refl

letters_ok : {L : Type 0} (meaning : ℕ → List L) (n : ℕ) (bytes : List ℕ) → n ≤ 63 → letters_fault meaning n bytes ≡ None
    → (list_all (λ byte. has_some (meaning byte)) bytes ≡ true) × (n + length (flat_map meaning bytes) ≤ 63)
letters_ok meaning n [] few e = (refl, omega (arith, few))
letters_ok meaning n (b ∷ bs) few e =
    let told : (letter_fault n (meaning b) ≡ None) × (letters_fault meaning (n + length (meaning b)) bs ≡ None) =
    both_none (letter_fault n (meaning b)) (letters_fault meaning (n + length (meaning b)) bs) e in
    let first : (has_some (meaning b) ≡ true) × (n + length (meaning b) ≤ 63) = letter_ok n (meaning b) told.0 in
    let later : (list_all (λ byte. has_some (meaning byte)) bs ≡ true) × (n + length (meaning b) + length (flat_map meaning bs) ≤ 63) =
    letters_ok meaning (n + length (meaning b)) bs first.1 told.1 in (
      true_both (has_some (meaning b)) (list_all (λ byte. has_some (meaning byte)) bs) first.0 later.0,
      omega (arith, length-append (meaning b) (flat_map meaning bs), later.1),
    )

ok_letters : {L : Type 0} (meaning : ℕ → List L) (n : ℕ) (bytes : List ℕ) → list_all (λ byte. has_some (meaning byte)) bytes ≡ true
    → n + length (flat_map meaning bytes) ≤ 63 → letters_fault meaning n bytes ≡ None
ok_letters meaning n [] known few = refl
ok_letters meaning n (b ∷ bs) known few =
    let two : (has_some (meaning b) ≡ true) × (list_all (λ byte. has_some (meaning byte)) bs ≡ true) =
    both_true (has_some (meaning b)) (list_all (λ byte. has_some (meaning byte)) bs) known in
    none_both (letter_fault n (meaning b)) (letters_fault meaning (n + length (meaning b)) bs)
    (ok_letter n (meaning b) two.0 (omega (arith, length-append (meaning b) (flat_map meaning bs), few)))
    (ok_letters meaning (n + length (meaning b)) bs two.1 (omega (arith, length-append (meaning b) (flat_map meaning bs), few)))

run_ok : {L : Type 0} (meaning : ℕ → List L) (n : ℕ) (bytes : List ℕ) → n ≤ 63 → run_fault meaning n bytes ≡ None
    → ((has_some bytes && list_all (λ byte. has_some (meaning byte)) bytes) ≡ true) × (n + length (flat_map meaning bytes) ≤ 63)
run_ok meaning n [] few e = absurd (cc)
run_ok meaning n (b ∷ bs) few e = letters_ok meaning n (b ∷ bs) few e

ok_run : {L : Type 0} (meaning : ℕ → List L) (n : ℕ) (bytes : List ℕ)
    → (has_some bytes && list_all (λ byte. has_some (meaning byte)) bytes) ≡ true
    → n + length (flat_map meaning bytes) ≤ 63 → run_fault meaning n bytes ≡ None
ok_run meaning n [] known few = absurd (cc)
ok_run meaning n (b ∷ bs) known few = ok_letters meaning n (b ∷ bs) known few

-- the words that are no runs are taken one after the other, and a name was there before or is among them
abbrev pub takes_names : (Bool → List ℕ → Option UsageFault) → Bool → List (List ℕ) → Bool
takes_names other named [] = named
takes_names other named (w ∷ ws) = is_none (other named w) && takes_names other true ws

-- runs and other words behind n letters, and perhaps a name, are without fault
pub record IsFine {L : Type 0} (meaning : ℕ → List L) (other : Bool → List ℕ → Option UsageFault) (n : ℕ) (named : Bool)
    (runs others : List (List ℕ)) : Type 0 where
  pub known : list_all (is_known meaning) runs ≡ true
  pub some : 1 ≤ n + length (flat_map (λ run. flat_map meaning (drop 1 run)) runs)
  pub few : n + length (flat_map (λ run. flat_map meaning (drop 1 run)) runs) ≤ 63
  pub names : takes_names other named others ≡ true

no_end : (none named : Bool) → (if none || not named then Some Missing else None) ≡ None → (none ≡ false) × (named ≡ true)
no_end true named e = absurd (cc)
no_end false true e = (refl, refl)
no_end false false e = absurd (cc)

words_end : (n : ℕ) (named : Bool) → (if (n == 0) || not named then Some Missing else None) ≡ None → (1 ≤ n) × (named ≡ true)
words_end n named e =
    let two : ((n == 0) ≡ false) × (named ≡ true) = no_end (n == 0) named e in
    let zero_is_none : (n == 0) ≡ false = two.0 in
    (search rules, two.1)

end_words : (n : ℕ) (named : Bool) → 1 ≤ n → named ≡ true → (if (n == 0) || not named then Some Missing else None) ≡ None
end_words n named some e = let t : (n == 0) ≡ false = search rules in rw (t, e) refl

no_fault : (fault : Option UsageFault) → fault ≡ None → is_none fault ≡ true
no_fault fault e = ap is_none e

none_is : (fault : Option UsageFault) → is_none fault ≡ true → fault ≡ None
none_is None e = refl
none_is (Some fault) e = absurd (cc)

-- one word more, where its test is b, and what is told of the words behind it
more : {L : Type 0} (meaning : ℕ → List L) (other : Bool → List ℕ → Option UsageFault) (n : ℕ) (named : Bool) (w : List ℕ)
    (runs names : List (List ℕ)) (told : ℕ → Bool → Option UsageFault)
    → ((m : ℕ) → (k : Bool) → m ≤ 63 → told m k ≡ None → IsFine meaning other m k runs names) → (b : Bool) → n ≤ 63
    → (if b then first_told (run_fault meaning n (drop 1 w)) (told (n + length (flat_map meaning (drop 1 w))) named)
    else first_told (other named w) (told n true)) ≡ None
    → IsFine meaning other n named (cond b (w ∷ runs) runs) (cond (not b) (w ∷ names) names)
more {L} meaning other n named w runs names told later true few e =
    let two : (run_fault meaning n (drop 1 w) ≡ None) × (told (n + length (flat_map meaning (drop 1 w))) named ≡ None) =
    both_none (run_fault meaning n (drop 1 w)) (told (n + length (flat_map meaning (drop 1 w))) named) e in
    let run : (is_known meaning w ≡ true) × (n + length (flat_map meaning (drop 1 w)) ≤ 63) = run_ok meaning n (drop 1 w) few two.0 in
    let rest : IsFine meaning other (n + length (flat_map meaning (drop 1 w))) named runs names =
    later (n + length (flat_map meaning (drop 1 w))) named run.1 two.1 in
    let joined : length (flat_map meaning (drop 1 w) ++ flat_map (λ r. flat_map meaning (drop 1 r)) runs)
    ≡ length (flat_map meaning (drop 1 w)) + length (flat_map (λ r. flat_map meaning (drop 1 r)) runs) =
    length-append (flat_map meaning (drop 1 w)) (flat_map (λ r. flat_map meaning (drop 1 r)) runs) in
    record {
      known = true_both (is_known meaning w) (list_all (is_known meaning) runs) run.0 rest.known;
      some = omega (arith, joined, rest.some);
      few = omega (arith, joined, rest.few);
      names = rest.names;
    }
more meaning other n named w runs names told later false few e =
    let two : (other named w ≡ None) × (told n true ≡ None) = both_none (other named w) (told n true) e in
    let rest : IsFine meaning other n true runs names = later n true few two.1 in
    record {
      known = rest.known;
      some = rest.some;
      few = rest.few;
      names = true_both (is_none (other named w)) (takes_names other true names) (no_fault (other named w) two.0) rest.names;
    }

fine : {L : Type 0} (meaning : ℕ → List L) (other : Bool → List ℕ → Option UsageFault) (n : ℕ) (named : Bool) (words : List (List ℕ))
    → n ≤ 63 → words_fault meaning other n named words ≡ None → IsFine meaning other n named (filter is_run words) (names_in words)
fine meaning other n named [] few e =
    let at : (1 ≤ n) × (named ≡ true) = words_end n named e in
    record { known = refl; some = omega (arith, at.0); few = omega (arith, few); names = at.1 }
fine meaning other n named (w ∷ ws) few e =
    more meaning other n named w (filter is_run ws) (names_in ws) (λ m k. words_fault meaning other m k ws)
    (λ m k h t. fine meaning other m k ws h t) (is_run w) few e

less : {L : Type 0} (meaning : ℕ → List L) (other : Bool → List ℕ → Option UsageFault) (n : ℕ) (named : Bool) (w : List ℕ)
    (runs names : List (List ℕ)) (told : ℕ → Bool → Option UsageFault)
    → ((m : ℕ) → (k : Bool) → IsFine meaning other m k runs names → told m k ≡ None) → (b : Bool)
    → IsFine meaning other n named (cond b (w ∷ runs) runs) (cond (not b) (w ∷ names) names)
    → (if b then first_told (run_fault meaning n (drop 1 w)) (told (n + length (flat_map meaning (drop 1 w))) named)
    else first_told (other named w) (told n true)) ≡ None
less {L} meaning other n named w runs names told later true is =
    let two : (is_known meaning w ≡ true) × (list_all (is_known meaning) runs ≡ true) =
    both_true (is_known meaning w) (list_all (is_known meaning) runs) is.known in
    let joined : length (flat_map meaning (drop 1 w) ++ flat_map (λ r. flat_map meaning (drop 1 r)) runs)
    ≡ length (flat_map meaning (drop 1 w)) + length (flat_map (λ r. flat_map meaning (drop 1 r)) runs) =
    length-append (flat_map meaning (drop 1 w)) (flat_map (λ r. flat_map meaning (drop 1 r)) runs) in
    none_both (run_fault meaning n (drop 1 w)) (told (n + length (flat_map meaning (drop 1 w))) named)
    (ok_run meaning n (drop 1 w) two.0 (omega (arith, joined, is.few)))
    (later (n + length (flat_map meaning (drop 1 w))) named (record {
      known = two.1;
      some = omega (arith, joined, is.some);
      few = omega (arith, joined, is.few);
      names = is.names;
    }))
less meaning other n named w runs names told later false is =
    let two : (is_none (other named w) ≡ true) × (takes_names other true names ≡ true) =
    both_true (is_none (other named w)) (takes_names other true names) is.names in
    none_both (other named w) (told n true) (none_is (other named w) two.0)
    (later n true (record { known = is.known; some = is.some; few = is.few; names = two.1 }))

faultless : {L : Type 0} (meaning : ℕ → List L) (other : Bool → List ℕ → Option UsageFault) (n : ℕ) (named : Bool) (words : List (List ℕ))
    → IsFine meaning other n named (filter is_run words) (names_in words) → words_fault meaning other n named words ≡ None
faultless meaning other n named [] is = end_words n named (omega (arith, is.some)) is.names
faultless meaning other n named (w ∷ ws) is =
    less meaning other n named w (filter is_run ws) (names_in ws) (λ m k. words_fault meaning other m k ws)
    (λ m k h. faultless meaning other m k ws h) (is_run w) is

-- svc takes one word that is a name
one_name : (names : List (List ℕ)) → takes_names name_fault false names ≡ true → (length names ≡ 1) × (list_all is_name names ≡ true)
one_name [] e = absurd (cc)
one_name (w ∷ []) e = (refl, search rules)
one_name (w ∷ v ∷ ws) e = search rules

name_one : (names : List (List ℕ)) → length names ≡ 1 → list_all is_name names ≡ true → takes_names name_fault false names ≡ true
name_one [] one e = absurd (cc)
name_one (w ∷ []) one e = search rules
name_one (w ∷ v ∷ ws) one e = absurd (omega (arith, one))

-- svscanctl takes no other word
no_other : (names : List (List ℕ)) → takes_names no_name true names ≡ true → names ≡ []
no_other [] e = refl
no_other (w ∷ ws) e = absurd (cc)

pub svc_takes : (words : List (List ℕ)) → IsTakenBySvc words
svc_takes words = (
  (λ e. (let is : IsFine svc_letters name_fault 0 false (filter is_run words) (names_in words) =
      fine svc_letters name_fault 0 false words (omega arith) e in
      let name : (length (names_in words) ≡ 1) × (list_all is_name (names_in words) ≡ true) = one_name (names_in words) is.names in
      (record { known = is.known; some = omega (arith, is.some); few = omega (arith, is.few) }, record { one = name.0; name = name.1 }))),
  (λ has. faultless svc_letters name_fault 0 false words (record {
    known = has.0.known;
    some = omega (arith, has.0.some);
    few = omega (arith, has.0.few);
    names = name_one (names_in words) has.1.one has.1.name;
  })),
)

pub svscanctl_takes : (words : List (List ℕ)) → IsTakenBySvscanctl words
svscanctl_takes words = (
  (λ e. (let is : IsFine scan_letters no_name 0 true (filter is_run words) (names_in words) =
      fine scan_letters no_name 0 true words (omega arith) e in
      (record { known = is.known; some = omega (arith, is.some); few = omega (arith, is.few) }, no_other (names_in words) is.names))),
  (λ has. faultless scan_letters no_name 0 true words (record {
    known = has.0.known;
    some = omega (arith, has.0.some);
    few = omega (arith, has.0.few);
    names = ap (takes_names no_name true) has.1;
  })),
)
