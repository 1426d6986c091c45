-- The directory of a source, found, changed and taken out.
use Rattle.std.proofs.Common.{◌≡◌, ℕ, zero, suc, ◌<◌, ◌≤◌, List, [], ◌∷◌, ◌++◌, Bool, true, false, cond, length, take, drop, map, set, get_or}
use Rattle.std.proofs.Common.{None, Some, refl, sym, ap, subst, ◌∙◌, arith}
use Rattle.std.specs.List.{position, position_or_len}
use Rattle.std.proofs.lemmas.Bool.{ltb-false, or_parts, or_from}
use Rattle.std.proofs.lemmas.Option.{none-some}
use Rattle.std.proofs.lemmas.List.Quantifiers.{position-Some}
use Rattle.std.proofs.lemmas.List.Sums.{fails_before_first}
use Rattle.event_directory.specs.Directories.{is_same_source}
use Rattle.event_directory.specs.Parts.{Listened, IsAbsent, AreDistinct}
use Rattle.event_directory.specs.Remembered.{Followed}
use Rattle.event_directory.specs.declared.source.Source.{Source}
use Rattle.event_directory.proofs.Sources.{is_same-sym}

pub same_followed : (a b : Followed) → a.source ≡ b.source → a.standing ≡ b.standing → a ≡ b
same_followed a b es et = λ i. record { source = es i; standing = et i }

pub same_pair : (s t : Source) (m n : ℕ) → s ≡ t → m ≡ n → ◌≡◌ {A = Source × ℕ} (s, m) (t, n)
same_pair s t m n es en = λ i. (es i, en i)

abbrev pub sources_of : List Listened → List Source
sources_of ls = map (λ l. l.source) ls

-- the directory at this place is the first of the source
pub record IsFirst (source : Source) (ls : List Listened) (i : ℕ) (d : Listened) : Type 0 where
  pub lt : i < length ls
  pub here : is_same_source source (get_or ls i d).source ≡ true
  pub before : (k : ℕ) → k < i → is_same_source source (get_or ls k d).source ≡ false

pub first_at : (source : Source) (ls : List Listened) (i : ℕ) (d : Listened) → position (λ l. is_same_source source l.source) ls ≡ Some i
    → IsFirst source ls i d
first_at source ls i d e = record {
  lt = (position-Some (λ l. is_same_source source l.source) ls i d e).0;
  here = (position-Some (λ l. is_same_source source l.source) ls i d e).1;
  before = (position-Some (λ l. is_same_source source l.source) ls i d e).2;
}

pub first_later : (source : Source) (x : Listened) (xs : List Listened) (i : ℕ) (d : Listened) → IsFirst source (x ∷ xs) (suc i) d
    → IsFirst source xs i d
first_later source x xs i d first = record {
  lt = omega (arith, first.lt);
  here = first.here;
  before = λ k lt. first.before (suc k) (omega arith);
}

absent_from : (source : Source) (ls : List Listened)
    → ((k : ℕ) (d : Listened) → k < length ls → is_same_source source (get_or ls k d).source ≡ false) → IsAbsent source (sources_of ls)
absent_from source [] all = refl
absent_from source (x ∷ xs) all =
    or_from (is_same_source source x.source) _ (all 0 x (omega arith)) (absent_from source xs (λ k d lt. all (suc k) d (omega arith)))

none_by : (b : Bool) (k : ℕ) → cond b (Some k) None ≡ None → b ≡ false
none_by true k e = absurd (none-some k (sym e))
none_by false k e = refl

pub absent_at : (source : Source) (ls : List Listened) → position (λ l. is_same_source source l.source) ls ≡ None → IsAbsent source (sources_of ls)
absent_at source ls e =
    let p : Listened → Bool = λ l. is_same_source source l.source in
    let long : length ls ≤ position_or_len p ls = ltb-false (position_or_len p ls) (length ls) (none_by _ (position_or_len p ls) e) in
    absent_from source ls (λ k d lt. fails_before_first p ls k d (omega (arith, long)))

-- no source stands twice
absent_removed : (source : Source) (ls : List Listened) (i : ℕ) → i < length ls → IsAbsent source (sources_of ls)
    → IsAbsent source (sources_of (take i ls ++ drop (suc i) ls))
absent_removed source [] i lt absent = absurd (omega (arith, lt))
absent_removed source (x ∷ xs) zero lt absent = (or_parts (is_same_source source x.source) _ absent).1
absent_removed source (x ∷ xs) (suc i) lt absent =
    or_from (is_same_source source x.source) _ (or_parts (is_same_source source x.source) _ absent).0
    (absent_removed source xs i (omega (arith, lt)) (or_parts (is_same_source source x.source) _ absent).1)

pub distinct_removed : (ls : List Listened) (i : ℕ) → i < length ls → AreDistinct (sources_of ls)
    → AreDistinct (sources_of (take i ls ++ drop (suc i) ls))
distinct_removed [] i lt distinct = absurd (omega (arith, lt))
distinct_removed (x ∷ xs) zero lt distinct = distinct.1
distinct_removed (x ∷ xs) (suc i) lt distinct =
    (absent_removed x.source xs i (omega (arith, lt)) distinct.0, distinct_removed xs i (omega (arith, lt)) distinct.1)

gone : (ls : List Listened) (i : ℕ) (y : Listened) → i < length ls → take i (set ls i y) ++ drop (suc i) (set ls i y) ≡ take i ls ++ drop (suc i) ls
gone [] i y lt = absurd (omega (arith, lt))
gone (x ∷ xs) zero y lt = refl
gone (x ∷ xs) (suc i) y lt = ap (λ z. x ∷ z) (gone xs i y (omega (arith, lt)))

pub distinct_gone : (ls : List Listened) (i : ℕ) (y : Listened) → i < length ls → AreDistinct (sources_of ls)
    → AreDistinct (sources_of (take i (set ls i y) ++ drop (suc i) (set ls i y)))
distinct_gone ls i y lt distinct = subst (λ l. AreDistinct (sources_of l)) (sym (gone ls i y lt)) (distinct_removed ls i lt distinct)

absent_pushed : (source : Source) (ls : List Listened) (l : Listened) → IsAbsent source (sources_of ls) → is_same_source source l.source ≡ false
    → IsAbsent source (sources_of (ls ++ l ∷ []))
absent_pushed source [] l absent other = or_from (is_same_source source l.source) false other refl
absent_pushed source (x ∷ xs) l absent other =
    or_from (is_same_source source x.source) _ (or_parts (is_same_source source x.source) _ absent).0
    (absent_pushed source xs l (or_parts (is_same_source source x.source) _ absent).1 other)

pub distinct_pushed : (ls : List Listened) (l : Listened) → AreDistinct (sources_of ls) → IsAbsent l.source (sources_of ls)
    → AreDistinct (sources_of (ls ++ l ∷ []))
distinct_pushed [] l distinct absent = (refl, tt)
distinct_pushed (x ∷ xs) l distinct absent = (
  absent_pushed x.source xs l distinct.0 (is_same-sym x.source l.source ∙ (or_parts (is_same_source l.source x.source) _ absent).0),
  distinct_pushed xs l distinct.1 (or_parts (is_same_source l.source x.source) _ absent).1,
)
