-- A letter of a source is prepared in the directory of that source, if there is one.
use Rattle.std.proofs.Common.{◌≡◌, ℕ, zero, suc, List, [], ◌∷◌, ◌++◌, Bool, map, set, get_or, refl, sym, ap, ◌∙◌, arith}
use Rattle.std.proofs.lemmas.Bool.{or_parts}
use Rattle.std.proofs.lemmas.List.{append-nil}
use Rattle.event_directory.specs.Directories.{is_same_source}
use Rattle.event_directory.specs.Hearing.{heard_more}
use Rattle.event_directory.specs.Parts.{Listened, followed_after, IsAbsent}
use Rattle.event_directory.specs.Remembered.{kept_at}
use Rattle.event_directory.specs.Sending.{after_letter, hits_from}
use Rattle.event_directory.specs.declared.hit.Hit.{Hit}
use Rattle.event_directory.specs.declared.source.Source.{Source}
use Rattle.event_directory.proofs.Places.{IsFirst, first_later, same_followed, sources_of}

module _ (test : List ℕ → List ℕ → Bool) (source : Source) (x : ℕ) where
  pub hear_here : (ls : List Listened) (i : ℕ) (y d : Listened) → IsFirst source ls i d → y.source ≡ (get_or ls i d).source
      → y.kept.prepared ≡ after_letter test x (get_or ls i d).kept.prepared →
      map followed_after (set ls i y) ≡ heard_more test source x (map followed_after ls)
  hear_here [] i y d first same next = absurd (omega (arith, first.lt))
  hear_here (l ∷ ls) zero y d first same next =
      rw first.here (ap (λ z. z ∷ map followed_after ls) (same_followed _ _ same next))
  hear_here (l ∷ ls) (suc i) y d first same next =
      rw (first.before 0 (omega arith)) (ap (λ z. followed_after l ∷ z) (hear_here ls i y d (first_later source l ls i d first) same next))

  pub hits_here : (ls : List Listened) (i : ℕ) (d : Listened) → IsFirst source ls i d → (hits : List (ℕ × Hit))
      → hits ≡ hits_from test x (get_or ls i d).kept.prepared →
      hits ≡ hits_from test x (kept_at source (map followed_after ls))
  hits_here [] i d first hits e = absurd (omega (arith, first.lt))
  hits_here (l ∷ ls) zero d first hits e = rw first.here e
  hits_here (l ∷ ls) (suc i) d first hits e = rw (first.before 0 (omega arith)) (hits_here ls i d (first_later source l ls i d first) hits e)

  nobody : (ls : List Listened) → IsAbsent source (sources_of ls) → kept_at source (map followed_after ls) ≡ []
  nobody [] absent = refl
  nobody (l ∷ ls) absent = rw ((or_parts (is_same_source source l.source) _ absent).0)
      (nobody ls (or_parts (is_same_source source l.source) _ absent).1)

  pub hear_nowhere : (ls : List Listened) → IsAbsent source (sources_of ls)
      → map followed_after ls ≡ heard_more test source x (map followed_after ls)
  hear_nowhere [] absent = refl
  hear_nowhere (l ∷ ls) absent =
      rw ((or_parts (is_same_source source l.source) _ absent).0)
      (ap (λ z. followed_after l ∷ z) (hear_nowhere ls (or_parts (is_same_source source l.source) _ absent).1))

  pub hits_nowhere : (ls : List Listened) (matches : List (ℕ × Hit)) → IsAbsent source (sources_of ls)
      → matches ≡ matches ++ hits_from test x (kept_at source (map followed_after ls))
  hits_nowhere ls matches absent = sym (append-nil matches) ∙ ap (λ l. matches ++ hits_from test x l) (sym (nobody ls absent))
