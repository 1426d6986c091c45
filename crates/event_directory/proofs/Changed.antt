-- The directory of a source is joined, left or looked at.
use Rattle.std.proofs.Common.{◌≡◌, ℕ, zero, suc, ◌==◌, List, [], ◌∷◌, ◌++◌, true, false, length, take, drop, map, set, get_or, refl, sym, ap}
use Rattle.std.proofs.Common.{subst, ◌∙◌, arith}
use Rattle.std.specs.Prelude.{Vec}
use Rattle.std.specs.Vec.{with_items}
use Rattle.std.proofs.Math.Dec.{eqb-suc-zero}
use Rattle.std.proofs.lemmas.List.{with_items_is, length-map}
use Rattle.std.proofs.lemmas.Bool.{or_parts, false≢true}
use Rattle.event_directory.specs.Directories.{is_same_source}
use Rattle.event_directory.specs.Parts.{Listened, followed_of, room_of, room_at, IsAbsent, AreDistinct}
use Rattle.event_directory.specs.Register.{followed_others, followed_if, without_subscription_at}
use Rattle.event_directory.specs.Remembered.{DirectoriesShown, Followed, kept_at, with_subscription_at}
use Rattle.event_directory.specs.Sending.{KeptSubscription, kept_without}
use Rattle.event_directory.specs.declared.source.Source.{Source}
use Rattle.event_directory.proofs.Places.{IsFirst, first_later, same_followed, sources_of}

-- the sources are those that there is room for
sources_by_room : (ls : List Listened) → map (λ r. r.0) (map room_of ls) ≡ sources_of ls
sources_by_room [] = refl
sources_by_room (l ∷ ls) = ap (λ z. l.source ∷ z) (sources_by_room ls)

pub sources_roomed : (ls : List Listened) → map (λ r. r.0) (map room_of ls) ≡ sources_of ls
sources_roomed ls = sources_by_room ls

pub same_sources : (xs ys : List Listened) → map room_of xs ≡ map room_of ys → sources_of xs ≡ sources_of ys
same_sources xs ys e = sym (sources_by_room xs) ∙ ap (map (λ r. r.0)) e ∙ sources_by_room ys

pub still_distinct : (xs ys : List Listened) → map room_of xs ≡ map room_of ys → AreDistinct (sources_of ys) → AreDistinct (sources_of xs)
still_distinct xs ys e distinct = subst AreDistinct (sym (same_sources xs ys e)) distinct

length_by : {Y : Type 0} (f : Listened → Y) (xs ys : List Listened) → map f xs ≡ map f ys → length xs ≡ length ys
length_by f xs ys e = sym (length-map xs f) ∙ ap length e ∙ length-map ys f

pub items_by : {Y Z : Type 0} (f : Listened → Y) (v : Vec Listened Z) (ws : List Listened) → map f ws ≡ map f v.items → (with_items v ws).items ≡ ws
items_by f v ws e = with_items_is v ws (length_by f ws v.items e ∙ sym v.ok.0)

pub still_by_room : {Z : Type 0} (v : Vec Listened Z) (ws : List Listened) → map room_of ws ≡ map room_of v.items → AreDistinct (sources_of v.items)
    → AreDistinct (sources_of (with_items v ws).items)
still_by_room v ws e distinct = subst (λ ls. AreDistinct (sources_of ls)) (sym (items_by room_of v ws e)) (still_distinct ws v.items e distinct)

sources_by_followed : (ls : List Listened) → map (λ f. f.source) (map followed_of ls) ≡ sources_of ls
sources_by_followed [] = refl
sources_by_followed (l ∷ ls) = ap (λ z. l.source ∷ z) (sources_by_followed ls)

pub still_by_followed : {Z : Type 0} (v : Vec Listened Z) (ws : List Listened) → map followed_of ws ≡ map followed_of v.items
    → AreDistinct (sources_of v.items) → AreDistinct (sources_of (with_items v ws).items)
still_by_followed v ws e distinct =
    subst (λ ls. AreDistinct (sources_of ls)) (sym (items_by followed_of v ws e))
    (subst AreDistinct (sym (sym (sources_by_followed ws) ∙ ap (map (λ f. f.source)) e ∙ sources_by_followed v.items)) distinct)

module _ (source : Source) where
  pub joined_here : (one : KeptSubscription) (ls : List Listened) (i : ℕ) (y d : Listened) → IsFirst source ls i d
      → y.source ≡ (get_or ls i d).source →
      y.kept.standing ≡ (get_or ls i d).kept.standing ++ one ∷ []
      → map followed_of (set ls i y) ≡ with_subscription_at source one (map followed_of ls)
  joined_here one [] i y d first same more = absurd (omega (arith, first.lt))
  joined_here one (l ∷ ls) zero y d first same more = rw first.here (ap (λ z. z ∷ map followed_of ls) (same_followed _ _ same more))
  joined_here one (l ∷ ls) (suc i) y d first same more =
      rw (first.before 0 (omega arith)) (ap (λ z. followed_of l ∷ z) (joined_here one ls i y d (first_later source l ls i d first) same more))

  pub joined_last : (one : KeptSubscription) (ls : List Listened) (l : Listened) → IsAbsent source (sources_of ls) → l.source ≡ source
      → l.kept.standing ≡ one ∷ [] →
      map followed_of (ls ++ l ∷ []) ≡ with_subscription_at source one (map followed_of ls)
  joined_last one [] l absent same only = ap (λ z. z ∷ []) (same_followed _ _ same only)
  joined_last one (x ∷ xs) l absent same only =
      rw ((or_parts (is_same_source source x.source) _ absent).0)
      (ap (λ z. followed_of x ∷ z) (joined_last one xs l (or_parts (is_same_source source x.source) _ absent).1 same only))

  pub room_here : (ls : List Listened) (i : ℕ) (d : Listened) → IsFirst source ls i d → room_at source (map room_of ls) ≡ (get_or ls i d).kept.room
  room_here [] i d first = absurd (omega (arith, first.lt))
  room_here (l ∷ ls) zero d first = rw first.here refl
  room_here (l ∷ ls) (suc i) d first = rw (first.before 0 (omega arith)) (room_here ls i d (first_later source l ls i d first))

  pub room_nowhere : (ls : List Listened) → IsAbsent source (sources_of ls) → room_at source (map room_of ls) ≡ 0
  room_nowhere [] absent = refl
  room_nowhere (l ∷ ls) absent = rw ((or_parts (is_same_source source l.source) _ absent).0)
      (room_nowhere ls (or_parts (is_same_source source l.source) _ absent).1)

  pub room_set : (ls : List Listened) (i : ℕ) (y d : Listened) → IsFirst source ls i d → y.source ≡ (get_or ls i d).source
      → room_at source (map room_of (set ls i y)) ≡ y.kept.room
  room_set [] i y d first same = absurd (omega (arith, first.lt))
  room_set (l ∷ ls) zero y d first same = rw (ap (is_same_source source) same ∙ first.here) refl
  room_set (l ∷ ls) (suc i) y d first same = rw (first.before 0 (omega arith)) (room_set ls i y d (first_later source l ls i d first) same)

  pub standing_here : (ls : List Listened) (i : ℕ) (d : Listened) → IsFirst source ls i d
      → kept_at source (map followed_of ls) ≡ (get_or ls i d).kept.standing
  standing_here [] i d first = absurd (omega (arith, first.lt))
  standing_here (l ∷ ls) zero d first = rw first.here refl
  standing_here (l ∷ ls) (suc i) d first = rw (first.before 0 (omega arith)) (standing_here ls i d (first_later source l ls i d first))

  pub standing_nowhere : (ls : List Listened) → IsAbsent source (sources_of ls) → kept_at source (map followed_of ls) ≡ []
  standing_nowhere [] absent = refl
  standing_nowhere (l ∷ ls) absent = rw ((or_parts (is_same_source source l.source) _ absent).0)
      (standing_nowhere ls (or_parts (is_same_source source l.source) _ absent).1)

  others_all : (ls : List Listened) → IsAbsent source (sources_of ls) → followed_others source (map followed_of ls) ≡ map followed_of ls
  others_all [] absent = refl
  others_all (l ∷ ls) absent =
      rw ((or_parts (is_same_source source l.source) _ absent).0)
      (ap (λ z. followed_of l ∷ z) (others_all ls (or_parts (is_same_source source l.source) _ absent).1))

kept_if : (source : Source) (standing : List KeptSubscription) (fs : List Followed) → (length standing == 0) ≡ false
    → followed_if source standing fs ≡ record { source = source; standing = standing } ∷ fs
kept_if source [] fs e = absurd (false≢true (sym e))
kept_if source (s ∷ ss) fs e = refl

gone_if : (source : Source) (standing : List KeptSubscription) (fs : List Followed) → (length standing == 0) ≡ true
    → followed_if source standing fs ≡ followed_others source fs
gone_if source [] fs e = refl
gone_if source (s ∷ ss) fs e = absurd (false≢true (sym (eqb-suc-zero (length ss)) ∙ e))

module _ (id : ℕ) (source : Source) where
  pub left_kept : (ls : List Listened) (i : ℕ) (y d : Listened) → IsFirst source ls i d → y.source ≡ (get_or ls i d).source
      → y.kept.standing ≡ kept_without id (get_or ls i d).kept.standing →
      (length y.kept.standing == 0) ≡ false → map followed_of (set ls i y) ≡ without_subscription_at id source (map followed_of ls)
  left_kept [] i y d first same after some = absurd (omega (arith, first.lt))
  left_kept (l ∷ ls) zero y d first same after some =
      rw first.here (ap (λ z. z ∷ map followed_of ls) (same_followed _ _ same after)
      ∙ sym (kept_if l.source (kept_without id l.kept.standing) (map followed_of ls) (ap (λ z. length z == 0) (sym after) ∙ some)))
  left_kept (l ∷ ls) (suc i) y d first same after some =
      rw (first.before 0 (omega arith)) (ap (λ z. followed_of l ∷ z) (left_kept ls i y d (first_later source l ls i d first) same after some))

  pub left_gone : (ls : List Listened) (i : ℕ) (y d : Listened) → IsFirst source ls i d
      → y.kept.standing ≡ kept_without id (get_or ls i d).kept.standing →
      (length y.kept.standing == 0) ≡ true → AreDistinct (sources_of ls)
      → map followed_of (take i (set ls i y) ++ drop (suc i) (set ls i y)) ≡ without_subscription_at id source (map followed_of ls)
  left_gone [] i y d first after none distinct = absurd (omega (arith, first.lt))
  left_gone (l ∷ ls) zero y d first after none distinct =
      rw first.here (sym (others_all l.source ls distinct.0)
      ∙ sym (gone_if l.source (kept_without id l.kept.standing) (map followed_of ls) (ap (λ z. length z == 0) (sym after) ∙ none)))
  left_gone (l ∷ ls) (suc i) y d first after none distinct =
      rw (first.before 0 (omega arith)) (ap (λ z. followed_of l ∷ z) (left_gone ls i y d (first_later source l ls i d first) after none distinct.1))

  pub left_nowhere : (ls : List Listened) → IsAbsent source (sources_of ls)
      → map followed_of ls ≡ without_subscription_at id source (map followed_of ls)
  left_nowhere [] absent = refl
  left_nowhere (l ∷ ls) absent =
      rw ((or_parts (is_same_source source l.source) _ absent).0)
      (ap (λ z. followed_of l ∷ z) (left_nowhere ls (or_parts (is_same_source source l.source) _ absent).1))

-- what is shown, by its parts
pub same_shown : (a b : DirectoriesShown) → a.names ≡ b.names → a.subscribers ≡ b.subscribers → a.followed ≡ b.followed → a.next ≡ b.next → a ≡ b
same_shown a b en es ef ex = λ i. record { names = en i; subscribers = es i; followed = ef i; next = ex i }
