-- Intervals with one more behind them, and what is shown behind them.
use Rattle.std.proofs.Common.{◌≡◌, ℕ, ◌+◌, ◌<◌, ◌≤◌, List, [], ◌∷◌, ◌++◌, refl, sym, ap, ◌∙◌, subst, drop, get_or, length, Bool, true, false, nat_le, nat_lt, max, cond, arith}
use Rattle.std.proofs.lemmas.Bool.{le-leb, lt-leb, ltb-true, ltb-false}
use Rattle.std.proofs.lemmas.List.{at_drop_more, drop_all}
use Rattle.run_stories.specs.declared.intervals.Interval.{Interval}
use Rattle.run_stories.specs.declared.lanes.ShadeChange.{ShadeChange}
use Rattle.run_stories.specs.declared.scale.Scale.{Scale}
use Rattle.run_stories.specs.declared.shade.Shade.{Shade}
use Rattle.run_stories.specs.Intervals.{Fill, place_of, shown_at, with_interval}

-- each place from here to there shows this shade
abbrev pub Stays : (ℕ → Shade) → ℕ → ℕ → Shade → Type 0
Stays shown from to shade = (place : ℕ) → from ≤ place → place < to → shade ≡ shown place

fill_more : (shown : ℕ → Shade) (start : ℕ) (intervals : List Interval) (from to : ℕ) (shade : Shade) → Fill shown start intervals from
    → from < to → Stays shown from to shade → Fill shown start (intervals ++ record { from = from; to = to; shade = shade } ∷ []) to
fill_more shown start [] from to shade f some stays = (sym f, some, stays, refl)
fill_more shown start (first ∷ more) from to shade f some stays =
    (f.0, f.1, f.2, fill_more shown first.to more from to shade f.3 some stays)

-- up to the end of an interval that is not there the intervals fill the same
pub fill_on : (shown : ℕ → Shade) (start : ℕ) (intervals : List Interval) (from to : ℕ) (shade : Shade) → Fill shown start intervals from
    → Stays shown from to shade → Fill shown start (with_interval intervals from to shade) (max to from)
fill_on shown start intervals from to shade f stays = by (nat_lt from to) refl
  where
    by : (b : Bool) → nat_lt from to ≡ b
        → Fill shown start (cond b (intervals ++ record { from = from; to = to; shade = shade } ∷ []) intervals) (max to from)
    by true e =
        subst (Fill shown start (intervals ++ record { from = from; to = to; shade = shade } ∷ []))
        (sym (omega (arith, ltb-true from to e))) (fill_more shown start intervals from to shade f (ltb-true from to e) stays)
    by false e = subst (Fill shown start intervals) (sym (omega (arith, ltb-false from to e))) f

module _ (scale : Scale) (shown : ℕ → Shade) (from k : ℕ) (shade : Shade) (changes : List ShadeChange) (change : ShadeChange)
    (rest : (place : ℕ) → from ≤ place → shown place ≡ shown_at scale shade (drop k changes) place) where
  -- the next change decides
  next : (place : ℕ) → k < length changes → change ≡ get_or changes k change → from ≤ place
      → shown place ≡ cond (nat_le (place_of scale change.at) place) (shown_at scale change.shade (drop (k + 1) changes) place) shade
  next place lt is le =
      rest place le
      ∙ (at_drop_more (λ (ds : List ShadeChange). shown_at scale shade ds place) changes k change lt
      ∙ ap (λ (d : ShadeChange). shown_at scale shade (d ∷ drop (k + 1) changes) place) (sym is))

  -- up to its place the shade stays
  pub stays : k < length changes → change ≡ get_or changes k change → (to : ℕ) → to ≡ place_of scale change.at → Stays shown from to shade
  stays lt is to e place le less =
      sym (next place lt is le
      ∙ ap (λ (b : Bool). cond b (shown_at scale change.shade (drop (k + 1) changes) place) shade)
      (lt-leb (place_of scale change.at) place (subst (λ (t : ℕ). place < t) e less)))

  -- and from there on its own is shown
  pub goes_on : k < length changes → change ≡ get_or changes k change → (to : ℕ) → to ≡ place_of scale change.at → (place : ℕ)
      → max to from ≤ place → shown place ≡ shown_at scale change.shade (drop (k + 1) changes) place
  goes_on lt is to e place le =
      next place lt is (omega (arith, le))
      ∙ ap (λ (b : Bool). cond b (shown_at scale change.shade (drop (k + 1) changes) place) shade)
      (le-leb (place_of scale change.at) place (subst (λ (t : ℕ). t ≤ place) e (omega (arith, le))))

-- behind the last change the shade stays
pub stays_on : (scale : Scale) (shown : ℕ → Shade) (from k : ℕ) (shade : Shade) (changes : List ShadeChange)
    → ((place : ℕ) → from ≤ place → shown place ≡ shown_at scale shade (drop k changes) place) → length changes ≤ k → (to : ℕ)
    → Stays shown from to shade
stays_on scale shown from k shade changes rest none to place le less =
    sym (rest place le ∙ ap (λ (ds : List ShadeChange). shown_at scale shade ds place) (drop_all k changes none))
