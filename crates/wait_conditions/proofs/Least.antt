-- A waiter that is released has the verdict of the least number of moments.
use Rattle.std.proofs.Common.{◌≡◌, ◌≤◌, ◌<◌, ◌+◌, ℕ, zero, suc, List, [], ◌∷◌, ◌++◌, length, take, map, refl, sym, ap, ◌∙◌, arith}
use Rattle.std.proofs.lemmas.List.{length-append, take-append-le, take_all}
use Rattle.s6_events.specs.declared.moment.Moment.{Moment}
use Rattle.wait_conditions.specs.declared.verdict.Verdict.{Verdict}
use Rattle.wait_conditions.specs.declared.verdict.WaitState.{WaitState}
use Rattle.wait_conditions.specs.declared.verdict.WaitState.TheVariants.{Waiting, Released}
use Rattle.wait_conditions.specs.Verdict.{WaitTerms, verdict}
use Rattle.wait_conditions.specs.Release.{beginnings, first_release, release_state, first_release_of, IsLeast}
use Rattle.wait_conditions.proofs.Standings.{standing-push}

map_twice : (f : List Moment → WaitState) (g : List Moment → List Moment) (xs : List (List Moment)) → map f (map g xs) ≡ map (λ x. f (g x)) xs
map_twice f g [] = refl
map_twice f g (x ∷ xs) = ap (λ ss. f (g x) ∷ ss) (map_twice f g xs)

alone : (s : WaitState) (v : Verdict) → first_release (s ∷ []) ≡ Released v → s ≡ Released v
alone Waiting v h = cc
alone (Released u) v h = h

waited : (test : List Moment → WaitState) (m : Moment) (ms : List Moment) (k : ℕ) → test [] ≡ Waiting
    → ((j : ℕ) → j < k → test (m ∷ take j ms) ≡ Waiting) → (j : ℕ) → j < suc k → test (take j (m ∷ ms)) ≡ Waiting
waited test m ms k e h zero b = e
waited test m ms k e h (suc j) b = h j (omega arith)

with_first : (test : List Moment → WaitState) (m : Moment) (ms : List Moment) (v : Verdict) (s : WaitState) → test [] ≡ s
    → (first_release (map (λ b. test (m ∷ b)) (beginnings ms)) ≡ Released v → (k : ℕ) × IsLeast (λ b. test (m ∷ b)) ms v k)
    → first_release (s ∷ map test (map (λ b. m ∷ b) (beginnings ms))) ≡ Released v → (k : ℕ) × IsLeast test (m ∷ ms) v k
with_first test m ms v (Released u) e later h = (zero, record { within = omega arith; there = e ∙ h; before = λ j b. absurd (omega arith) })
with_first test m ms v Waiting e later h =
    let found = later (ap first_release (sym (map_twice test (λ b. m ∷ b) (beginnings ms))) ∙ h) in (
      suc found.0,
      record {
        within = (let w : found.0 ≤ length ms = found.1.within in omega arith);
        there = found.1.there;
        before =
            waited test m ms found.0 e found.1.before;
      },
    )

pub least : (test : List Moment → WaitState) (since : List Moment) (v : Verdict) → first_release (map test (beginnings since)) ≡ Released v
    → (k : ℕ) × IsLeast test since v k
least test [] v h = (zero, record { within = omega arith; there = alone (test []) v h; before = λ j b. absurd (omega arith) })
least test (m ∷ ms) v h = with_first test m ms v (test []) refl (λ e. least (λ b. test (m ∷ b)) ms v e) h

-- the law of release
pub released_at_least : (a : WaitTerms) (past since : List Moment) (v : Verdict) → release_state a past since ≡ Released v
    → (k : ℕ) × IsLeast (verdict a past) since v k
released_at_least a past since v h = least (verdict a past) since v h

alone_waits : (s : WaitState) → first_release (s ∷ []) ≡ Waiting → s ≡ Waiting
alone_waits Waiting h = refl
alone_waits (Released v) h = cc

-- the first of them waits, and so do those after it
waits_first : (s : WaitState) (later : List WaitState) → first_release (s ∷ later) ≡ Waiting → s ≡ Waiting
waits_first Waiting later h = refl
waits_first (Released v) later h = cc

waits_later : (s : WaitState) (later : List WaitState) → first_release (s ∷ later) ≡ Waiting → first_release later ≡ Waiting
waits_later Waiting later h = h
waits_later (Released v) later h = cc

all_waited : (test : List Moment → WaitState) (since : List Moment) → first_release (map test (beginnings since)) ≡ Waiting → (k : ℕ)
    → k ≤ length since → test (take k since) ≡ Waiting
all_waited test [] h zero b = alone_waits (test []) h
all_waited test [] h (suc k) b = absurd (omega arith)
all_waited test (m ∷ ms) h zero b = waits_first (test []) (map test (map (λ b. m ∷ b) (beginnings ms))) h
all_waited test (m ∷ ms) h (suc k) b =
    all_waited (λ b. test (m ∷ b)) ms
    (ap first_release (sym (map_twice test (λ b. m ∷ b) (beginnings ms))) ∙ waits_later (test []) (map test (map (λ b. m ∷ b) (beginnings ms))) h)
    k (omega arith)

-- the law of waiting
pub waits_at_each : (a : WaitTerms) (past since : List Moment) → release_state a past since ≡ Waiting → (k : ℕ) → k ≤ length since
    → verdict a past (take k since) ≡ Waiting
waits_at_each a past since h k b = all_waited (verdict a past) since h k b

-- a waiter that waited is released with the verdict over all moments
verdict_now : (a : WaitTerms) (past since : List Moment) (m : Moment) (v : Verdict)
    → release_state a past since ≡ Waiting → release_state a past (since ++ m ∷ []) ≡ Released v → verdict a past (since ++ m ∷ []) ≡ Released v
verdict_now a past since m v waits h = sym (standing-push a past since m ∙ ap (λ s. first_release_of s (verdict a past (since ++ m ∷ []))) waits)
    ∙ h

-- the law of the moment that releases
pub released_by_last : (a : WaitTerms) (past since : List Moment) (m : Moment) (v : Verdict)
    → release_state a past since ≡ Waiting → release_state a past (since ++ m ∷ []) ≡ Released v
    → IsLeast (verdict a past) (since ++ m ∷ []) v (length since + 1)
released_by_last a past since m v waits h =
    let size : length (since ++ m ∷ []) ≡ length since + 1 = length-append since (m ∷ []) in
    record {
      within = omega (arith, size);
      there = ap (verdict a past) (take_all (length since + 1) (since ++ m ∷ []) (omega (arith, size))) ∙ verdict_now a past since m v waits h;
      before = λ j b. ap (verdict a past) (take-append-le j since (m ∷ []) (omega arith)) ∙ waits_at_each a past since waits j (omega arith);
    }
