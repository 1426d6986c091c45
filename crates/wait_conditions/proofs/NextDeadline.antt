-- The next deadline, by what is stored of the waiters.
use Rattle.std.proofs.Common.{◌≡◌, ◌∙◌, ◌∷◌, ◌++◌, [], List, refl, ap, map}
use Rattle.std.specs.Prelude.{Option, None, ℕ}
use Rattle.std.proofs.lemmas.List.{map-append}
use Rattle.std.proofs.lemmas.List.Sums.{fold-append}
use Rattle.s6_events.specs.declared.moment.Moment.{Moment}
use Rattle.wait_conditions.specs.Kept.{StoredWaiter}
use Rattle.wait_conditions.specs.NextDeadline.{earlier_of, earliest, awaited_until, next_deadline, stored_until}
use Rattle.wait_conditions.specs.Stands.{WaitsShown, WaitsStandFor, stored_waiter}
use Rattle.wait_conditions.specs.Watch.{Watch, WrittenWaiter}

-- one more waiter
pub earliest_more : (ks : List StoredWaiter) (k : StoredWaiter)
    → earliest (map stored_until (ks ++ k ∷ [])) ≡ earlier_of (earliest (map stored_until ks)) (stored_until k)
earliest_more ks k = ap earliest (map-append stored_until ks (k ∷ [])) ∙ fold-append earlier_of None (map stored_until ks) (stored_until k ∷ [])

-- what is stored of a waiter has its deadline
same_until : (history : List Moment) (ps : List WrittenWaiter)
    → map stored_until (map (stored_waiter history) ps) ≡ map (awaited_until history) ps
same_until history [] = refl
same_until history (p ∷ ps) = ap (λ (moments : List (Option ℕ)). awaited_until history p ∷ moments) (same_until history ps)

pub next_stored : (s : WaitsShown) (w : Watch) → WaitsStandFor s w → earliest (map stored_until s.waiters) ≡ next_deadline w
next_stored s w st = ap (λ ks. earliest (map stored_until ks)) st.waiters ∙ ap earliest (same_until w.history w.waiters)
