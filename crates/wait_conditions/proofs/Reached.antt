-- Whom some moments may touch, moment by moment.
use Rattle.std.proofs.Common.{◌≡◌, ℕ, List, [], ◌∷◌, filter}
use Rattle.std.proofs.Common.{refl, sym, ap, ◌∙◌}
use Rattle.std.specs.Prelude.{if◌then◌else◌}
use Rattle.std.proofs.lemmas.List.Elements.{All-head, All-tail}
use Rattle.s6_events.specs.declared.moment.Moment.{Moment}
use Rattle.wait_conditions.specs.declared.reach.Reach.TheVariants.{Nobody, WatchersOf}
use Rattle.wait_conditions.specs.Kept.{StoredWaiter}
use Rattle.wait_conditions.specs.Reach.{TouchWithin}
use Rattle.wait_conditions.specs.Watchers.{IsDueFrom, AreDueFrom, touched_by, watches}
use Rattle.wait_conditions.proofs.Filtered.{filter_no}

-- over the whole of some waiters
pub none_touched : (due : ℕ) (ms : List Moment) (ks : List StoredWaiter) → TouchWithin due Nobody ms → AreDueFrom due ks
    → filter (touched_by ms) ks ≡ []
none_touched due ms [] h d = refl
none_touched due ms (k ∷ ks) h d =
    filter_no (touched_by ms) k ks (h k (All-head (IsDueFrom due) k ks d)) ∙ none_touched due ms ks h (All-tail (IsDueFrom due) k ks d)

pub same_touched : (due sid : ℕ) (ms : List Moment) (ks : List StoredWaiter) → TouchWithin due (WatchersOf sid) ms → AreDueFrom due ks
    → filter (watches sid) ks ≡ filter (touched_by ms) ks
same_touched due sid ms [] h d = refl
same_touched due sid ms (k ∷ ks) h d =
    ap (λ b. if b then k ∷ filter (watches sid) ks else filter (watches sid) ks) (sym (h k (All-head (IsDueFrom due) k ks d)))
    ∙ ap (λ js. if touched_by ms k then k ∷ js else js) (same_touched due sid ms ks h (All-tail (IsDueFrom due) k ks d))
