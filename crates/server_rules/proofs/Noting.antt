-- One step of a loop that goes over all elements and changes each.
use Rattle.std.proofs.Common.{◌≡◌, ℕ, ◌+◌, ◌<◌, List, [], ◌∷◌, ◌++◌, length, take, drop, map, set, get_or, sym, ap, ◌∙◌}
use Rattle.std.proofs.lemmas.List.{take_more_set, map-append}
use Rattle.event_directory.proofs.Walk.{walk_now}

pub note_done : {X : Type 0} (h : X → X) (xs ys : List X) (i : ℕ) (y d : X) → i < length xs → drop i xs ≡ drop i ys →
    take i xs ≡ map h (take i ys) → y ≡ h (get_or xs i d) → take (i + 1) (set xs i y) ≡ map h (take (i + 1) ys)
note_done h xs ys i y d lt rest done e =
    take_more_set xs i y lt ∙ ap (λ l. l ++ y ∷ []) done ∙ ap (λ z. map h (take i ys) ++ z ∷ []) e
    ∙ sym (map-append h (take i ys) (get_or xs i d ∷ [])) ∙ ap (map h) (sym (walk_now xs ys i d lt rest))
