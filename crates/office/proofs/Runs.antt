-- What is true of the run of an office.
use Rattle.std.proofs.Common.{◌≡◌, ◌⊎◌, ℕ, Bool, true, false, List, length, nat_le, inl, inr, refl, ap, sym, subst, ◌∙◌, arith}
use Rattle.std.proofs.lemmas.List.{length-map, map-append}
use Rattle.std.proofs.lemmas.Bool.Decides.{nat_tests}
use mathlib.Core.List.{IsPrefix}
use Rattle.status_board.proofs.Beginnings.{prefix_shorter}
use Rattle.s6_events.specs.declared.order.Order.{Order}
use Rattle.inbox.specs.Ends.{FinishedView}
use Rattle.tree_core.specs.StandsFor.{StoredTree}
use Rattle.run_records.specs.Runs.{RunStep, inputs_of}
use Rattle.locked_services.specs.Chain.{IsLegalRun}
use Rattle.locked_services.specs.Closing.{IsClosed, IsRunFrom}
use Rattle.locked_services.specs.Shots.{Grows, IsSoundHistory, RoomView}
use Rattle.locked_services.specs.declared.closing.Closed.{Closed}
use Rattle.office.specs.Told.{AddsInputs}

pub run_of : {B : Type 0} (asked : B → List Order) (before : ℕ → List Order) (opening : StoredTree) (v : RoomView) (finishes : List FinishedView)
    (closed : Closed B) → IsSoundHistory opening v → IsClosed asked before v.running finishes closed → IsRunFrom opening closed
run_of asked before opening v finishes closed sound is =
    let legal : IsLegalRun (record { opening = opening; steps = v.running.steps; tree = closed.tree.value }) =
    subst (λ (o : StoredTree). IsLegalRun (record { opening = o; steps = v.running.steps; tree = closed.tree.value })) sound.room.begins is.legal in (
      is.steps ∙ ap length (sym is.run),
      subst (λ (ss : List RunStep). IsLegalRun (record { opening = opening; steps = ss; tree = closed.tree.value })) (sym is.run) legal,
    )

begins_by_length : {A : Type 0} (xs ys zs : List A) → IsPrefix xs zs → IsPrefix ys zs → (b : Bool) → nat_le (length xs) (length ys) ≡ b
    → IsPrefix xs ys ⊎ IsPrefix ys xs
begins_by_length xs ys zs one other true is = inl (prefix_shorter xs ys zs one other (grind (is, arith, nat_tests)))
begins_by_length xs ys zs one other false is = inr (prefix_shorter ys xs zs other one (grind (is, arith, nat_tests)))

-- of two beginnings of a list one begins the other
pub either_begins : {A : Type 0} (xs ys zs : List A) → IsPrefix xs zs → IsPrefix ys zs → IsPrefix xs ys ⊎ IsPrefix ys xs
either_begins xs ys zs one other = begins_by_length xs ys zs one other (nat_le (length xs) (length ys)) refl

-- so many steps more are so many inputs more
pub adds_inputs : (n : ℕ) (old new : List RunStep) → Grows n old new → AddsInputs n (inputs_of old) (inputs_of new)
adds_inputs n old new grown =
    let input = λ (s : RunStep). s.input in
    (inputs_of grown.0, length-map grown.0 input ∙ grown.1, ap inputs_of grown.2 ∙ map-append input old grown.0)
