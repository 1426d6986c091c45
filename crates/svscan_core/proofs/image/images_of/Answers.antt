use Rattle.std.proofs.Common.{◌∙◌, ◌++◌, ◌∷◌, [], ap, sym, take}
use Rattle.std.proofs.lemmas.List.{take_more}
use Rattle.std.proofs.lemmas.Option.{slice_get_within, get_or_from_slice_get}
use Rattle.svscan_core.proofs.image.images_of.Goals as goal

pub loop-place-preserved : goal.loop-place-preserved
loop-place-preserved g c =
    let services = c.args.slots.now.services in
    let place = c.loop-place.place in
    let image = c.in_ok-image_at.field-0 in
    let there = c.in_ok-image_at.ensures in
    c.in_ok-push.ensures.items
    ∙ (ap (λ xs. xs ++ image ∷ []) c.loop-place.invariant
    ∙ (sym (ap (λ x. take place services ++ x ∷ []) (get_or_from_slice_get services place image image there))
    ∙ sym (take_more services place image (slice_get_within services place image there))))
