use Rattle.std.proofs.Common.{◌≡◌, ◌∙◌, sym, ap, take}
use Rattle.std.specs.Prelude.{Some, None, slice_get, option_map}
use Rattle.supervise_core.specs.Service.{service_view}
use Rattle.svscan_core.specs.declared.moves.ChangedService.{ChangedService}
use Rattle.svscan_core.specs.Moving.{with_changes, with_change}
use Rattle.svscan_core.proofs.Taking.{none_touched, own_touched, other_touched, touched_first}
use Rattle.svscan_core.proofs.moves.standing_at.Goals.{then-other-place, else-other-place}
use Rattle.svscan_core.proofs.moves.standing_at.Goals as goal

pub returns-in_err-nth : goal.returns-in_err-nth
returns-in_err-nth g c =
    let none : slice_get c.args.slots.now.services c.args.place ≡ None = sym c.in_err-nth.ensures in
    ap (option_map (λ s. s.now)) c.from_residual.ensures
    ∙ sym (ap (option_map service_view) (none_touched c.args.slots.now.services c.args.touched.now c.args.place none))

pub loop-other-preserved : goal.loop-other-preserved
loop-other-preserved g c =
    let ss = with_changes c.args.slots.now.services (take c.loop-other.other-index c.args.touched.now) in
    let x = c.other-item.result in
    let more = touched_first c.args.slots.now.services c.args.touched.now c.loop-other.other-index x c.loop-other-test.true in
    let stands = c.loop-other.invariant in
    (elim c.if-other-place.branch [
      | then-other-place w ↦ ap (λ s. Some s.now) w.standing-is ∙ own_touched ss x c.args.place c.loop-other.standing.now w.if-other-place.true stands
      | else-other-place w ↦ ap (λ s. Some s.now) w.standing-is
          ∙ (stands ∙ sym (ap (option_map service_view) (other_touched ss x c.args.place w.if-other-place.false)))
    ])
    ∙ sym (ap (λ (services : _). option_map service_view (slice_get services c.args.place))
    (more ∙ ap (λ (y : ChangedService). with_change ss y) (sym c.other-item.is)))
