use Rattle.std.proofs.Common.{◌∙◌, sym, ap}
use Rattle.event_directory.specs.Sending.{view_of}
use Rattle.event_directory.proofs.Places.{first_at, absent_at}
use Rattle.event_directory.proofs.Changed.{standing_here, standing_nowhere}
use Rattle.event_directory.proofs.listened.list_at.Goals as goal

pub returns-in_err-place : goal.returns-in_err-place
returns-in_err-place g c =
    rw c.from_residual.ensures (sym (ap (view_of c.args.id) (standing_nowhere c.args.source c.args.listened.now
    (absent_at c.args.source c.args.listened.now (sym c.place_in.ensures ∙ c.in_err-place.was)))))

pub returns : goal.returns
returns g c =
    c.list.ensures ∙ ap (λ l. view_of c.args.id l.kept.standing) c.index-listened-place.is
    ∙ sym (ap (view_of c.args.id) (standing_here c.args.source c.args.listened.now c.in_ok-place.place c.index-listened-place.result
    (first_at c.args.source c.args.listened.now c.in_ok-place.place c.index-listened-place.result (sym c.place_in.ensures ∙ c.in_ok-place.was))))
