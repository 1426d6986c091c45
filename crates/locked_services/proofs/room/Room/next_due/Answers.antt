use Rattle.std.proofs.Common.{sym, ap, subst, ◌∙◌}
use Rattle.tree_core.specs.NextDue.{next_due}
use Rattle.tree_core.specs.StandsFor.{StandsFor}
use Rattle.run_records.specs.Runs.{end_of}
use Rattle.locked_services.specs.Shots.{RoomView}
use Rattle.locked_services.proofs.room.Room.next_due.Goals as goal

pub returns : goal.returns
returns g c m s =
    let here : StandsFor c.self.inside.running.opening m = subst (λ (v : RoomView). StandsFor v.running.opening m) (sym c.self.view_is) s in
    c.next_due.ensures m here ∙ ap (λ (v : RoomView). next_due (end_of m v.running.steps)) c.self.view_is
