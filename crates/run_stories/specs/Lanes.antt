-- What a lane of a timeline shows of a service.
use Rattle.std.specs.Prelude.{Bool, true, false}
use Rattle.s6_events.specs.declared.mark.Mark.{Mark}
use Rattle.s6_events.specs.declared.mark.Mark.TheVariants as mark
use Rattle.supervise_core.specs.declared.row.Row.{Row}
use Rattle.run_stories.specs.declared.shade.Shade.{Shade}
use Rattle.run_stories.specs.declared.shade.Shade.TheVariants as shade
use Rattle.run_stories.specs.declared.shade.Supervision.{Supervision}
use Rattle.run_stories.specs.declared.shade.Supervision.TheVariants as supervision

-- the supervision of a service after this mark: whether its supervisor is there, and whether it failed for good
abbrev pub supervision_after : Supervision → Mark → Supervision
supervision_after s mark.SupervisorStarted = supervision.Supervised
supervision_after s mark.Spawned = supervision.Supervised
supervision_after s mark.PermanentFailure = supervision.Failed
supervision_after s mark.SupervisorEnded = supervision.Gone
supervision_after s m = s

-- the shade of a service that is up, by whether it is ready
abbrev pub up_shade : Bool → Shade
up_shade true = shade.Ready
up_shade false = shade.Up

-- the shade of one that is down with its finish done, by whether it is wanted up, and by its supervision
abbrev pub done_shade : Bool → Supervision → Shade
done_shade true s = shade.Pausing
done_shade false supervision.Failed = shade.Failed
done_shade false s = shade.Down

-- the shade of one that is not up, by whether its finish is done
abbrev pub down_shade : Bool → Bool → Supervision → Shade
down_shade false wanted_up s = shade.Finishing
down_shade true wanted_up s = done_shade wanted_up s

abbrev pub row_shade : Bool → Bool → Bool → Supervision → Shade
row_shade true ready wanted_up s = up_shade ready
row_shade false ready wanted_up s = down_shade ready wanted_up s

-- the shade of a service, by its row and its supervision
abbrev pub shade_of : Supervision → Row → Shade
shade_of supervision.Gone row = shade.Absent
shade_of s row = row_shade row.up row.ready row.wanted_up s
