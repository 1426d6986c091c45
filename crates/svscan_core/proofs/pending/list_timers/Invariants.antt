use Rattle.std.proofs.Common.{◌≡◌, ◌++◌, map, take}
use Rattle.deadlines.specs.declared.timer.TimerChange.TheVariants.{Clear}
use Rattle.svscan_core.specs.Moving.{timers_of}
use Rattle.svscan_core.specs.Table.{charts_of}
use Rattle.svscan_core.specs.Timers.{timer_change_of}
use Rattle.svscan_core.proofs.pending.list_timers.Given as goal

abbrev pub invariant-loop-touched : goal.invariant-loop-touched
invariant-loop-touched g l = l.timers.items ≡ timers_of (take l.touched-index l.moves.touched.items)

abbrev pub invariant-loop-sid : goal.invariant-loop-sid
invariant-loop-sid g l = l.timers.items ≡ timers_of l.moves.touched.items
    ++ map (λ sid. Clear sid) (take l.sid-index l.scan.dropped_sids.items)

abbrev pub invariant-loop-service : goal.invariant-loop-service
invariant-loop-service g l =
    l.timers.items ≡ timers_of l.moves.touched.items
    ++ (map (λ sid. Clear sid) l.scan.dropped_sids.items ++ map timer_change_of (charts_of (take l.service-index l.scan.added.items)))
