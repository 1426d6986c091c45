-- How deadlines are stored.
use Rattle.std.specs.Prelude.{◌≡◌, ◌-◌, true, min, vec_len, vec_capacity}
use Rattle.deadlines.specs.Timers.{rises}
use Rattle.deadlines.specs.Queue.{in_moment_order, HaveSameTimers}
use Rattle.deadlines.specs.Deadlines.{Armed}
use Rattle.deadlines.specs.declared.deadlines.Deadlines.TheInside.{Inside}

-- the timers, the room that is left in both lists, and the services that were found due
abbrev pub deadlines_view : {A : Type 0} → Inside A → Armed
deadlines_view d = record {
  timers = d.timers.items;
  spare_capacity = min (vec_capacity d.timers - vec_len d.timers) (vec_capacity d.queue - vec_len d.queue);
  found = d.found.items;
}

-- the timers stand in rising serial, and the queue has the same ones in the order of their moments
pub record IsInOrder {A : Type 0} (d : Inside A) : Type 0 where
  pub timers : rises d.timers.items ≡ true
  pub queue : in_moment_order d.queue.items ≡ true
  pub same : HaveSameTimers d.queue.items d.timers.items
