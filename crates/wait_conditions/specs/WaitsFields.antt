-- What the fields of the waiters stand for, and what is true of them.
use Rattle.std.specs.Prelude.{◌≡◌, ◌≤◌, ◌-◌, ◌<◌, ◌^◌, All, List, map, vec_len, vec_capacity, nat_le, if◌then◌else◌}
use Rattle.s6_events.specs.Rising.{AreRising}
use Rattle.wait_conditions.specs.declared.waiter.Waiter.{Waiter}
use Rattle.wait_conditions.specs.declared.waiter_list.WaiterList.TheInside as list
use Rattle.wait_conditions.specs.declared.waits.Waits.TheInside as waits
use Rattle.wait_conditions.specs.Counts.{counts_of}
use Rattle.wait_conditions.specs.Kept.{StoredWaiter, waiter_view}
use Rattle.wait_conditions.specs.Stands.{StoredList, StoredWaits}
use Rattle.wait_conditions.specs.Watchers.{AreDueFrom, AreIndexed, BeganInOrder}

-- waiters as they are stored
abbrev pub waiters_view : List Waiter → List StoredWaiter
waiters_view ws = map waiter_view ws

-- one more waiter fits where there is room for it, and for a watcher of each of its services
abbrev pub list_view : {A : Type 0} → list.Inside A → StoredList
list_view l = record {
  waiters = waiters_view l.waiters.items;
  spare = if nat_le 16 l.watchers.spare_capacity then vec_capacity l.waiters - vec_len l.waiters else 0;
}

abbrev pub waits_view : {A : Type 0} → waits.Inside A → StoredWaits
waits_view w = record {
  count = w.count;
  states = w.states.runs;
  waiters = w.list.waiters;
  next = w.next;
  spare_waiters = w.list.spare;
  spare_runs = w.states.spare_capacity;
}

-- the counters of a waiter count what it knows of its services
abbrev pub IsCounted : Waiter → Type 0
IsCounted w = w.counts ≡ counts_of w.watched.items

-- the counters of each waiter count; the waiters stand in the order in which they were made; the watchers are those that watch; and no
-- waiter that waits has a deadline before `due`
pub record IsSoundList {A : Type 0} (l : list.Inside A) : Type 0 where
  pub counted : All IsCounted l.waiters.items
  pub rising : AreRising (map (λ k. k.id) (waiters_view l.waiters.items))
  pub began : BeganInOrder (waiters_view l.waiters.items)
  pub indexed : AreIndexed l.watchers.watchers (waiters_view l.waiters.items)
  pub due : AreDueFrom l.due (waiters_view l.waiters.items)

-- each serial is below the next one, each waiter began by now, and the moments that came are fewer than 2 ^ 63
pub record IsSoundWaits {A : Type 0} (w : waits.Inside A) : Type 0 where
  pub below : All (λ k. k.id < w.next) w.list.waiters
  pub placed : All (λ k. k.place ≤ w.count) w.list.waiters
  pub few : w.count < 2 ^ 63
