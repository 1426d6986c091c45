-- The next deadline of the waiters that wait still.
use Rattle.std.specs.Prelude.{ℕ, List, Bool, true, Option, Some, None, fold, map, min, nat_lt, if◌then◌else◌}
use Rattle.s6_events.specs.declared.moment.Moment.{Moment}
use Rattle.wait_conditions.specs.Kept.{StoredWaiter, is_waiting, still_waits}
use Rattle.wait_conditions.specs.Watch.{Watch, WrittenWaiter, waiter_state}

-- the earlier of two moments, or the one that there is, if any
abbrev pub earlier_of : Option ℕ → Option ℕ → Option ℕ
earlier_of None other = other
earlier_of (Some one) None = Some one
earlier_of (Some one) (Some other) = Some (min one other)

-- the earliest of some moments, if there are any
abbrev pub earliest : List (Option ℕ) → Option ℕ
earliest moments = fold earlier_of None moments

-- the deadline of a waiter that waits still, if it has one
abbrev pub awaited_until : List Moment → WrittenWaiter → Option ℕ
awaited_until history p = if is_waiting (waiter_state history p) then p.asked.deadline else None

-- the earliest deadline of the waiters that wait still
abbrev pub next_deadline : Watch → Option ℕ
next_deadline w = earliest (map (awaited_until w.history) w.waiters)

-- before this moment, where there is one
abbrev pub is_before : ℕ → Option ℕ → Bool
is_before at None = true
is_before at (Some moment) = nat_lt at moment

-- the deadline of a waiter that waits still, by what is stored of it
abbrev pub stored_until : StoredWaiter → Option ℕ
stored_until k = if still_waits k then k.deadline else None
