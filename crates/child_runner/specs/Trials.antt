-- Which starts are tried again, and when.
use Rattle.std.specs.Prelude.{ℕ, ◌-◌, ◌==◌, ◌||◌, Bool, true, false, nat_le, nat_eq}
use Rattle.std.specs.Cmp.Lexicographic.{pointwise}
use Rattle.s6_events.specs.declared.order.Order.{Order}
use Rattle.s6_events.specs.declared.order.Order.TheVariants as order
use Rattle.child_runner.specs.declared.trials.Schedule.{Schedule}
use Rattle.child_runner.specs.declared.trials.Unwanted.{Unwanted}
use Rattle.child_runner.specs.declared.trials.Unwanted.TheVariants as unwanted

-- the system's numbers for faults that pass: a disk failed (5), too much is asked at once (11), no memory (12), no descriptor (23, 24), and the
-- file is open for writing (26)
abbrev pub is_passing : ℕ → Bool
is_passing number =
    (number == 5) || (number == 11) || (number == 12) || (number == 23) || (number == 24) || (number == 26)

-- so long after a try the next one comes, and for so long a start is tried, in milliseconds
abbrev pub try_pause : ℕ
try_pause = 100

abbrev pub try_time : ℕ
try_time = 5000

-- the first try was just now
abbrev pub begun_at : ℕ → Schedule
begun_at now = record { begun = now; tried = now }

-- how long until the next try
abbrev pub time_left : ℕ → Schedule → ℕ
time_left now schedule = try_pause - (now - schedule.tried)

-- the start is given up
abbrev pub is_over : ℕ → Schedule → Bool
is_over now schedule = nat_le try_time (now - schedule.begun)

-- it was tried once more
abbrev pub tried_at : ℕ → Schedule → Schedule
tried_at now schedule = record schedule { tried = now }

-- the start that this order asks for is wanted no more: a service that is to be down has its `finish` started all the same
abbrev pub is_unwanted : Order → Unwanted → Bool
is_unwanted (order.Run sid generation name fd) (unwanted.Run wanted_not) = pointwise nat_eq wanted_not name
is_unwanted (order.Run sid generation name fd) unwanted.EachRun = true
is_unwanted (order.Finish sid generation name code signal) (unwanted.Finish wanted_not) = pointwise nat_eq wanted_not name
is_unwanted asked unwanted.All = true
is_unwanted asked other = false
