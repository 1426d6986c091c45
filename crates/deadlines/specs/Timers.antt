-- Which services have a timer set, and which of the timers are due.
use Rattle.std.specs.Prelude.{ℕ, List, [], ◌∷◌, ◌++◌, map, filter, fold, Bool, true, false, ◌&&◌, ◌==◌, nat_lt, nat_le}
use Rattle.std.specs.Prelude.{Option, None, Some}
use Rattle.std.specs.List.{list_all}
use Rattle.deadlines.specs.declared.timer.Timer.{Timer}
use Rattle.deadlines.specs.declared.timer.TimerChange.{TimerChange}
use Rattle.deadlines.specs.declared.timer.TimerChange.TheVariants.{Set, Clear}

-- the timers in rising serial, one for a service at most
abbrev pub rises : List Timer → Bool
rises [] = true
rises (timer ∷ later) = list_all (λ t. nat_lt timer.sid t.sid) later && rises later

-- the timers of the services below this one, and above it
abbrev pub below : ℕ → List Timer → List Timer
below sid timers = filter (λ t. nat_lt t.sid sid) timers

abbrev pub above : ℕ → List Timer → List Timer
above sid timers = filter (λ t. nat_lt sid t.sid) timers

-- there is a timer, and it is that of this service
abbrev pub is_timer_of : ℕ → Option Timer → Bool
is_timer_of sid None = false
is_timer_of sid (Some timer) = timer.sid == sid

-- the timer of a service is set to a moment, in place of the one that it had
abbrev pub with_timer : ℕ → ℕ → List Timer → List Timer
with_timer sid at timers = below sid timers ++ record { sid = sid; at = at } ∷ above sid timers

-- the timer of a service is cleared, where it had one
abbrev pub without_timer : ℕ → List Timer → List Timer
without_timer sid timers = below sid timers ++ above sid timers

-- the timers after one change, and after the changes of a step, in order
abbrev pub with_timer_change : List Timer → TimerChange → List Timer
with_timer_change timers (Set sid at) = with_timer sid at timers
with_timer_change timers (Clear sid) = without_timer sid timers

abbrev pub with_timer_changes : List TimerChange → List Timer → List Timer
with_timer_changes changes timers = fold with_timer_change timers changes

-- the services whose timers are set to a moment at most now
abbrev pub due_by : ℕ → List Timer → List ℕ
due_by now timers = map (λ t. t.sid) (filter (λ t. nat_le t.at now) timers)

-- the numbers rise
abbrev pub is_rising : List ℕ → Bool
is_rising [] = true
is_rising (n ∷ later) = list_all (λ m. nat_lt n m) later && is_rising later
