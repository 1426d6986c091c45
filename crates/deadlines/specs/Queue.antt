-- The timers by the moments to which they are set.
use Rattle.std.specs.Prelude.{◌≡◌, ℕ, List, [], ◌∷◌, Bool, true, ◌&&◌, ◌==◌, not, nat_lt, if◌then◌else◌, sum_by}
use Rattle.std.specs.List.{list_all}
use Rattle.deadlines.specs.declared.timer.Timer.{Timer}

-- a timer goes off before another one: at an earlier moment, or at the same one and with a lower serial
abbrev pub is_before : Timer → Timer → Bool
is_before t u = if t.at == u.at then nat_lt t.sid u.sid else nat_lt t.at u.at

-- no timer goes off before one that stands ahead of it
abbrev pub in_moment_order : List Timer → Bool
in_moment_order [] = true
in_moment_order (timer ∷ later) = list_all (λ t. not (is_before t timer)) later && in_moment_order later

-- two lists have the same timers, each as often: whatever is counted of them, the sums are the same
abbrev pub HaveSameTimers : List Timer → List Timer → Type 0
HaveSameTimers timers others = (counted : Timer → ℕ) → sum_by counted timers ≡ sum_by counted others

-- whether it is this timer, as a number
abbrev pub is_this : Timer → Timer → ℕ
is_this timer t = if t.at == timer.at && t.sid == timer.sid then 1 else 0
