-- Which connection gives its slot to one that knocks.
use Rattle.std.specs.Prelude.{ℕ, ◌-◌, ◌==◌, Bool, true, false, not, List, [], ◌∷◌, Option, Some, None, map, min, nat_le, option_map, position, if◌then◌else◌}
use Rattle.line_server.specs.declared.making_way.SlotUse.{SlotUse}
use Rattle.line_server.specs.declared.making_way.SlotUse.TheVariants.{NewSince, IdleSince, Needed, Leaving, Dismissed, LastAnswers, TurnedAway}
use Rattle.line_server.specs.declared.making_way.KnockStage.{KnockStage}
use Rattle.line_server.specs.declared.making_way.KnockStage.TheVariants.{First, Later, Served}
use Rattle.line_server.specs.declared.making_way.Occupant.{Occupant}

-- for so long after it came a connection keeps its slot, in milliseconds
abbrev pub first_time : ℕ
first_time = 100

-- since when a connection asks nothing and waits for nothing, if it doesn't
abbrev pub idle_since : SlotUse → Option ℕ
idle_since (NewSince moment) = Some moment
idle_since (IdleSince moment) = Some moment
idle_since other = None

-- a connection has ended or made way
abbrev pub is_leaving : SlotUse → Bool
is_leaving (NewSince moment) = false
is_leaving (IdleSince moment) = false
is_leaving Needed = false
is_leaving other = true

-- since when nothing more is to be posted to a connection that has ended or made way
abbrev pub last_moment : SlotUse → Option ℕ
last_moment (Leaving moment) = Some moment
last_moment (Dismissed moment) = Some moment
last_moment (TurnedAway moment) = Some moment
last_moment other = None

-- its lines are carried out
abbrev pub takes_lines : SlotUse → Bool
takes_lines (TurnedAway moment) = false
takes_lines other = true

-- one that makes way before a line of it was read is turned away
abbrev pub dismissed : ℕ → SlotUse → SlotUse
dismissed now (NewSince moment) = TurnedAway now
dismissed now other = Dismissed now

-- a knock waits a moment for one that leaves anyway, and no more than one makes way for it
abbrev pub may_dismiss : Bool → KnockStage → Bool
may_dismiss is_one_leaving First = not is_one_leaving
may_dismiss is_one_leaving Later = true
may_dismiss is_one_leaving Served = false

-- one that made way stays so: it is waited for while what it had sent is answered, and until it has read that
abbrev pub noting : SlotUse → SlotUse → SlotUse
noting (Dismissed before) Needed = LastAnswers
noting (Dismissed before) doing = Dismissed before
noting LastAnswers (IdleSince moment) = Dismissed moment
noting LastAnswers doing = LastAnswers
noting (TurnedAway before) doing = TurnedAway before
noting before doing = doing

-- since when a connection that may be dismissed is idle: its first time is over
abbrev pub dismissible_since : ℕ → Occupant → Option ℕ
dismissible_since now occupant = if nat_le first_time (now - occupant.came) then idle_since occupant.doing else None

-- after how long an idle connection may be dismissed
abbrev pub time_left : ℕ → Occupant → Option ℕ
time_left now occupant = option_map (λ since. first_time - (now - occupant.came)) (idle_since occupant.doing)

-- the lesser of two numbers, or the one that is there
abbrev pub lesser : Option ℕ → Option ℕ → Option ℕ
lesser None other = other
lesser (Some one) None = Some one
lesser (Some one) (Some other) = Some (min one other)

-- the least of the numbers that are there
abbrev pub least_of : List (Option ℕ) → Option ℕ
least_of [] = None
least_of (first ∷ rest) = lesser first (least_of rest)

-- it is there, and this number
abbrev pub is_number : ℕ → Option ℕ → Bool
is_number number None = false
is_number number (Some found) = found == number

-- the first slot whose connection is idle since this moment, if there is one
abbrev pub first_idle_since : Option ℕ → ℕ → List Occupant → Option ℕ
first_idle_since None now occupants = None
first_idle_since (Some moment) now occupants = position (λ o. is_number moment (dismissible_since now o)) occupants

-- the slot whose connection has been idle for the longest time, of those that may be dismissed
abbrev pub longest_idle : ℕ → List Occupant → Option ℕ
longest_idle now occupants = first_idle_since (least_of (map (dismissible_since now) occupants)) now occupants

-- after how long the first idle connection may be dismissed
abbrev pub first_chance : ℕ → List Occupant → Option ℕ
first_chance now occupants = least_of (map (time_left now) occupants)
