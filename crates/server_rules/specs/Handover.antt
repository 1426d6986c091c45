-- When a run takes inputs, when it ends, and what comes after each round of the driver, which is the thread that drives the tree's runs.
use Rattle.std.specs.Prelude.{ℕ, ◌-◌, ◌==◌, ◌&&◌, ◌||◌, nat_le, nat_lt, not, length, Bool, true, false, Option, Some, None, if◌then◌else◌}
use Rattle.std.specs.List.{list_any}
use Rattle.server_rules.specs.declared.handover.After.{After}
use Rattle.server_rules.specs.declared.handover.After.TheVariants.{GoOn, Wait, Stop}
use Rattle.server_rules.specs.declared.handover.Carrying.{Carrying}
use Rattle.server_rules.specs.declared.handover.Halt.{Halt}
use Rattle.server_rules.specs.declared.handover.Halt.TheVariants as halt
use Rattle.server_rules.specs.declared.handover.Pace.{Pace}
use Rattle.server_rules.specs.declared.handover.Round.{Round}
use Rattle.server_rules.specs.declared.handover.RunEnd.TheVariants as run_end

-- how long the driver waits after a lane or the system refused something, in milliseconds
abbrev pub retry_wait : ℕ
retry_wait = 100

-- the smaller of the two numbers; the second one where there is no first
abbrev pub earlier : Option ℕ → ℕ → ℕ
earlier (Some steps) other = if nat_lt steps other then steps else other
earlier None other = other

-- after how many steps a run ends: at its handover, or earlier where somebody waits for it to be recorded
abbrev pub last_step : Pace → ℕ
last_step p = earlier p.record_from p.handover

abbrev pub recorded_from : Option ℕ → ℕ → Option ℕ
recorded_from (Some steps) now = Some steps
recorded_from None now = Some now

abbrev pub ends_early : Pace → Pace
ends_early p = record p { record_from = recorded_from p.record_from p.steps }

-- inputs are taken until the run has its last step and, while a lane takes no order, up to 1,024 steps past the handover
abbrev pub takes_inputs : Pace → Bool
takes_inputs p = nat_lt p.steps (last_step p) || p.is_lane_busy && nat_lt (p.steps - p.handover) 1024

abbrev pub is_busy_lane : ℕ → Carrying → Bool
is_busy_lane lane c = list_any (λ busy. busy == lane) c.busy.items

abbrev pub has_carried_all : Carrying → Bool
has_carried_all c = not c.has_more && length c.busy.items == 0

-- for how many milliseconds nothing is due; None where nothing will be, or the run takes no inputs and so makes no tick
abbrev pub time_until : Option ℕ → Bool → ℕ → Option ℕ
time_until (Some due) true now = Some (due - now)
time_until due is_open now = None

abbrev pub until_due : Round → Option ℕ
until_due r = time_until r.due r.is_open r.moment

abbrev pub retry_time : Round → ℕ
retry_time r = earlier (until_due r) retry_wait

-- all steps were made. The run stops where the tree has ended, or where it has its last step and each order was carried. Else the driver
-- goes on where there is more to do. Else it waits: until something is due where each order was carried, and for a lane where not
abbrev pub after_steps : Pace → Round → After
after_steps p r =
    if r.has_ended then Stop run_end.Ended else
    if has_carried_all r.carrying && nat_le (last_step p) p.steps then Stop run_end.Handover else
    if r.carrying.has_more || r.is_full || r.is_open && r.has_more then GoOn else
    if has_carried_all r.carrying then Wait (until_due r) else Wait (Some (retry_time r))

-- where a step waits for a lane, the driver goes on if the lane takes orders, and else waits for it
abbrev pub after_halt : Halt → Pace → Round → After
after_halt halt.Full p r = Stop run_end.Full
after_halt halt.Idle p r = after_steps p r
after_halt (halt.Blocked lane) p r = if is_busy_lane lane r.carrying then Wait (Some (retry_time r)) else GoOn
after_halt halt.NoMemory p r = Wait (Some (retry_time r))

abbrev pub after_round : Pace → Round → After
after_round p r = after_halt r.halt p r

-- while all services are told to end
abbrev pub after_ending_by : Halt → Round → After
after_ending_by halt.Full r = Stop run_end.Full
after_ending_by halt.Idle r =
    if r.has_ended then Stop run_end.Ended else if r.is_full || r.carrying.has_more then GoOn else Wait (Some retry_wait)
after_ending_by h r = Wait (Some retry_wait)

abbrev pub after_ending : Round → After
after_ending r = after_ending_by r.halt r
