-- What is asked of the services, and what that leaves and gives.
use Rattle.std.specs.Prelude.{◌≡◌, ℕ, List, [], ◌∷◌, ◌++◌, Bool, true, false, ◌==◌, if◌then◌else◌, All}
use Rattle.std.specs.List.{list_any}
use Rattle.s6_events.specs.declared.order.Order.{Order}
use Rattle.supervise_core.specs.declared.chart_state.ChartState.{ChartState}
use Rattle.supervise_core.specs.declared.change.Change.{Change}
use Rattle.supervise_core.specs.ChartState.{Moved, no_move}
use Rattle.supervise_core.specs.Chart.{changed_by, control_move, fire_move, is_due, with_activity}
use Rattle.control_letters.specs.declared.control_letter.ControlLetter.{ControlLetter}
use Rattle.control_letters.specs.declared.control_letter.ControlLetter.TheVariants.{Exit, Down}
use Rattle.svscan_core.specs.declared.entry.Entry.{Entry}
use Rattle.svscan_core.specs.declared.entry.Listed.{Listed}
use Rattle.svscan_core.specs.declared.entry.ScanOrder.{ScanOrder}
use Rattle.svscan_core.specs.declared.entry.ScanOrder.TheVariants.{Nuke, Terminate}
use Rattle.svscan_core.specs.declared.event.Event.{Event}
use Rattle.svscan_core.specs.Moves.{services_after, events_after, orders_after}
use Rattle.svscan_core.specs.Scan.{after_scan, dropped_by}

-- what is asked of the services
pub data Work : Type 0 where
  do_nothing : Work
  change_one : ℕ → Change → Work
  apply_listing : List Entry → Work
  command : ScanOrder → Work

-- what is left of the services, and what they give: the events and orders, whether a report was stale, the serials that were
-- dropped, and what became of the listed names for which no service stood
pub record WorkResult : Type 0 where
  pub services : List ChartState
  pub next_sid : ℕ
  pub events : List Event
  pub orders : List Order
  pub stale : Bool
  pub dropped : List ℕ
  pub listed : List Listed

-- the service of the serial takes the change, and every other one stays
abbrev pub change_move_at : ℕ → Change → ℕ → ChartState → Moved
change_move_at sid change now c = if c.sid == sid then changed_by change now c else no_move c

-- the letters of a service that leaves: its supervisor is to end, and it is to go down
abbrev pub leave_letters : List ControlLetter
leave_letters = Exit ∷ Down ∷ []

-- nuke: each inactive service gets these letters
abbrev pub nuke_move : ℕ → ChartState → Moved
nuke_move now c = if c.active then no_move c else control_move leave_letters now c

-- terminate: each service becomes inactive, and gets these letters
abbrev pub terminate_move : ℕ → ChartState → Moved
terminate_move now c = control_move leave_letters now (with_activity false now c)

abbrev pub command_move : ScanOrder → ℕ → ChartState → Moved
command_move Nuke now c = nuke_move now c
command_move Terminate now c = terminate_move now c

-- after a terminate the tree is closing, and stays so
abbrev pub closing_after : Work → Bool → Bool
closing_after (command Terminate) closing = true
closing_after work closing = closing

-- every service stays as it is, and nothing is given
abbrev pub no_work_result : List ChartState → ℕ → WorkResult
no_work_result services next_sid =
    record {
      services = services;
      next_sid = next_sid;
      events = [];
      orders = [];
      stale = false;
      dropped = [];
      listed =
          [];
    }

-- every service takes a move
abbrev pub move_result : (ChartState → Moved) → List ChartState → ℕ → WorkResult
move_result move services next_sid = record {
  services = services_after move services;
  next_sid = next_sid;
  events = events_after move services;
  orders = orders_after move services;
  stale = list_any (λ c. (move c).stale) services;
  dropped = [];
  listed = [];
}

-- the work, done at a moment on the services
abbrev pub work_result : Work → ℕ → List ChartState → ℕ → WorkResult
work_result do_nothing now services next_sid = no_work_result services next_sid
work_result (change_one sid change) now services next_sid =
    move_result (change_move_at sid change now) services next_sid
work_result (command order) now services next_sid =
    record (move_result (command_move order now) services next_sid) { stale = false }
work_result (apply_listing listing) now services next_sid = record {
  services = (after_scan listing now services next_sid).services;
  next_sid = (after_scan listing now services next_sid).next_sid;
  events = (after_scan listing now services next_sid).events;
  orders = (after_scan listing now services next_sid).orders;
  stale = false;
  dropped = dropped_by listing now services;
  listed = (after_scan listing now services next_sid).listed;
}

-- the same, with the events and orders that were given before in front
abbrev pub with_earlier : List Event → List Order → WorkResult → WorkResult
with_earlier events orders w = record w { events = events ++ w.events; orders = orders ++ w.orders }

-- each service whose timer is due takes its rule, and then the work is done
abbrev pub step_result : Work → ℕ → List ChartState → ℕ → WorkResult
step_result work now services next_sid =
    with_earlier (events_after (fire_move now) services) (orders_after (fire_move now) services)
    (work_result work now (services_after (fire_move now) services) next_sid)

-- `due` has the serials of just those services whose timers are due
abbrev pub AreDue : List ℕ → ℕ → List ChartState → Type 0
AreDue due now services = All (λ c. list_any (λ sid. sid == c.sid) due ≡ is_due now c.timer) services
