-- What a listing of the scan directory does to the services.
use Rattle.std.specs.Prelude.{ℕ, ◌+◌, List, [], ◌∷◌, ◌++◌, map, fold, filter, length, Bool, ◌||◌, not, nat_lt}
use Rattle.std.specs.Prelude.{if◌then◌else◌, bytes_eq, Option, Some, None}
use Rattle.std.specs.List.{list_any}
use Rattle.s6_events.specs.declared.order.Order.{Order}
use Rattle.servicedir.specs.declared.config.Config.{Config}
use Rattle.supervise_core.specs.declared.chart_state.ChartState.{ChartState}
use Rattle.supervise_core.specs.ChartState.{new_service, is_gone}
use Rattle.supervise_core.specs.Moves.{begin_move}
use Rattle.supervise_core.specs.Chart.{with_activity, with_config}
use Rattle.svscan_core.specs.declared.entry.Entry.{Entry}
use Rattle.svscan_core.specs.declared.event.Event.{Event}
use Rattle.svscan_core.specs.declared.entry.Listed.{Listed}
use Rattle.svscan_core.specs.declared.entry.Listed.TheVariants.{Added, Full, Unread}
pub use Rattle.svscan_core.specs.Limits.{service_limit}
use Rattle.svscan_core.specs.Listing.{has_entry, listed_config, names_in, in_byte_order}
use Rattle.svscan_core.specs.Moves.{events_of_move}

-- a service takes a configuration, where there is one
abbrev pub with_read_config : Option Config → ChartState → ChartState
with_read_config None c = c
with_read_config (Some config) c = with_config config c

-- a look at the directory of a service: it is active where it is listed, and takes the configuration that was read
abbrev pub after_look : List Entry → ℕ → ChartState → ChartState
after_look listing now c = with_read_config (listed_config listing c.name)
    (with_activity (has_entry listing c.name) now c)

-- activity: each standing service is looked at
abbrev pub after_looks : List Entry → ℕ → List ChartState → List ChartState
after_looks listing now services = map (after_look listing now) services

-- drops: a service leaves whose directory and whose supervisor are both gone
abbrev pub stays : ChartState → Bool
stays c = c.active || not (is_gone c.phase)

abbrev pub leaves : ChartState → Bool
leaves c = not (stays c)

-- additions under way: the services so far, the next serial, what became of the names so far, and the events and orders given so far
pub record ScanState : Type 0 where
  pub services : List ChartState
  pub next_sid : ℕ
  pub listed : List Listed
  pub events : List Event
  pub orders : List Order

-- a service of the name stands
abbrev pub stands : List ℕ → List ChartState → Bool
stands name services = list_any (λ c. bytes_eq name c.name) services

-- the name gets a service of the next serial, whose supervisor starts with this configuration
abbrev pub with_service : Config → ScanState → List ℕ → ScanState
with_service config g name = record {
  services = g.services ++ (begin_move (new_service g.next_sid name config)).chart ∷ [];
  next_sid = g.next_sid + 1;
  listed = g.listed ++ Added g.next_sid name ∷ [];
  events = g.events ++ events_of_move g.next_sid (begin_move (new_service g.next_sid name config));
  orders = g.orders ++ (begin_move (new_service g.next_sid name config)).orders;
}

-- a name for which no service stands gets one, unless its directory couldn't be read or the limit is reached
abbrev pub with_new_name : Option Config → ScanState → List ℕ → ScanState
with_new_name None g name = record g { listed = g.listed ++ Unread name ∷ [] }
with_new_name (Some config) g name =
    if nat_lt (length g.services) service_limit then with_service config g name
    else record g { listed = g.listed ++ Full name ∷ [] }

-- a name for which a service stands is passed over
abbrev pub with_name : List Entry → ScanState → List ℕ → ScanState
with_name listing g name = if stands name g.services then g else with_new_name (listed_config listing name) g name

-- one name after the other
abbrev pub with_names : List Entry → ScanState → List (List ℕ) → ScanState
with_names listing g names = fold (with_name listing) g names

-- where additions begin, with the services that stayed
abbrev pub scan_state_from : List ChartState → ℕ → ScanState
scan_state_from services next_sid =
    record { services = services; next_sid = next_sid; listed = []; events = []; orders = [] }

-- a scan: activity, drops, and additions in the order of the names' bytes
abbrev pub after_scan : List Entry → ℕ → List ChartState → ℕ → ScanState
after_scan listing now services next_sid =
    with_names listing (scan_state_from (filter stays (after_looks listing now services)) next_sid)
    (in_byte_order (names_in listing))

-- the serials of the services that a scan drops
abbrev pub dropped_by : List Entry → ℕ → List ChartState → List ℕ
dropped_by listing now services = map (λ c. c.sid) (filter leaves (after_looks listing now services))
