-- One move of every service.
use Rattle.std.specs.Prelude.{ℕ, List, map}
use Rattle.std.specs.List.{flat_map}
use Rattle.s6_events.specs.declared.mark.Mark.{Mark}
use Rattle.s6_events.specs.declared.moment.Moment.{Moment}
use Rattle.s6_events.specs.declared.moment.Moment.TheVariants as moments
use Rattle.s6_events.specs.declared.order.Order.{Order}
use Rattle.supervise_core.specs.declared.chart_state.ChartState.{ChartState}
use Rattle.supervise_core.specs.ChartState.{Moved}
use Rattle.svscan_core.specs.declared.event.Event.{Event}

-- a mark of a service as an event, and an event as a moment of the history
abbrev pub service_mark : ℕ → Mark → Event
service_mark sid mark = record { sid = sid; mark = mark }

abbrev pub moment_of : Event → Moment
moment_of e = moments.Event e.sid e.mark

-- the events of a service's move
abbrev pub events_of_move : ℕ → Moved → List Event
events_of_move sid moved = map (service_mark sid) moved.marks

-- the services after each took the move, in rising serial, and the events and orders of all
abbrev pub services_after : (ChartState → Moved) → List ChartState → List ChartState
services_after move services = map (λ c. (move c).chart) services

abbrev pub events_after : (ChartState → Moved) → List ChartState → List Event
events_after move services = flat_map (λ c. events_of_move c.sid (move c)) services

abbrev pub orders_after : (ChartState → Moved) → List ChartState → List Order
orders_after move services = flat_map (λ c. (move c).orders) services
