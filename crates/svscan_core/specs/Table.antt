-- The services that stand.
use Rattle.std.specs.Prelude.{ℕ, List, [], ◌∷◌, map, bytes_eq, if◌then◌else◌}
use Rattle.supervise_core.specs.declared.chart_state.ChartState.{ChartState}
use Rattle.supervise_core.specs.Service.{Supervised}

-- the services in rising serial, and the serial of the next one
pub record Table : Type 0 where
  pub services : List Supervised
  pub next_sid : ℕ

-- a table without a service, whose first one gets the serial 1
abbrev pub new_table : Table
new_table = record { services = []; next_sid = 1 }

-- the states of services
abbrev pub charts_of : List Supervised → List ChartState
charts_of services = map (λ s. s.chart) services

-- the names of services
abbrev pub names_of : List ChartState → List (List ℕ)
names_of services = map (λ c. c.name) services

-- the serials of services
abbrev pub serials_of : List ChartState → List ℕ
serials_of services = map (λ c. c.sid) services

-- the services but for the first of this name
abbrev pub without_name : List Supervised → List ℕ → List Supervised
without_name [] name = []
without_name (s ∷ services) name = if bytes_eq name s.chart.name then services else s ∷ without_name services name
