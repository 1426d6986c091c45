-- A timer orders one run of a service at the most.
use Rattle.std.proofs.Common.{ℕ, ◌+◌, ◌≤◌, ◌<◌, arith, List, get_or}
use Rattle.std.specs.Prelude.{All}
use Rattle.std.proofs.lemmas.List.Elements.{All-map}
use Rattle.supervise_core.specs.declared.chart_state.ChartState.{ChartState}
use Rattle.supervise_core.specs.Chart.{fire_move}
use Rattle.supervise_core.proofs.Growth.{grows_fire}
use Rattle.svscan_core.specs.Moves.{services_after}

pub all_fire : (now n : ℕ) (cs : List ChartState) → All (λ c. c.generation + 2 < n) cs
    → All (λ c. c.generation + 1 < n) (services_after (fire_move now) cs)
all_fire now n cs h =
    All-map (λ c. c.generation + 1 < n) (λ c. (fire_move now c).chart) cs
    (λ k d lt. let here : (get_or cs k d).generation + 2 < n =
    h k d lt in let more : (fire_move now (get_or cs k d)).chart.generation ≤ (get_or cs k d).generation + 1 =
    grows_fire now (get_or cs k d) in omega arith)
