-- A change that is added to nothing is the change.
use Rattle.std.proofs.Common.{◌≡◌, [], ◌++◌, false, ◌||◌, ap, ◌∙◌}
use Rattle.std.proofs.Math.Bool.{or-false}
use Rattle.supervise_core.specs.declared.chart_state.ChartState.{ChartState}
use Rattle.supervise_core.specs.declared.out.Out.{Out}
use Rattle.supervise_core.specs.ChartState.{Moved}
use Rattle.supervise_core.specs.MatchesMove.{AppendsMove, MatchesMove}

pub matches_alone : (moved : Moved) (after : ChartState) (old new : Out) → old.events.items ≡ [] → old.orders.items ≡ [] → old.stale ≡ false
    → AppendsMove moved after old new → MatchesMove moved after new
matches_alone moved after old new marks orders stale a = record {
  chart = a.chart;
  marks = a.marks ∙ ap (λ ms. ms ++ moved.marks) marks;
  orders = a.orders ∙ ap (λ os. os ++ moved.orders) orders;
  stale = a.stale ∙ (ap (λ b. moved.stale || b) stale ∙ or-false moved.stale);
}
