use Rattle.std.proofs.Common.{◌≡◌, ℕ, ◌++◌, List, length, take, true}
use Rattle.supervise_core.specs.declared.chart_state.ChartState.{ChartState}
use Rattle.svscan_core.specs.Adding.{adding_of, state_behind, Grows}
use Rattle.svscan_core.specs.Additions.{AdditionsGoOn, OnlyAdds, StandsAsBefore}
use Rattle.svscan_core.specs.Names.{lists}
use Rattle.svscan_core.specs.Scan.{with_names}
use Rattle.svscan_core.specs.Table.{charts_of}
use Rattle.svscan_core.proofs.scan.Scanning.add_names.Given as goal

abbrev pub invariant-loop-name : goal.invariant-loop-name
invariant-loop-name g l = record {
  state : (services : List ChartState) → length services ≡ l.retained
      → ((name : List ℕ) → lists l.names name ≡ true
      → StandsAsBefore l.slots.services (services ++ charts_of l.fn.self.added.items) name)
      → state_behind services (adding_of l.self l.moves)
      ≡ with_names l.listing (state_behind services (adding_of l.fn.self l.fn.moves)) (take l.name-index l.names);
  goes_on : AdditionsGoOn (adding_of l.fn.self l.fn.moves) (adding_of l.self l.moves);
  grows : Grows l.retained (adding_of l.fn.self l.fn.moves) (adding_of l.self l.moves);
  only : OnlyAdds l.fn.self l.self l.fn.moves l.moves;
}
