use Rattle.std.proofs.Common.{◌≡◌, ◌+◌, ◌≤◌, ◌*◌, take, length}
use Rattle.supervise_core.specs.ControlLetters.{control_move}
use Rattle.supervise_core.specs.MatchesMove.{AppendsMove}
use Rattle.supervise_core.specs.LetterBounds.{marks_left, runs_left}
use Rattle.supervise_core.proofs.chart_state.ChartState.take_letters.Given as goal

abbrev pub invariant-loop-letter : goal.invariant-loop-letter
invariant-loop-letter l = record {
  gives : AppendsMove (control_move (take l.letter-index l.letters) l.now l.fn.self) l.self l.fn.out l.out;
  sid : l.self.sid ≡ l.fn.self.sid;
  few : length l.out.orders.items ≤ length l.fn.out.orders.items + 2 * l.letter-index;
  marks : length l.out.events.items + marks_left l.self.phase ≤ length l.fn.out.events.items + 1;
  runs : l.self.generation + runs_left l.self.phase ≤ l.fn.self.generation + 1;
}
