use Rattle.std.proofs.Common.{◌≡◌, length}
use Rattle.office.specs.Opening.{AreReaders}
use Rattle.office.proofs.board_ends.readers_of.Given as goal

abbrev pub invariant-loop : goal.invariant-loop
invariant-loop g l = AreReaders l.writer l.readers.items × (length l.readers.items ≡ l.counter)
