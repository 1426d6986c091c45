use Rattle.std.proofs.Common.{◌≡◌, ◌≤◌, take}
use Rattle.locked_services.specs.Closing.{finishes_of}
use Rattle.locked_services.proofs.closing.count_finishes.Given as goal

abbrev pub invariant-loop-k : goal.invariant-loop-k
invariant-loop-k g l = (l.count ≡ finishes_of l.actor (take l.k l.finishes.items)) × (l.count ≤ l.k)
