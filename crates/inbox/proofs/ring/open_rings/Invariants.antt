use Rattle.std.proofs.Common.{◌≡◌, map}
use Rattle.inbox.specs.Ends.{numbers_below}
use Rattle.inbox.proofs.ring.open_rings.Given as goal

-- there is a ring for each number so far
abbrev pub invariant-loop-number : goal.invariant-loop-number
invariant-loop-number l = map (λ r. r.actor) l.rings.items ≡ numbers_below l.number
