use Rattle.std.proofs.Common.{length}
use Rattle.line_server.proofs.making_way.+longest_since.Given as goal

-- the slots that are left
abbrev pub decreases-longest_since : goal.decreases-longest_since
decreases-longest_since l = length l.occupants.now
