use Rattle.std.proofs.Common.{length}
use Rattle.line_server.proofs.making_way.+first_chance.Given as goal

-- the slots that are left
abbrev pub decreases-first_chance : goal.decreases-first_chance
decreases-first_chance l = length l.occupants.now
