use Rattle.std.proofs.Common.{length}
use Rattle.server_rules.proofs.unwanted_starts.+down_after_all.Given as goal

-- the letters that are left
abbrev pub decreases-down_after_all : goal.decreases-down_after_all
decreases-down_after_all l = length l.letters.now
