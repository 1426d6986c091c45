use Rattle.std.proofs.Common.{[], ◌∷◌, rules}
use Rattle.run_history.proofs.Moves.{begins}
use Rattle.run_history.proofs.history.NewHistory.new.Goals as goal

pub ruled-requires : goal.ruled-requires
ruled-requires g = (search rules, (search rules, begins (0 ∷ [])))
