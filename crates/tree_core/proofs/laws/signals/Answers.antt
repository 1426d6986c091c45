use Rattle.tree_core.proofs.WhatIsThere.{signals_what_is_there}
use Rattle.tree_core.proofs.laws.signals.Goals as goal

pub returns : goal.returns
returns g c = λ inputs input sid. signals_what_is_there inputs input sid
