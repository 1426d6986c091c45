use Rattle.std.proofs.Common.{ap, arith}
use Rattle.text_matcher.specs.StateLists.{StatesListed}
use Rattle.text_matcher.proofs.ListedStates.{few_marked}
use Rattle.text_matcher.proofs.state_list.StateList.len.Goals as goal

pub returns-clause-within : goal.returns-clause-within
returns-clause-within c = omega (
  arith,
  c.len.ensures,
  c.self.invariant.counted,
  few_marked c.self.inside.marks,
  ap (λ (v : StatesListed). v.count) c.self.view_is,
)
