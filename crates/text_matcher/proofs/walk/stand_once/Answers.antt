use Rattle.text_matcher.proofs.ListedStates.{still}
use Rattle.text_matcher.proofs.Walking.{stands_there}
use Rattle.text_matcher.proofs.walk.stand_once.Goals as goal

pub returns-else-is_standing-clause-stood : goal.returns-else-is_standing-clause-stood
returns-else-is_standing-clause-stood c =
    stands_there c.args.nfa.now c.args.bytes.now c.args.at c.args.states.now.items c.close.new.reached.items c.args.has_matched
    (c.requires.walked c.if-is_standing.false) (λ q has. still _ _ q c.close.ensures.grows has) c.close.ensures.closed c.close.result
    c.close.ensures.only c.close.ensures.found c.close.ensures.none
