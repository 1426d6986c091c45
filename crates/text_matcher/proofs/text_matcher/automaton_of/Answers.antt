use Rattle.text_matcher.proofs.Searching.{compiled, is_read}
use Rattle.text_matcher.proofs.text_matcher.automaton_of.Goals as goal

pub returns-in-Ok-compile-clause-matches : goal.returns-in-Ok-compile-clause-matches
returns-in-Ok-compile-clause-matches c =
    compiled c.in-Ok-compile.nfa c.in-Ok.parsed.hir c.args.text.now _ c.default.result c.default.ensures c.in-Ok.ensures.ok
    c.in-Ok-compile.ensures.matches

pub returns-in-Ok-compile-clause-expression : goal.returns-in-Ok-compile-clause-expression
returns-in-Ok-compile-clause-expression c = is_read c.in-Ok.parsed.hir c.args.text.now _ c.default.result c.default.ensures c.in-Ok.ensures.ok
