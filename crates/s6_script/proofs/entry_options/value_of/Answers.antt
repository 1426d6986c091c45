use Rattle.std.proofs.lemmas.Bool.Decides.{Decides-eqb}
use Rattle.std.proofs.lemmas.Slice.Eq.{strip_prefix_is}
use Rattle.s6_script.proofs.entry_options.value_of.Goals as goal

pub returns : goal.returns
returns c = strip_prefix_is Decides-eqb c.args.word.now c.args.key.now c.strip_prefix.result c.strip_prefix.ensures.cases
