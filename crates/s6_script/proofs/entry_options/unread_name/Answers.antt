use Rattle.std.proofs.lemmas.Bool.Decides.{Decides-eqb}
use Rattle.std.proofs.lemmas.Slice.Eq.{strip_suffix_is}
use Rattle.s6_script.proofs.entry_options.unread_name.Goals as goal

pub returns : goal.returns
returns c = strip_suffix_is Decides-eqb c.args.word.now _ c.strip_suffix.result c.strip_suffix.ensures.cases
