use Rattle.std.proofs.Common.{rules}
use Rattle.std.proofs.lemmas.Iterator.Consumers.{map_from_collect}
use Rattle.std.proofs.lemmas.Iterator.Splits.{YieldsList-from_slice_split}
use Rattle.s6_script.specs.Options.{ends_part}
use Rattle.s6_script.proofs.entry_options.parts_of.Goals as goal

pub returns : goal.returns
returns g c =
    map_from_collect _ c.collect.ensures.ran
    (YieldsList-from_slice_split _ ends_part c.args.word.now c.split.ensures.rest c.split.ensures.done c.split.ensures.closure (search rules))
