use Rattle.std.proofs.Common.{rules}
use Rattle.std.specs.Prelude.{◌==◌}
use Rattle.std.proofs.lemmas.Iterator.Consumers.{map_from_collect}
use Rattle.std.proofs.lemmas.Iterator.Splits.{YieldsList-from_slice_split}
use Rattle.death_tally.proofs.exit_list.words_of.Goals as goal

pub returns : goal.returns
returns g c =
    map_from_collect _ c.collect.ensures.ran
    (YieldsList-from_slice_split _ (λ b. b == 44) c.args.text.now c.split.ensures.rest c.split.ensures.done c.split.ensures.closure (search rules))
