use Rattle.std.proofs.Common.{rules}
use Rattle.std.proofs.lemmas.Fn.{filter_same}
use Rattle.s6_tools.specs.Listing.{is_asked}
use Rattle.s6_tools.proofs.list_command.keep_asked.Goals as goal

pub returns : goal.returns
returns c = filter_same _ (is_asked c.args.names.now) _ (λ x b f k. search rules) _ _ c.retain.ensures.filtered
