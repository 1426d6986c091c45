use Rattle.std.proofs.Common.{◌∙◌, rules, ap, sym}
use Rattle.std.proofs.lemmas.Iterator.{YieldsList-from_slice}
use Rattle.std.proofs.lemmas.Iterator.Adapters.{option_map_id}
use Rattle.std.proofs.lemmas.Iterator.Consumers.{YieldsList-from_copied}
use Rattle.std.proofs.lemmas.Iterator.Search.{find_from_yields_List}
use Rattle.std.specs.Option.{option_map}
use Rattle.tool_lines.specs.WrongWords.{is_wrong}
use Rattle.tool_lines.proofs.Texts.{find_text}
use Rattle.tool_lines.proofs.culprit.first_wrong.Goals as goal

pub returns : goal.returns
returns c =
    let found = find_from_yields_List (λ w. is_wrong c.args.wrong w.now) _ _ c.find.result c.find.ensures.ran
    (YieldsList-from_copied (YieldsList-from_slice c.args.words.now (search rules))) (λ x b q k. search rules) in
    ap (option_map (λ w. w.now)) (sym (option_map_id _) ∙ found) ∙ find_text (is_wrong c.args.wrong) c.args.words.now
