use Rattle.std.proofs.Common.{◌≡◌, List, ◌∷◌, ◌++◌, ◌∙◌, sym, ap, append_assoc}
use Rattle.std.specs.List.{flat_map}
use Rattle.death_tally.specs.declared.exit_list.DeathItem.{DeathItem}
use Rattle.s6_script.specs.DeathList.{item_text, list_text}
use Rattle.s6_script.proofs.Joined.{join_items}
use Rattle.s6_script.proofs.death_list.push_items.Goals as goal

pub returns-in_ok-push_more_items : goal.returns-in_ok-push_more_items
returns-in_ok-push_more_items g c =
    let first : DeathItem = c.in-Some.first.now in
    let more : List DeathItem = c.in-Some.more.now in
    let old = c.args.text.now.items in
    let whole : c.args.items.now ≡ first ∷ more = c.in-Some.ensures.cases.0 in
    c.in_ok-push_more_items.ensures
    ∙ (ap (λ t. t ++ flat_map (λ i. 44 ∷ item_text i) more) c.in_ok-push_item.ensures
    ∙ (append_assoc old (item_text first) (flat_map (λ i. 44 ∷ item_text i) more)
    ∙ ap (λ t. old ++ t) (sym (join_items first more) ∙ ap list_text (sym whole))))
