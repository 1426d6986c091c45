use Rattle.std.proofs.Common.{◌∙◌, ◌++◌, ◌∷◌, [], ap}
use Rattle.std.specs.Prelude.{codes, decimal}
use Rattle.s6_script.proofs.Joined.{grew}
use Rattle.s6_script.proofs.death_list.push_permafailon_of.Goals as goal

pub returns : goal.returns
returns g c =
    grew c.args.text.now.items (codes "permafailon ") _ _ _ c.in_ok-extend_from_slice.ensures.items
    (grew _ c.args.name.now _ _ _ (c.in_ok-extend_from_slice-2.ensures.items
    ∙ ap (λ w. c.extend_from_slice.new.self.items ++ w) c.as_bytes.ensures.bytes)
    (grew _ (32 ∷ decimal c.args.seconds) _ _ _
    (c.in_ok-push_spaced.ensures ∙ ap (λ n. c.extend_from_slice-2.new.self.items ++ (32 ∷ decimal n)) c.from.ensures)
    (grew _ (32 ∷ decimal c.args.count) _ _ _ (c.in_ok-push_spaced-2.ensures
    ∙ ap (λ n. c.push_spaced.new.text.items ++ (32 ∷ decimal n)) c.from-2.ensures)
    (grew _ (32 ∷ []) _ _ _ c.in_ok-push.ensures.items
    c.in_ok-push_items.ensures))))
