use Rattle.std.proofs.Common.{◌∙◌, ◌++◌, ◌∷◌, ap, sym, append_assoc}
use Rattle.std.specs.Prelude.{codes}
use Rattle.s6_script.specs.Verb.{target_word, target_name, how_word}
use Rattle.s6_script.proofs.Joined.{grew, join_text}
use Rattle.s6_script.proofs.subscribing.push_subscribe.Goals as goal

pub returns : goal.returns
returns g c =
    let old = c.args.text.now.items in
    let kind = target_word c.args.target.now in
    let name = target_name c.args.target.now in
    let how = how_word c.args.repeats in
    let pattern = c.args.pattern.now in
    grew old (codes "subscribe") _ _ _ c.in_ok-extend_from_slice.ensures.items
    (grew _ (32 ∷ (kind ++ (32 ∷ name))) _ _ _ c.in_ok-push_target.ensures
    (grew _ (32 ∷ how) _ _ _ (c.in_ok-push_word.ensures
    ∙ ap (λ w. c.push_target.new.text.items ++ (32 ∷ w)) (c.as_bytes.ensures.value ∙ c.how_bytes.ensures))
    (c.in_ok-push_word-2.ensures ∙ ap (λ w. c.push_word.new.text.items ++ (32 ∷ w)) c.as_bytes-2.ensures.value)))
    ∙ (ap (λ t. old ++ (codes "subscribe" ++ (32 ∷ t))) (append_assoc kind (32 ∷ name) (32 ∷ (how ++ (32 ∷ pattern))))
    ∙ ap (λ t. old ++ (codes "subscribe" ++ (32 ∷ (kind ++ (32 ∷ (name ++ (32 ∷ t))))))) (sym (join_text how pattern)))
