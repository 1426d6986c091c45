use Rattle.std.proofs.Common.{◌∙◌, ◌++◌, ◌∷◌, ap, sym}
use Rattle.std.specs.Prelude.{codes, decimal}
use Rattle.s6_script.specs.Verb.{condition_word, mode_word}
use Rattle.s6_script.proofs.Joined.{grew, join_words}
use Rattle.s6_script.proofs.waiting.push_wait.Goals as goal

pub returns : goal.returns
returns g c =
    let condition = condition_word c.args.condition in
    let mode = mode_word c.args.mode in
    let timeout = decimal c.args.timeout in
    grew c.args.text.now.items (codes "wait") _ _ _ c.in_ok-extend_from_slice.ensures.items
    (grew _ (32 ∷ condition) _ _ _ (c.in_ok-push_word.ensures
    ∙ ap (λ w. c.extend_from_slice.new.self.items ++ (32 ∷ w)) (c.as_bytes.ensures.value ∙ c.condition_bytes.ensures))
    (grew _ (32 ∷ mode) _ _ _ (c.in_ok-push_word-2.ensures
    ∙ ap (λ w. c.push_word.new.text.items ++ (32 ∷ w)) (c.as_bytes-2.ensures.value ∙ c.mode_bytes.ensures))
    (grew _ (32 ∷ timeout) _ _ _ (c.in_ok-push_spaced.ensures ∙ ap (λ n. c.push_word-2.new.text.items ++ (32 ∷ decimal n)) c.from.ensures)
    c.in_ok-push_names.ensures)))
    ∙ ap (λ t. c.args.text.now.items ++ (codes "wait" ++ (32 ∷ (condition ++ (32 ∷ (mode ++ (32 ∷ t)))))))
    (sym (join_words timeout c.args.names.now))
