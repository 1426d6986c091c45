use Rattle.std.proofs.Common.{◌∙◌, ◌++◌, ◌∷◌, [], ap, sym, append_assoc}
use Rattle.std.specs.Prelude.{codes, decimal}
use Rattle.s6_script.specs.EffectLines.{order_line}
use Rattle.s6_script.proofs.effect_lines.push_order.Goals as goal

pub returns-in_ok-push_run-in-KillFinish : goal.returns-in_ok-push_run-in-KillFinish
returns-in_ok-push_run-in-KillFinish g c =
    let old = c.args.text.now.items in
    let sid = decimal c.in-KillFinish.sid in
    let generation = decimal c.in-KillFinish.generation in
    ap (λ t. t ++ 10 ∷ []) c.in_ok-push_run-in-KillFinish.ensures
    ∙ (append_assoc old (codes "o killfinish " ++ (sid ++ (32 ∷ generation))) (10 ∷ [])
    ∙ (ap (λ t. old ++ (codes "o killfinish " ++ t)) (append_assoc sid (32 ∷ generation) (10 ∷ []))
    ∙ ap (λ o. old ++ order_line o) (sym c.in-KillFinish.is)))
