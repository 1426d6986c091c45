use Rattle.std.proofs.Common.{◌≡◌, ℕ, List, ◌++◌, codes, decimal, OnOk, ap, sym, subst, ◌∙◌, append_assoc}
use Rattle.std.proofs.lemmas.Result.{on_ok_weaker}
use Rattle.run_stories.specs.Words.{spawned_words}
use Rattle.run_stories.specs.declared.cause.Cause.{Cause}
use Rattle.run_stories.proofs.effect_words.push_spawned.Goals as goal

pub returns-in_ok-extend_from_slice-in-Started : goal.returns-in_ok-extend_from_slice-in-Started
returns-in_ok-extend_from_slice-in-Started g c =
    let before = c.args.text.now.items in
    subst (λ (k : Cause). OnOk c.push_process.result (c.push_process.new.text.items ≡ before ++ spawned_words k)) (sym c.in-Started.is)
    (on_ok_weaker c.push_process.result
    (λ e. e
    ∙ (ap (λ (t : List ℕ). t ++ decimal c.in-Started.pid) c.in_ok-extend_from_slice-in-Started.ensures.items
    ∙ append_assoc before (codes "up, process ") (decimal c.in-Started.pid)))
    c.push_process.ensures)
