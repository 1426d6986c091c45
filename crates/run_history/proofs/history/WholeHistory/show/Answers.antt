use Rattle.std.proofs.Common.{rules, sym, ap, ◌∙◌}
use Rattle.run_history.proofs.Moves.{gives_as, takes_in_as, checks}
use Rattle.run_history.proofs.history.WholeHistory.show.Goals as goal

pub split_pass-fresh-requires : goal.split_pass-fresh-requires
split_pass-fresh-requires g c =
    let i = c.self.invariant in
    (search rules, (search rules, (i.1 ∙ sym i.0, gives_as _ _ _ i.2)))

pub join_pass-requires : goal.join_pass-requires
join_pass-requires g c =
    let i = c.self.invariant in
    let s = c.split_pass-fresh.ensures.kept in
    let t = c.into_pass-pass.ensures in
    (search rules, (search rules, ((s.0.0 ∙ i.1 ∙ sym i.0, t.cell ∙ sym (s.0.0 ∙ i.1), t.free), takes_in_as _ _ _ _ _ (s.1 ∙ i.2))))

pub load_as-requires : goal.load_as-requires
load_as-requires g c =
    let i = c.self.invariant in
    let s = c.split_pass-fresh.ensures.kept in
    let j = c.join_pass.ensures in
    (search rules, (search rules, (j.0.0 ∙ s.0.0 ∙ i.1 ∙ sym i.0, checks _ _ (ap (λ v. v.keeps) j.1 ∙ ap (λ v. v.keeps) (s.1 ∙ i.2)))))
