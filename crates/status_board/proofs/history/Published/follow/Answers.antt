use Rattle.std.proofs.Common.{◌≡◌, ◌∙◌, sym, refl, ◌≤◌, ap, subst, arith, length, List}
use mathlib.Core.List.{IsPrefix}
use Rattle.status_board.specs.declared.shot.Shot.{Shot}
use Rattle.status_board.proofs.Beginnings.{prefix_shorter}
use Rattle.status_board.proofs.history.Published.follow.Goals as goal

pub returns-then-other-self-clause-no : goal.returns-then-other-self-clause-no
returns-then-other-self-clause-no g c said =
    let both = c.learn.new.self.log in
    let this : IsPrefix c.self.inside.log.log both =
    subst (λ (l : List Shot). IsPrefix l both) (ap (λ s. s.log) c.again-both.ensures) c.learn.ensures.2 in
    let less : length c.other.inside.log.log ≤ length c.self.inside.log.log = omega (arith, c.self.invariant.0, c.other.invariant.0) in
    (refl, rw (← c.self.view_is, ← c.other.view_is) (prefix_shorter c.other.inside.log.log c.self.inside.log.log both c.learn.ensures.3 this less))

pub returns-clause-yes : goal.returns-clause-yes
returns-clause-yes g c said =
    let both = c.learn.new.self.log in
    let this : IsPrefix c.self.inside.log.log both =
    subst (λ (l : List Shot). IsPrefix l both) (ap (λ s. s.log) c.again-both.ensures) c.learn.ensures.2 in
    let less : length c.self.inside.log.log ≤ length c.other.inside.log.log = omega (arith, c.self.invariant.0, c.other.invariant.0) in
    let same : c.drop.inside.log.log ≡ c.args.other.now = c.drop.view_is ∙ c.copied.ensures in (
      same,
      subst (λ (l : List Shot). IsPrefix c.args.self.now l) (sym same)
          (rw (← c.self.view_is, ← c.other.view_is) (prefix_shorter c.self.inside.log.log c.other.inside.log.log both this c.learn.ensures.3 less)),
    )
