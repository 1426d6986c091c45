use Rattle.std.proofs.Common.{◌≡◌, Bool, true, false, List, refl, sym, subst}
use Rattle.std.specs.Prelude.{IsTrue, IsFalse}
use mathlib.Core.List.{IsPrefix}
use Rattle.status_board.specs.declared.shot.Shot.{Shot}
use Rattle.status_board.proofs.Beginnings.{prefix_self}
use Rattle.status_board.proofs.reader.take_shot.Goals as goal

-- nothing that was known is lost where the other is followed, nor where it is not
followed : (yes : Bool) (before after other : List Shot)
    → (IsTrue yes → (after ≡ other) × IsPrefix before after) → (IsFalse yes → (after ≡ before) × IsPrefix other before)
    → IsPrefix before after
followed true before after other longer shorter = (longer refl).1
followed false before after other longer shorter = subst (λ (all : List Shot). IsPrefix before all) (sym (shorter refl).0) (prefix_self before)

pub returns-then-follow-clause-later : goal.returns-then-follow-clause-later
returns-then-follow-clause-later g c = followed c.follow.result c.args.known.now c.follow.new.self c.published.result.now c.follow.ensures.yes
    c.follow.ensures.no

pub returns-else-follow-clause-later : goal.returns-else-follow-clause-later
returns-else-follow-clause-later g c = followed c.follow.result c.args.known.now c.follow.new.self c.published.result.now c.follow.ensures.yes
    c.follow.ensures.no
