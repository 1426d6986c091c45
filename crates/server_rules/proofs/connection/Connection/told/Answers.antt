use Rattle.std.proofs.Common.{sym, subst, ◌∙◌, ◌≡◌, true}
use Rattle.server_rules.specs.Connection.{View}
use Rattle.server_rules.specs.Made.{is_among}
use Rattle.server_rules.proofs.Shorter.{room_stays, told_stands}
use Rattle.server_rules.proofs.connection.Connection.told.Goals as goal

pub invariant_of-self : goal.invariant_of-self
invariant_of-self c =
    let waiter = c.in-Release.release.waiter in
    let stands = told_stands c.args.news.now c.in-Release.release c.args.self.now c.in-Release.is (sym c.is_for.ensures ∙ c.if-not-is_for.false) in
    rw c.note_release.ensures
    (room_stays c.self.inside.phase waiter c.self.inside.made
    (subst (λ (v : View). is_among waiter v.made.waiters ≡ true) (sym c.self.view_is) stands) c.self.invariant)
