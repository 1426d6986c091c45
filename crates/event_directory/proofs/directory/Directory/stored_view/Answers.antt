use Rattle.std.proofs.Common.{sym}
use Rattle.event_directory.proofs.Looks.{list_none, list_some}
use Rattle.event_directory.proofs.directory.Directory.stored_view.Goals as goal

pub returns-in_err-subscription : goal.returns-in_err-subscription
returns-in_err-subscription g c =
    rw (c.from_residual.ensures, ← c.self.view_is)
    (sym (list_none c.args.id _ c.self.inside.subscriptions.items (rw (← c.deref.ensures.value) (sym c.in_err-subscription.ensures))))

pub returns : goal.returns
returns g c =
    rw (c.letters.ensures, c.state.ensures, ← c.self.view_is)
    (sym (list_some c.args.id _ c.self.inside.subscriptions.items c.in_ok-subscription.subscription.now
    (rw (← c.deref.ensures.value) (sym c.in_ok-subscription.ensures))))
