use Rattle.std.proofs.Common.{◌++◌, [], ◌∷◌}
use Rattle.s6_events.proofs.Rising.{rising_told}
use Rattle.wait_conditions.specs.Watch.{waiter_state, new_release}
use Rattle.wait_conditions.proofs.laws.releases_rise.Goals as goal

pub returns : goal.returns
returns c s w m stands = rising_told (λ p. p.id)
    (λ p. new_release (waiter_state w.history p) (waiter_state (w.history ++ m ∷ []) p)) w.waiters stands.rising
