use Rattle.std.proofs.Common.{◌∙◌, ◌==◌, ℕ, List, ap, sym, not, filter}
use Rattle.std.specs.Prelude.{if◌then◌else◌}
use Rattle.wait_conditions.specs.Kept.{StoredWaiter}
use Rattle.wait_conditions.specs.Watchers.{serials_of}
use Rattle.wait_conditions.proofs.Leaving.{id_stays}
use Rattle.wait_conditions.proofs.releasing.change.Goals as goal

pub returns-then-not-waits_still-clause-watchers : goal.returns-then-not-waits_still-clause-watchers
returns-then-not-waits_still-clause-watchers g c = λ sid.
    let old : List ℕ = serials_of sid c.args.watchers.now.watchers in
    let same = ap (λ (k : StoredWaiter). k.id) c.take_in_moments.ensures.waiter ∙ id_stays c.args.moments.now _ in
    c.leave.ensures.serials sid
    ∙ (ap (λ n. filter (λ id. not (id == n)) old) same
    ∙ sym (ap (λ b. if b then old else filter (λ id. not (id == c.args.waiter.now.id)) old) (sym c.waits_still.ensures ∙ c.if-not-waits_still.true)))
