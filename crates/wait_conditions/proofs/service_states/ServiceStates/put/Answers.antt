use Rattle.std.proofs.Common.{◌≡◌, ◌∙◌, ◌-◌, ◌+◌, ap, length, take, true, false, subst, arith}
use Rattle.std.specs.Prelude.{nat_le, nat_lt, IfSome, slice_get}
use Rattle.std.specs.List.{list_all, list_any}
use Rattle.wait_conditions.specs.States.{state_in}
use Rattle.wait_conditions.proofs.Runs.{put_is, set_one, grow_one}
use Rattle.wait_conditions.proofs.service_states.ServiceStates.put.Goals as goal

pub returns-clause-states : goal.returns-clause-states
returns-clause-states g c = λ other.
    let place = c.place_of-place.result in
    c.tidy.ensures.states other
    ∙ rw (← c.self.view_is)
    (put_is c.self.inside.runs.items c.insert_run.new.runs.items c.insert_below.new.runs.items place c.args.sid other c.args.state
    c.state_of_service-was.result (omega (arith, c.place_of-place.ensures.bound, ap length c.deref.ensures.value))
    (subst (λ t. list_all (λ r. nat_lt r.last c.args.sid) (take place t) ≡ true) c.deref.ensures.value c.place_of-place.ensures.before)
    (subst (λ t. IfSome (slice_get t place) (λ r. nat_lt r.last c.args.sid ≡ false)) c.deref.ensures.value c.place_of-place.ensures.stop)
    (c.state_of_service-was.ensures ∙ ap (λ t. state_in t c.args.sid) c.deref-4.ensures.value)
    c.insert_run.ensures.runs c.insert_below.ensures.runs)

pub returns-then-is_of_one-clause-states : goal.returns-then-is_of_one-clause-states
returns-then-is_of_one-clause-states g c = λ other.
    let place = c.place_of-place.result in
    let alone = c.if-is_of_one.true in
    let value = c.deref-2.ensures.value in
    c.tidy_at.ensures.states other
    ∙ rw (← c.self.view_is)
    (ap (λ t. state_in t other) c.set_run.ensures.runs
    ∙ set_one c.self.inside.runs.items place c.args.sid other c.args.state
    (omega (arith, c.is_of_one.ensures.within alone, ap length value))
    (subst (λ t. list_all (λ r. nat_lt r.last c.args.sid) (take place t) ≡ true) c.deref.ensures.value c.place_of-place.ensures.before)
    (subst (λ t. IfSome (slice_get t place) (λ r. r.last ≡ c.args.sid)) value (c.is_of_one.ensures.last alone))
    (λ lt. subst (λ t. list_any (λ r. nat_le other r.last) (take place t) ≡ true) value (c.is_of_one.ensures.below alone other lt)))

pub returns-then-is_said_before-clause-states : goal.returns-then-is_said_before-clause-states
returns-then-is_said_before-clause-states g c = λ other.
    let place = c.place_of-place.result in
    let said = c.if-is_said_before.true in
    let value = c.deref-3.ensures.value in
    let behind = c.is_said_before.ensures.place said in
    rw (← c.self.view_is)
    (ap (λ t. state_in t other) c.set_run-then-is_said_before.ensures.runs
    ∙ grow_one c.self.inside.runs.items (place - 1) c.args.sid other c.args.state
    (omega (arith, behind, c.place_of-place.ensures.bound, ap length c.deref.ensures.value))
    (subst (λ n. list_all (λ r. nat_lt r.last c.args.sid) (take n c.self.inside.runs.items) ≡ true) (omega (arith, behind))
    (subst (λ t. list_all (λ r. nat_lt r.last c.args.sid) (take place t) ≡ true) c.deref.ensures.value c.place_of-place.ensures.before))
    (subst (λ t. IfSome (slice_get t (place - 1)) (λ r. (r.last + 1 ≡ c.args.sid) × (r.state ≡ c.args.state))) value
    (c.is_said_before.ensures.run said)))
