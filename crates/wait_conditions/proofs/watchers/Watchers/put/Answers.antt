use Rattle.std.proofs.Common.{◌≡◌, ◌∙◌, ap, sym, subst, rules, arith, length, true, false}
use Rattle.std.specs.Prelude.{is_ok, insert, if◌then◌else◌}
use Rattle.std.specs.List.Sorted.{IsNonDecreasingBy, IsPartitionPoint}
use Rattle.std.proofs.lemmas.List.Sorted.{IsPartitionPoint-from_clause, IsPartitionedBy-leb}
use Rattle.wait_conditions.specs.declared.watchers.Watcher.{Watcher}
use Rattle.wait_conditions.specs.Watchers.{serials_of}
use Rattle.wait_conditions.proofs.Indexed.{up_to, put_is, put_in_order}
use Rattle.wait_conditions.proofs.watchers.Watchers.put.Goals as goal

pub invariant_of-self : goal.invariant_of-self
invariant_of-self g c =
    let ws = c.self.inside.list.items in
    let at = c.deref.ensures.value in
    let point = IsPartitionPoint-from_clause
    (up_to c.args.sid) c.deref.result.now c.partition_point-place.result c.partition_point-place.ensures.partitioned
    (IsPartitionedBy-leb (λ (w : Watcher). w.sid) c.deref.result.now c.args.sid
    (subst (IsNonDecreasingBy (λ (w : Watcher). w.sid)) (sym at) c.self.invariant)) (λ a r q k. search rules) in
    subst (IsNonDecreasingBy (λ (w : Watcher). w.sid))
    (sym (c.insert.ensures.items ∙ ap
    (λ r. if is_ok r then insert ws c.partition_point-place.result (record { sid = c.args.sid; waiter = c.args.waiter }) else ws) c.unwrap.ensures))
    (put_in_order c.args.sid c.args.waiter c.partition_point-place.result ws c.self.invariant
    (omega (arith, c.partition_point-place.ensures.bound, ap length at))
    (subst (λ xs. IsPartitionPoint (λ w. up_to c.args.sid w ≡ true) (λ w. up_to c.args.sid w ≡ false) xs c.partition_point-place.result) at point))

pub returns-clause-serials : goal.returns-clause-serials
returns-clause-serials g c = λ other.
    let ws = c.self.inside.list.items in
    let at = c.deref.ensures.value in
    let point = IsPartitionPoint-from_clause
    (up_to c.args.sid) c.deref.result.now c.partition_point-place.result c.partition_point-place.ensures.partitioned
    (IsPartitionedBy-leb (λ (w : Watcher). w.sid) c.deref.result.now c.args.sid
    (subst (IsNonDecreasingBy (λ (w : Watcher). w.sid)) (sym at) c.self.invariant)) (λ a r q k. search rules) in
    rw (← c.self.view_is)
    (ap (serials_of other)
    (c.insert.ensures.items ∙ ap (λ r. if is_ok r then insert ws c.partition_point-place.result
    (record { sid = c.args.sid; waiter = c.args.waiter }) else ws) c.unwrap.ensures)
    ∙ put_is c.args.sid c.args.waiter other c.partition_point-place.result ws
    (subst (λ xs. IsPartitionPoint (λ w. up_to c.args.sid w ≡ true) (λ w. up_to c.args.sid w ≡ false) xs c.partition_point-place.result) at point).1)
