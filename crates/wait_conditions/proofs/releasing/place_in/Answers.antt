use Rattle.std.proofs.Common.{arith, rules}
use Rattle.std.specs.Prelude.{nat_lt}
use Rattle.std.proofs.lemmas.List.Sorted.{IsPartitionPoint-from_clause, IsPartitionedBy-ltb}
use Rattle.wait_conditions.specs.declared.waiter.Waiter.{Waiter}
use Rattle.wait_conditions.proofs.Searching.{none_fall, found}
use Rattle.wait_conditions.proofs.releasing.place_in.Goals as goal

pub returns-clause-first : goal.returns-clause-first
returns-clause-first c = λ p rest e.
    let ws = c.args.waiters.now in
    let point = IsPartitionPoint-from_clause (λ (w : Waiter). nat_lt w.id c.args.id) ws c.partition_point.result c.partition_point.ensures.partitioned
    (IsPartitionedBy-ltb (λ (w : Waiter). w.id) ws c.args.id (none_fall ws c.requires)) (λ a r q k. search rules) in
    found p ws c.args.id rest c.partition_point.result c.requires e c.partition_point.ensures.bound
    (λ k d lt. point.0 k d (omega arith) lt) (λ k d a lt. point.1 k d a lt)
