use Rattle.std.proofs.Common.{◌≡◌, ◌∙◌, ap, sym, subst, rules, arith, length, true, false, take, drop, map}
use Rattle.std.specs.List.Sorted.{IsNonDecreasingBy, IsPartitionPoint}
use Rattle.std.proofs.lemmas.List.{take_all, length-drop}
use Rattle.std.proofs.lemmas.List.Sorted.{IsPartitionPoint-from_clause, IsPartitionedBy-leb, IsPartitionedBy-ltb, IsNonDecreasingBy-take}
use Rattle.wait_conditions.specs.declared.watchers.Watcher.{Watcher}
use Rattle.wait_conditions.specs.Watchers.{WatcherList, serials_of}
use Rattle.wait_conditions.proofs.Indexed.{up_to, below, part_is}
use Rattle.wait_conditions.proofs.watchers.Watchers.of.Goals as goal

pub returns : goal.returns
returns g c =
    let sid = c.args.sid in
    let end = c.partition_point-end.result in
    let start = c.partition_point-start.result in
    let point = IsPartitionPoint-from_clause (up_to sid) c.deref.result.now end c.partition_point-end.ensures.partitioned
    (IsPartitionedBy-leb (λ (w : Watcher). w.sid) c.deref.result.now sid
    (subst (IsNonDecreasingBy (λ (w : Watcher). w.sid)) (sym c.deref.ensures.value) c.self.invariant)) (λ a r q k. search rules) in
    let low = take end c.deref-2.result.now in
    let up = IsNonDecreasingBy-take (λ (w : Watcher). w.sid) end c.deref-2.result.now
    (subst (IsNonDecreasingBy (λ (w : Watcher). w.sid)) (sym c.deref-2.ensures.value) c.self.invariant) in
    let point' = IsPartitionPoint-from_clause (below sid) low start c.partition_point-start.ensures.partitioned
    (IsPartitionedBy-ltb (λ (w : Watcher). w.sid) low sid up) (λ a r q k. search rules) in
    ap (map (λ (w : Watcher). w.waiter)) (take_all _ (drop start low) (omega (arith, length-drop start low)))
    ∙ (part_is sid end start c.deref-2.result.now
    (omega (arith, c.partition_point-end.ensures.bound, ap length c.deref.ensures.value, ap length c.deref-2.ensures.value))
    (subst (λ xs. IsPartitionPoint (λ w. up_to sid w ≡ true) (λ w. up_to sid w ≡ false) xs end)
    (c.deref.ensures.value ∙ sym c.deref-2.ensures.value) point)
    c.partition_point-start.ensures.bound point'
    ∙ (ap (serials_of sid) c.deref-2.ensures.value ∙ ap (λ (l : WatcherList). serials_of sid l.watchers) c.self.view_is))
