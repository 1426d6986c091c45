use Rattle.std.proofs.Common.{◌≡◌, ◌∙◌, ◌∷◌, ◌+◌, List, sym, ap, subst, take, drop}
use Rattle.std.proofs.lemmas.List.{drop_more}
use Rattle.supervise_core.specs.Service.{Supervised}
use Rattle.svscan_core.specs.declared.moves.ChangedService.{ChangedService}
use Rattle.svscan_core.specs.Moving.{with_change, with_changes, KeepNames}
use Rattle.svscan_core.proofs.Taking.{kept_there, one_taken, touched_first}
use Rattle.svscan_core.proofs.commit.adopt_all.Goals as goal

pub loop-change-preserved : goal.loop-change-preserved
loop-change-preserved g c =
    let before = c.loop-change.slots.services in
    let all = c.args.touched.now in
    let i = c.loop-change.change-index in
    let t = c.change-item.result in
    let left : drop i all ≡ t ∷ drop (i + 1) all =
    drop_more all i t c.loop-change-test.true ∙ ap (λ x. x ∷ drop (i + 1) all) (sym c.change-item.is) in
    let kept : KeepNames before (t ∷ drop (i + 1) all) =
    subst (λ (ts : List ChangedService). KeepNames before ts) left c.loop-change.invariant.names in
    let there = kept_there before t kept.0 in
    let is : c.adopt.new.self.services ≡ with_change before t =
    c.adopt.ensures.services there.0 there.1 ∙ sym (one_taken before t there.0 there.1) in
    record {
      services = is
          ∙ (ap (λ ss. with_change ss t) c.loop-change.invariant.services
          ∙ sym (touched_first c.args.slots.now.services all i t c.loop-change-test.true
          ∙ ap (with_change (with_changes c.args.slots.now.services (take i all))) (sym c.change-item.is)));
      names = subst (λ (ss : List Supervised). KeepNames ss (drop (i + 1) all)) (sym is) kept.1;
      room = c.adopt.ensures.room ∙ c.loop-change.invariant.room;
    }
