use Rattle.std.proofs.Common.{rules, ◌≡◌, ◌<◌, ⊎_elim, ℕ, List, length, Some, true, Bool, IsSome, slice_get, sym, ap, subst, ◌∙◌, arith}
use Rattle.std.proofs.lemmas.Option.{slice_get_read, slice_get_within}
use Rattle.inbox.specs.Ends.{FinishedView}
use Rattle.inbox.specs.declared.submission.Submission.{Submission}
use Rattle.locked_services.specs.Closing.{drain_unseen}
use Rattle.locked_services.specs.Submissions.{taken_from}
use Rattle.locked_services.proofs.EndOfRun.{same_length, same_numbered, same_taken}
use Rattle.locked_services.proofs.Finished.{set_same, and_of_next_element, none_is_some}
use Rattle.locked_services.proofs.closing.are_drained.Goals as goal

pub is_drained-requires-clause-known : goal.is_drained-requires-clause-known
is_drained-requires-clause-known g c =
    let inv = c.loop-k.invariant in
    let finishes = c.loop-k.finishes.items in
    let p = c.index_mut-finished.result.now in
    let here : slice_get finishes c.loop-k.k ≡ Some p =
    slice_get_read finishes c.loop-k.finishes.len c.loop-k.k p c.loop-k.finishes.ok.0 (grind (arith, rules)) c.index_mut-finished.ensures.value in
    let old : slice_get c.args.finishes.now.items c.loop-k.k ≡ Some p = ap (λ (fs : List FinishedView). slice_get fs c.loop-k.k) (sym inv.2) ∙ here in
    subst (λ (n : ℕ). p.actor < n) (sym (same_length drain_unseen c.args.drains.now.items c.loop-k.drains.items inv.0))
    (c.requires.known c.loop-k.k p old)

pub returns-in-None-clause-none : goal.returns-in-None-clause-none
returns-in-None-clause-none g c told =
    let inv = c.loop-k.invariant in
    let finishes = c.loop-k.finishes.items in
    let p = c.index_mut-finished.result.now in
    let here : slice_get finishes c.loop-k.k ≡ Some p =
    slice_get_read finishes c.loop-k.finishes.len c.loop-k.k p c.loop-k.finishes.ok.0 (grind (arith, rules)) c.index_mut-finished.ensures.value in
    let old : slice_get c.args.finishes.now.items c.loop-k.k ≡ Some p = ap (λ (fs : List FinishedView). slice_get fs c.loop-k.k) (sym inv.2) ∙ here in
    none_is_some p.submitted c.in-None.ensures.none (told c.loop-k.k p old)

pub loop-k-preserved : goal.loop-k-preserved
loop-k-preserved g c =
    let inv = c.loop-k.invariant in
    let drains = c.args.drains.now.items in
    let finishes = c.loop-k.finishes.items in
    let all = c.args.finishes.now.items in
    let p = c.index_mut-finished.result.now in
    let here : slice_get finishes c.loop-k.k ≡ Some p =
    slice_get_read finishes c.loop-k.finishes.len c.loop-k.k p c.loop-k.finishes.ok.0 (grind (arith, rules)) c.index_mut-finished.ensures.value in
    let old : slice_get all c.loop-k.k ≡ Some p = ap (λ (fs : List FinishedView). slice_get fs c.loop-k.k) (sym inv.2) ∙ here in
    let taken : taken_from p.actor c.loop-k.drains.items ≡ taken_from p.actor drains = same_taken drains c.loop-k.drains.items inv.0 p.actor in (
      c.is_drained.ensures.same ∙ inv.0,
      same_numbered c.loop-k.drains.items c.is_drained.new.drains.items c.is_drained.ensures.same inv.1,
      set_same finishes c.loop-k.k p c.is_drained.new.finished here c.is_drained.ensures.finished ∙ inv.2,
      and_of_next_element (λ (f : FinishedView). IsSome f.submitted) all c.loop-k.k p inv.3 old c.in-Some.ensures.told,
      (λ t.
          let yes = c.both-all.ensures.yes t in
          let one : p.submitted ≡ Some (taken_from p.actor c.loop-k.drains.items) =
          c.is_drained.ensures.yes (c.in-Some.is ∙ ap (λ (b : Bool). Some b) yes.1) in
          and_of_next_element (λ (f : FinishedView). f.submitted ≡ Some (taken_from f.actor drains)) all c.loop-k.k p (inv.4 yes.0) old
          (one ∙ ap (λ (xs : List Submission). Some xs) taken)),
      (λ t. ⊎_elim inv.5
          (λ e. (
            c.loop-k.k,
            p,
            old,
            (λ done. c.is_drained.ensures.left (c.in-Some.is ∙ ap (λ (b : Bool). Some b) e)
                (done ∙ ap (λ (xs : List Submission). Some xs) (sym taken))),
          ))
          (c.both-all.ensures.no t)),
    )

pub returns-clause-yes : goal.returns-clause-yes
returns-clause-yes g c is k f at =
    let inv = c.loop-k.invariant in
    let t : c.loop-k.all ≡ true = cc (is) in
    let below : k < length c.args.finishes.now.items = slice_get_within c.args.finishes.now.items k f at in
    let fits = c.args.finishes.now.ok.0 in
    let end = c.len-k-end.ensures in
    let past = c.loop-k-test.false in
    inv.4 t k f (omega arith) at

pub returns-clause-told : goal.returns-clause-told
returns-clause-told g c k f at =
    let inv = c.loop-k.invariant in
    let below : k < length c.args.finishes.now.items = slice_get_within c.args.finishes.now.items k f at in
    let fits = c.args.finishes.now.ok.0 in
    let end = c.len-k-end.ensures in
    let past = c.loop-k-test.false in
    inv.3 k f (omega arith) at
