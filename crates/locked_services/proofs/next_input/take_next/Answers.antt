use Rattle.std.proofs.Common.{rules, ◌≡◌, ◌++◌, List, Option, Some, None, IsSome, IfSome, slice_get, refl, sym, ap, ◌∙◌, arith}
use Rattle.std.specs.Prelude.{option_to_list}
use Rattle.std.proofs.lemmas.List.{append-nil, length-set}
use Rattle.std.proofs.lemmas.Option.{slice_get_read}
use Rattle.std.specs.declared.alloc.Global.{Global}
use Rattle.inbox.specs.declared.submission.Submission.{Submission}
use Rattle.tree_core.specs.declared.input.Input.{Input}
use Rattle.locked_services.specs.Submissions.{submission_by, submissions_in, taken_from}
use Rattle.locked_services.proofs.Submitted.{numbered_set, taken_more}
use Rattle.locked_services.proofs.next_input.take_next.Goals as goal

-- what is there, and what is true of it
some_with : {X : Type 0} (o : Option X) (P : X → Type 0) → IsSome o → IfSome o P → (x : X) × (o ≡ Some x) × P x
some_with (Some x) P there p = (x, refl, p)
some_with None P there p = search rules

pub returns-then-take_into-clause-numbered : goal.returns-then-take_into-clause-numbered
returns-then-take_into-clause-numbered g c =
    let drains = c.loop-k.drains.items in
    let p = c.index_mut-drain.result.now in
    let here : slice_get drains c.loop-k.k ≡ Some p =
    slice_get_read drains c.loop-k.drains.len c.loop-k.k p c.loop-k.drains.ok.0 (omega arith) c.index_mut-drain.ensures.value in
    numbered_set drains c.loop-k.k p c.take_into.new.self c.loop-k.invariant.1 here c.take_into.ensures.actor

pub returns-clause-gives : goal.returns-clause-gives
returns-clause-gives g c = record {
  each = c.loop-k.invariant.0;
  taken = λ a. c.loop-k.invariant.2 a
      ∙ (sym (append-nil (taken_from a c.args.drains.now.items))
      ∙ ap (λ (o : Option (Input Global)). taken_from a c.args.drains.now.items ++ submissions_in a (option_to_list o)) (sym c.loop-k.invariant.4));
}

pub returns-then-take_into-clause-gives : goal.returns-then-take_into-clause-gives
returns-then-take_into-clause-gives g c =
    let drains = c.loop-k.drains.items in
    let p = c.index_mut-drain.result.now in
    let yes = c.if-take_into.true in
    let one = some_with c.take_into.new.held _ (c.take_into.ensures.held yes) (c.take_into.ensures.taken yes) in
    let i = one.0 in
    let t = one.2 in
    let here : slice_get drains c.loop-k.k ≡ Some p =
    slice_get_read drains c.loop-k.drains.len c.loop-k.k p c.loop-k.drains.ok.0 (omega arith) c.index_mut-drain.ensures.value in
    record {
      each = length-set drains c.loop-k.k c.take_into.new.self ∙ c.loop-k.invariant.0;
      taken = λ a.
          taken_more drains c.loop-k.k i p c.take_into.new.self (t.0 ∙ c.loop-k.invariant.1 c.loop-k.k p here) here t.1 a
          ∙ (ap (λ (xs : List Submission). xs ++ submission_by a i) (c.loop-k.invariant.2 a)
          ∙ (ap (λ (xs : List Submission). taken_from a c.args.drains.now.items ++ xs) (sym (append-nil (submission_by a i)))
          ∙ ap (λ (o : Option (Input Global)). taken_from a c.args.drains.now.items ++ submissions_in a (option_to_list o)) (sym one.1)));
    }
