use Rattle.std.proofs.Common.{rules, ◌≡◌, inl, inr, ℕ, length, Some, Bool, sym, ap, subst, ◌∙◌}
use Rattle.locked_services.specs.Closing.{AreComplete}
use Rattle.locked_services.proofs.Finished.{complete_of}
use Rattle.locked_services.proofs.closing.input_fault.Goals as goal

pub returns-then-not-has_one_each-clause-missing : goal.returns-then-not-has_one_each-clause-missing
returns-then-not-has_one_each-clause-missing g c said complete =
    let seats : length c.args.drains.now.items ≡ c.len.result = sym (c.len.ensures ∙ c.args.drains.now.ok.0) in
    let here = subst (λ (n : ℕ). AreComplete n c.args.finishes.now.items) seats complete in
    c.if-not-has_one_each.ensures.no (search rules) here.known here.one

pub returns-in-Some-false-clause-left : goal.returns-in-Some-false-clause-left
returns-in-Some-false-clause-left g c said =
    let seats : c.len.result ≡ length c.args.drains.now.items = c.len.ensures ∙ c.args.drains.now.ok.0 in (
      complete_of c.len.result (length c.args.drains.now.items) c.args.finishes.now.items seats (c.if-not-has_one_each.ensures.known (search rules))
          (c.if-not-has_one_each.ensures.one (search rules)) c.in-Some-false.ensures.told,
      inr (c.are_drained.ensures.left (c.in-Some-false.is ∙ ap (λ (b : Bool). Some b) c.in-Some-false.field-0-test)),
    )

pub returns-then-is_held-clause-left : goal.returns-then-is_held-clause-left
returns-then-is_held-clause-left g c said =
    let seats : c.len.result ≡ length c.args.drains.now.items = c.len.ensures ∙ c.args.drains.now.ok.0 in (
      complete_of c.len.result (length c.args.drains.now.items) c.args.finishes.now.items seats (c.if-not-has_one_each.ensures.known (search rules))
          (c.if-not-has_one_each.ensures.one (search rules)) c.in-Some-true.ensures.told,
      inl (search rules),
    )

pub returns-clause-complete : goal.returns-clause-complete
returns-clause-complete g c =
    let seats : c.len.result ≡ length c.args.drains.now.items = c.len.ensures ∙ c.args.drains.now.ok.0 in
    complete_of c.len.result (length c.args.drains.now.items) c.args.finishes.now.items seats (c.if-not-has_one_each.ensures.known (search rules))
    (c.if-not-has_one_each.ensures.one (search rules)) c.in-Some-true.ensures.told
