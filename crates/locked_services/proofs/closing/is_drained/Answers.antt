use Rattle.std.proofs.Common.{rules, ◌≡◌, ℕ, List, Some, slice_get, sym, ap, ◌∙◌, arith}
use Rattle.std.proofs.lemmas.Option.{slice_get_read}
use Rattle.inbox.specs.declared.submission.Submission.{Submission}
use Rattle.locked_services.specs.Closing.{drain_unseen}
use Rattle.locked_services.specs.Submissions.{taken_by}
use Rattle.locked_services.proofs.EndOfRun.{map_set}
use Rattle.locked_services.proofs.closing.is_drained.Goals as goal

pub returns-clause-same : goal.returns-clause-same
returns-clause-same g c =
    let drains = c.args.drains.now.items in
    let place : c.from.result ≡ c.args.finished.now.actor = c.from.ensures ∙ (c.number.ensures.value ∙ c.actor.ensures) in
    let known = c.requires.known in
    let p = c.index_mut-drain.result.now in
    let q = c.is_drained.new.self in
    let here : slice_get drains c.from.result ≡ Some p =
    slice_get_read drains c.args.drains.now.len c.from.result p c.args.drains.now.ok.0 (grind (arith, rules)) c.index_mut-drain.ensures.value in
    map_set drain_unseen drains c.from.result p q here (cc (c.is_drained.ensures.actor, c.is_drained.ensures.taken))

pub returns-clause-yes : goal.returns-clause-yes
returns-clause-yes g c t =
    let drains = c.args.drains.now.items in
    let place : c.from.result ≡ c.args.finished.now.actor = c.from.ensures ∙ (c.number.ensures.value ∙ c.actor.ensures) in
    let p = c.index_mut-drain.result.now in
    let here : slice_get drains c.from.result ≡ Some p =
    slice_get_read drains c.args.drains.now.len c.from.result p c.args.drains.now.ok.0 (grind (arith, rules)) c.index_mut-drain.ensures.value in
    c.is_drained.ensures.drained t
    ∙ ap (λ (xs : List Submission). Some xs)
    (c.is_drained.ensures.taken ∙ (ap taken_by (sym here) ∙ ap (λ (k : ℕ). taken_by (slice_get drains k)) place))

pub returns-clause-left : goal.returns-clause-left
returns-clause-left g c t all =
    let drains = c.args.drains.now.items in
    let place : c.from.result ≡ c.args.finished.now.actor = c.from.ensures ∙ (c.number.ensures.value ∙ c.actor.ensures) in
    let p = c.index_mut-drain.result.now in
    let here : slice_get drains c.from.result ≡ Some p =
    slice_get_read drains c.args.drains.now.len c.from.result p c.args.drains.now.ok.0 (grind (arith, rules)) c.index_mut-drain.ensures.value in
    c.is_drained.ensures.left t
    (all ∙ ap (λ (xs : List Submission). Some xs)
    (sym (c.is_drained.ensures.taken ∙ (ap taken_by (sym here) ∙ ap (λ (k : ℕ). taken_by (slice_get drains k)) place))))
