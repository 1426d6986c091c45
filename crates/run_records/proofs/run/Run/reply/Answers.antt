use Rattle.std.proofs.Common.{◌≡◌, ◌≤◌, ◌<◌, ◌-◌, ℕ, List, option_map, Some, slice_get, sym, ap, subst, ◌∙◌, arith}
use Rattle.std.proofs.lemmas.Bool.Decides.{nat_tests}
use Rattle.std.specs.declared.alloc.Global.{Global}
use Rattle.tree_core.specs.declared.reply.Reply.{Reply}
use Rattle.run_records.specs.Runs.{RunView, RunStep, reply_at}
use Rattle.run_records.proofs.Snoc.{there_at}
use Rattle.run_records.proofs.Placing.{actor_there, reply_found, reply_none, place_within}
use Rattle.run_records.proofs.run.Run.reply.Goals as goal

pub returns-in_default : goal.returns-in_default
returns-in_default c =
    let a = c.args.actor in
    let steps = c.self.inside.log.steps in
    let one = c.index-places.result.now in
    let low : a ≤ 15 = subst (λ (n : ℕ). n ≤ 15) c.number.ensures.value c.number.ensures.bound in
    let here = actor_there c.self.inside.places.items c.from.result a one c.self.invariant.actors low (c.from.ensures ∙ c.number.ensures.value)
    c.index-places.ensures in
    let some : 0 < c.args.number = grind (arith, nat_tests) in
    sym (reply_none a c.args.number steps some
    (ap (λ (ps : List ℕ). slice_get ps (c.args.number - 1)) (sym (c.self.invariant.placed a one here))
    ∙ (sym c.nth.ensures ∙ c.in_default.is)))
    ∙ ap (λ (v : RunView). reply_at a c.args.number v.steps) c.self.view_is

pub reply-requires : goal.reply-requires
reply-requires c =
    let a = c.args.actor in
    let steps = c.self.inside.log.steps in
    let one = c.index-places.result.now in
    let low : a ≤ 15 = subst (λ (n : ℕ). n ≤ 15) c.number.ensures.value c.number.ensures.bound in
    let here = actor_there c.self.inside.places.items c.from.result a one c.self.invariant.actors low (c.from.ensures ∙ c.number.ensures.value)
    c.index-places.ensures in
    place_within a (c.args.number - 1) c.in-Some.place steps
    (ap (λ (ps : List ℕ). slice_get ps (c.args.number - 1)) (sym (c.self.invariant.placed a one here))
    ∙ (sym c.nth.ensures ∙ c.in-Some.is))

pub returns : goal.returns
returns c =
    let a = c.args.actor in
    let steps = c.self.inside.log.steps in
    let one = c.index-places.result.now in
    let low : a ≤ 15 = subst (λ (n : ℕ). n ≤ 15) c.number.ensures.value c.number.ensures.bound in
    let here = actor_there c.self.inside.places.items c.from.result a one c.self.invariant.actors low (c.from.ensures ∙ c.number.ensures.value)
    c.index-places.ensures in
    let at = ap (λ (ps : List ℕ). slice_get ps (c.args.number - 1)) (sym (c.self.invariant.placed a one here))
    ∙ (sym c.nth.ensures ∙ c.in-Some.is) in
    let some : 0 < c.args.number = grind (arith, nat_tests) in
    let step = there_at steps c.in-Some.place (place_within a (c.args.number - 1) c.in-Some.place steps at) in
    let same : c.in_ok-reply.reply ≡ step.one.outcome.reply = c.in_ok-reply.ensures step.one step.there in
    ap (λ (x : Reply Global). Some x) same
    ∙ (sym (ap (option_map (λ (s : RunStep). s.outcome.reply)) step.there)
    ∙ (sym (reply_found a c.args.number c.in-Some.place steps some at)
    ∙ ap (λ (v : RunView). reply_at a c.args.number v.steps) c.self.view_is))
