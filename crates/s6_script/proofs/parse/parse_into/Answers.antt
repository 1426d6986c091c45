use Rattle.std.proofs.Common.{◌≡◌, ◌∙◌, [], refl, sym, ap, drop}
use Rattle.std.specs.Prelude.{slice_index_or, Err}
use Rattle.std.proofs.lemmas.Option.{same_Some}
use Rattle.s6_script.specs.declared.parse.LineFault.TheVariants.{Line, Pattern}
use Rattle.s6_script.proofs.Heads.{cut_behind, line_words, line_spelled, spells_line}
use Rattle.s6_script.proofs.parse.parse_into.Goals as goal

pub returns-in_default-clause-line : goal.returns-in_default-clause-line
returns-in_default-clause-line g c = λ _ i s.
    let words = c.of-words.ensures ∙ line_words c.args.line.now i s in
    let none = c.in_default.ensures.spelled i.at s.spelt.at (ap (λ ws. slice_index_or ws 0 []) words) in
    cc none

pub returns-in_default-take_actor-clause-line : goal.returns-in_default-take_actor-clause-line
returns-in_default-take_actor-clause-line g c = λ _ i s.
    let words = c.of-words.ensures ∙ line_words c.args.line.now i s in
    let left = sym (ap (drop 1) c.in-Some.ensures.only.1) ∙ ap (drop 1) words in
    let none = c.in_default-take_actor.ensures.spelled i.actor s.spelt.actor (ap (λ ws. slice_index_or ws 0 []) left) in
    cc none

pub returns-in-Ok-clause-found : goal.returns-in-Ok-clause-found
returns-in-Ok-clause-found g c =
    let cut = cut_behind c.args.line.now _ _ _ _ _ _ c.of-words.ensures c.in-Some.ensures.only.1 c.in-Some-take_actor.ensures.only.1 c.rest.ensures in
    spells_line c.args.line.now _ _ _ _ _ c.parse_act_into.new.act cut (c.in-Some.ensures.only.0, refl) (c.in-Some-take_actor.ensures.only.0, refl)
    c.in-Ok.ensures.found

pub returns-in-Ok-clause-only : goal.returns-in-Ok-clause-only
returns-in-Ok-clause-only g c = λ i s.
    let cut = cut_behind c.args.line.now _ _ _ _ _ _ c.of-words.ensures c.in-Some.ensures.only.1 c.in-Some-take_actor.ensures.only.1 c.rest.ensures in
    let parts = line_spelled c.args.line.now _ _ _ i cut s in
    let at : c.in-Some.at ≡ i.at =
    same_Some c.in-Some.at i.at (c.in-Some.ensures.spelled i.at s.spelt.at (ap (λ ws. slice_index_or ws 0 []) c.in-Some.ensures.only.1 ∙ parts.0)) in
    let actor : c.in-Some-take_actor.actor ≡ i.actor =
    same_Some c.in-Some-take_actor.actor i.actor (c.in-Some-take_actor.ensures.spelled i.actor s.spelt.actor
    (ap (λ ws. slice_index_or ws 0 []) c.in-Some-take_actor.ensures.only.1 ∙ parts.1)) in
    let act : c.parse_act_into.new.act ≡ i.act = c.in-Ok.ensures.only i.act parts.2 in
    λ k. record { actor = actor k; at = at k; act = act k }

pub returns-in-Err-clause-line : goal.returns-in-Err-clause-line
returns-in-Err-clause-line g c = λ e i s.
    let cut = cut_behind c.args.line.now _ _ _ _ _ _ c.of-words.ensures c.in-Some.ensures.only.1 c.in-Some-take_actor.ensures.only.1 c.rest.ensures in
    let fault : c.in-Err.fault ≡ Line = cc e in
    c.in-Err.ensures.line (ap (λ f. Err f) fault) i.act (line_spelled c.args.line.now _ _ _ i cut s).2

pub returns-in-Err-clause-pattern : goal.returns-in-Err-clause-pattern
returns-in-Err-clause-pattern g c = λ e.
    let cut = cut_behind c.args.line.now _ _ _ _ _ _ c.of-words.ensures c.in-Some.ensures.only.1 c.in-Some-take_actor.ensures.only.1 c.rest.ensures in
    let fault : c.in-Err.fault ≡ Pattern = cc e in
    let found = c.in-Err.ensures.pattern (ap (λ f. Err f) fault) in (
      _,
      spells_line c.args.line.now _ _ _ _ _ found.0 cut (c.in-Some.ensures.only.0, refl)
          (c.in-Some-take_actor.ensures.only.0, refl) found.1,
      found.2,
    )
