use Rattle.std.proofs.Common.{◌<◌, All, subst, ap, ap₂, ◌∙◌}
use Rattle.text_matcher.specs.Expression.{has_match}
use Rattle.text_matcher.specs.MatcherFields.{MatcherView}
use Rattle.event_directory.proofs.Searches.{found_among_letters}
use Rattle.event_directory.proofs.pattern.PatternFinds.finds.Goals as goal

pub returns-clause-found : goal.returns-clause-found
returns-clause-found c =
    let source = λ (m : MatcherView). m.source in
    let heard = ap (λ (m : MatcherView). m.heard) c.deref_mut-2.ensures.value ∙ c.in_ok-hear_all.ensures.heard in
    let own = ap source c.deref_mut-2.ensures.value ∙ (c.in_ok-hear_all.ensures.source ∙ (ap source c.deref_mut.ensures.value ∙ c.self.view_is)) in
    c.has_match.ensures.found
    ∙ (ap₂ has_match own heard
    ∙ found_among_letters c.args.self.now c.args.letters.now (subst (All (λ b. b < 128)) heard c.has_match.ensures.ascii))
