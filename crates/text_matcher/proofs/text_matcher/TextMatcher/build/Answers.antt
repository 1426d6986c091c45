use Rattle.std.proofs.Common.{◌≡◌, ◌∙◌, [], List, ℕ, sym, ap, subst, arith, length, true, false}
use Rattle.text_matcher.specs.Matching.{Matches}
use Rattle.text_matcher.specs.StateLists.{StatesListed}
use Rattle.text_matcher.specs.Walks.{HasWalked}
use Rattle.text_matcher.proofs.ListedStates.{first_added}
use Rattle.text_matcher.proofs.Walking.{begins}
use Rattle.text_matcher.proofs.text_matcher.TextMatcher.build.Goals as goal

pub invariant_of-result : goal.invariant_of-result
invariant_of-result c =
    let nfa = c.in_ok-nfa.nfa in
    let none = c.in_ok-heard.ensures.items in
    let states = c.add.new.self.items in
    record {
      matches = ∣ subst (Matches nfa) (sym c.in_ok-source.ensures.ok) c.in_ok-nfa.ensures.matches ∣₁;
      ascii = λ k d lt. absurd (omega (arith, lt, ap length none));
      behind = c.add.ensures.count ∙ (ap (λ (l : StatesListed). l.count) c.in_ok-behind.ensures ∙ c.len-states.ensures);
      spare = ap (λ (l : StatesListed). l.count) c.in_ok-spare.ensures ∙ c.len-states.ensures;
      walked = λ _.
          subst (λ (hay : List ℕ). HasWalked nfa hay (length hay) states false) (sym none)
          (begins nfa [] states c.add.ensures.listed
          (λ q has. first_added c.in_ok-behind.behind.items states nfa.unanchored q (ap (λ (l : StatesListed). l.items) c.in_ok-behind.ensures)
          c.add.ensures.items has));
      plain = c.has_assertion-has_assertions.ensures.no;
      stood = λ e. let bad : false ≡ true = e in cc;
    }
