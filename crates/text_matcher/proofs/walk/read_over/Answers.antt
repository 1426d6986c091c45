use Rattle.std.proofs.Common.{◌≡◌, ◌∙◌, sym, ap, subst, arith, get_or, ⊎_elim, inl, inr, Some}
use Rattle.std.proofs.lemmas.Bool.{cases_lt}
use Rattle.std.proofs.lemmas.List.Elements.{Contains-get_or}
use Rattle.std.specs.Prelude.{Contains}
use Rattle.regex_nfa.specs.Run.{state_of}
use Rattle.regex_nfa.specs.States.{next_on}
use Rattle.text_matcher.proofs.ListedStates.{still, read_at}
use Rattle.text_matcher.proofs.walk.read_over.Goals as goal

pub loop-place-preserved : goal.loop-place-preserved
loop-place-preserved c =
    let old = c.loop-place.behind.items in
    let new = c.read_from.new.behind.items in
    let from = c.args.reached.now.items in
    let inv = c.loop-place.invariant in
    let nfa = c.args.nfa.now in
    record {
      count = c.read_from.ensures.count ∙ inv.count;
      all = λ k r lt leads. elim (cases_lt k c.loop-place.place) [
        | inl before ↦ still old new r c.read_from.ensures.grows (inv.all k r before leads)
        | inr behind ↦
            let here : k ≡ c.loop-place.place = omega (arith, behind, lt) in
            c.read_from.ensures.all r
            (subst (λ q. next_on nfa.transitions.items (state_of nfa q) c.args.byte ≡ Some r)
            (ap (λ n. get_or from n 0) here ∙ sym c.get.ensures.item) leads)
      ];
      only = λ r has. ⊎_elim (inv.only r)
          (λ leads. (
            c.get.result,
            subst (λ x. Contains from x) (sym c.get.ensures.item)
                (Contains-get_or from c.loop-place.place 0 (omega (arith, c.loop-place-test.true, c.len-place-end.ensures.len))),
            leads,
          ))
          (c.read_from.ensures.only r has);
    }

pub returns-clause-all : goal.returns-clause-all
returns-clause-all c = λ q r has leads.
    let from = c.args.reached.now.items in
    let nfa = c.args.nfa.now in
    c.loop-place.invariant.all has.0 r (omega (arith, has.1, c.loop-place-test.false, c.len-place-end.ensures.len))
    (subst (λ x. next_on nfa.transitions.items (state_of nfa x) c.args.byte ≡ Some r) (sym (read_at from q has)) leads)
