use Rattle.std.proofs.Common.{◌≡◌, ◌∙◌, sym, ap, subst, arith, get_or, true, false, ⊎_elim, inl, inr}
use Rattle.std.proofs.lemmas.Bool.{cases_lt}
use Rattle.std.proofs.lemmas.List.Elements.{Contains-get_or}
use Rattle.std.specs.Prelude.{Contains}
use Rattle.regex_nfa.specs.Paths.{EmptyEdge}
use Rattle.regex_nfa.specs.Run.{state_of}
use Rattle.regex_nfa.specs.declared.state.State.TheVariants.{Match}
use Rattle.text_matcher.specs.Walks.{skipped}
use Rattle.text_matcher.proofs.ListedStates.{still, read_at}
use Rattle.text_matcher.proofs.walk.follow_all.Goals.{then-follow, else-follow}
use Rattle.text_matcher.proofs.walk.follow_all.Goals as goal

pub loop-place-preserved : goal.loop-place-preserved
loop-place-preserved c =
    let old = c.loop-place.beside.items in
    let new = c.follow.new.reached.items in
    let from = c.args.states.now.items in
    let inv = c.loop-place.invariant in
    let listed : Contains from c.get.result = subst (λ x. Contains from x) (sym c.get.ensures.item)
    (Contains-get_or from c.loop-place.place 0 (omega (arith, c.loop-place-test.true, c.len-place-end.ensures.len))) in
    record {
      count = c.follow.ensures.count ∙ inv.count;
      all = λ k r lt edge. elim (cases_lt k c.loop-place.place) [
        | inl before ↦ still old new r c.follow.ensures.grows (inv.all k r before edge)
        | inr behind ↦
            let here : k ≡ c.loop-place.place = omega (arith, behind, lt) in
            c.follow.ensures.all r (subst (λ q. EmptyEdge c.args.nfa.now c.args.bytes.now c.args.at q r)
            (ap (λ n. get_or from n 0) here ∙ sym c.get.ensures.item) edge)
      ];
      only = λ all q has. ⊎_elim (inv.only all q) (λ edge. skipped c.args.at c.get.result q (all c.get.result listed) edge)
          (c.follow.ensures.only q has);
      found = elim c.if-follow.branch [
        | then-follow w ↦ λ _. inr (c.get.result, listed, c.follow.ensures.yes w.if-follow.true)
        | else-follow w ↦ λ e. inv.found (sym w.is_found-is ∙ e)
      ];
      none = elim c.if-follow.branch [
        | then-follow w ↦ λ e. let bad : true ≡ false = sym w.is_found-is ∙ e in cc
        | else-follow w ↦ λ e.
            let h = inv.none (sym w.is_found-is ∙ e) in (
              h.0,
              λ k lt is. elim (cases_lt k c.loop-place.place) [
                | inl before ↦ h.1 k before is
                | inr behind ↦
                    let here : k ≡ c.loop-place.place = omega (arith, behind, lt) in
                    c.follow.ensures.no w.if-follow.false (subst (λ q. state_of c.args.nfa.now q ≡ Match)
                    (ap (λ n. get_or from n 0) here ∙ sym c.get.ensures.item) is)
              ],
            )
      ];
    }

pub returns-clause-all : goal.returns-clause-all
returns-clause-all c = λ q r has edge.
    c.loop-place.invariant.all has.0 r (omega (arith, has.1, c.loop-place-test.false, c.len-place-end.ensures.len))
    (subst (λ x. EmptyEdge c.args.nfa.now c.args.bytes.now c.args.at x r) (sym (read_at c.args.states.now.items q has)) edge)

pub returns-clause-none : goal.returns-clause-none
returns-clause-none c = λ e.
    let h = c.loop-place.invariant.none e in (
      h.0,
      λ m. h.1 m.1.0 (omega (arith, m.1.1, c.loop-place-test.false, c.len-place-end.ensures.len))
          (subst (λ q. state_of c.args.nfa.now q ≡ Match) (sym (read_at c.args.states.now.items m.0 m.1)) m.2),
    )
