use Rattle.std.proofs.Common.{◌≡◌, ◌∙◌, ◌<◌, sym, ap, subst, arith, length, get_or, true, false, ⊎_elim, inl, inr}
use Rattle.std.proofs.lemmas.Bool.{cases_lt}
use Rattle.std.proofs.lemmas.List.{get_or_default, length-append}
use Rattle.std.proofs.lemmas.List.Elements.{Contains-get_or}
use Rattle.std.specs.Prelude.{Contains}
use Rattle.regex_nfa.specs.Paths.{EmptyEdge}
use Rattle.text_matcher.specs.Walks.{skipped}
use Rattle.text_matcher.proofs.ListedStates.{grows_on, still, kept_at, read_at}
use Rattle.regex_nfa.specs.Run.{state_of}
use Rattle.regex_nfa.specs.declared.state.State.TheVariants.{Match}
use Rattle.text_matcher.proofs.walk.close.Goals.{then-follow, else-follow}
use Rattle.text_matcher.proofs.walk.close.Goals as goal

pub loop-place-smaller : goal.loop-place-smaller
loop-place-smaller c = omega (arith, c.loop-place-test.true, c.len.ensures.within, c.loop-place.invariant.count, c.requires.count)

pub loop-place-preserved : goal.loop-place-preserved
loop-place-preserved c =
    let old = c.loop-place.reached.items in
    let new = c.follow.new.reached.items in
    let inv = c.loop-place.invariant in
    let inside : c.loop-place.place < length old = omega (arith, c.loop-place-test.true, c.len.ensures.len) in
    record {
      count = c.follow.ensures.count ∙ inv.count;
      place = omega (arith, inside, ap length c.follow.ensures.grows.1, length-append old c.follow.ensures.grows.0);
      grows = grows_on _ _ _ inv.grows c.follow.ensures.grows;
      closed = λ k r lt edge. elim (cases_lt k c.loop-place.place) [
        | inl before ↦ still old new r c.follow.ensures.grows
            (inv.closed k r before (subst (λ q. EmptyEdge c.args.nfa.now c.args.bytes.now c.args.at q r)
            (kept_at old new k c.follow.ensures.grows (omega (arith, before, inside))) edge))
        | inr behind ↦
            let here : k ≡ c.loop-place.place = omega (arith, behind, lt) in
            c.follow.ensures.all r (subst (λ q. EmptyEdge c.args.nfa.now c.args.bytes.now c.args.at q r)
            (ap (λ n. get_or new n 0) here ∙ kept_at old new c.loop-place.place c.follow.ensures.grows inside ∙ sym c.get-state.ensures.item) edge)
      ];
      only = λ all q has. ⊎_elim (inv.only all q)
          (λ edge. skipped c.args.at c.get-state.result q (inv.only all c.get-state.result
          (subst (λ x. Contains old x) (sym c.get-state.ensures.item) (Contains-get_or old c.loop-place.place 0 inside))) edge)
          (c.follow.ensures.only q has);
      found = elim c.if-follow.branch [
        | then-follow w ↦ λ _. inr (
          c.get-state.result,
          still old new c.get-state.result c.follow.ensures.grows (subst (λ x. Contains old x) (sym c.get-state.ensures.item)
              (Contains-get_or old c.loop-place.place 0 inside)),
          c.follow.ensures.yes w.if-follow.true,
        )
        | else-follow w ↦ λ e. ⊎_elim inl (λ h. inr (h.0, still old new h.0 c.follow.ensures.grows h.1, h.2)) (inv.found (sym w.is_found-is ∙ e))
      ];
      none = elim c.if-follow.branch [
        | then-follow w ↦ λ e. let bad : true ≡ false = sym w.is_found-is ∙ e in cc
        | else-follow w ↦ λ e.
            let h = inv.none (sym w.is_found-is ∙ e) in (
              h.0,
              λ k lt is. elim (cases_lt k c.loop-place.place) [
                | inl before ↦ h.1 k before (subst (λ q. state_of c.args.nfa.now q ≡ Match)
                    (kept_at old new k c.follow.ensures.grows (omega (arith, before, inside))) is)
                | inr behind ↦
                    let here : k ≡ c.loop-place.place = omega (arith, behind, lt) in
                    c.follow.ensures.no w.if-follow.false (subst (λ q. state_of c.args.nfa.now q ≡ Match)
                    (ap (λ n. get_or new n 0) here ∙ kept_at old new c.loop-place.place c.follow.ensures.grows inside
                    ∙ sym c.get-state.ensures.item) is)
              ],
            )
      ];
    }

pub returns-clause-closed : goal.returns-clause-closed
returns-clause-closed c = λ q r has edge.
    let inv = c.loop-place.invariant in
    inv.closed has.0 r (omega (arith, has.1, c.loop-place-test.false, c.len.ensures.len))
    (subst (λ x. EmptyEdge c.args.nfa.now c.args.bytes.now c.args.at x r)
    (sym has.2 ∙ get_or_default c.loop-place.reached.items has.0 q 0 has.1) edge)

pub returns-clause-none : goal.returns-clause-none
returns-clause-none c = λ e.
    let h = c.loop-place.invariant.none e in (
      h.0,
      λ m. h.1 m.1.0 (omega (arith, m.1.1, c.loop-place-test.false, c.len.ensures.len))
          (subst (λ q. state_of c.args.nfa.now q ≡ Match) (sym (read_at c.loop-place.reached.items m.0 m.1)) m.2),
    )
