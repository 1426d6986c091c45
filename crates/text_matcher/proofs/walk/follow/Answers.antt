use Rattle.std.proofs.Common.{◌∙◌, sym, ap, ⊎_elim, inl, inr}
use Rattle.regex_nfa.specs.Paths.{by_first, by_second, by_save, by_look}
use Rattle.regex_nfa.specs.declared.state.State.TheVariants.{Split, Save, Look}
use Rattle.text_matcher.proofs.ListedStates.{grown, grows_on, added}
use Rattle.text_matcher.proofs.walk.follow.Goals as goal

pub returns-in-Split-clause-grows : goal.returns-in-Split-clause-grows
returns-in-Split-clause-grows c =
    grows_on _ _ _ (grown _ _ c.in-Split.first c.add.ensures.items) (grown _ _ c.in-Split.second c.add-in-Split.ensures.items)

pub returns-in-Split-clause-only : goal.returns-in-Split-clause-only
returns-in-Split-clause-only c = λ r h.
    let is = sym c.state.ensures.is ∙ c.in-Split.is in
    ⊎_elim
    (λ before. ⊎_elim inl (λ e. inr (by_first c.in-Split.second (is ∙ ap (λ q. Split q c.in-Split.second) e)))
    (added _ _ c.in-Split.first r c.add.ensures.items before))
    (λ e. inr (by_second c.in-Split.first (is ∙ ap (λ q. Split c.in-Split.first q) e)))
    (added _ _ c.in-Split.second r c.add-in-Split.ensures.items h)

pub returns-in-Save-clause-only : goal.returns-in-Save-clause-only
returns-in-Save-clause-only c = λ r h.
    let is = sym c.state.ensures.is ∙ c.in-Save.is in
    ⊎_elim inl (λ e. inr (by_save c.in-Save.slot (is ∙ ap (λ q. Save c.in-Save.slot q) e))) (added _ _ c.in-Save.next r c.add-in-Save.ensures.items h)

pub returns-then-holds-clause-only : goal.returns-then-holds-clause-only
returns-then-holds-clause-only c = λ r h.
    let is = sym c.state.ensures.is ∙ c.in-Look.is in
    ⊎_elim inl (λ e. inr (by_look c.in-Look.look (is ∙ ap (λ q. Look c.in-Look.look q) e) (sym c.holds.ensures ∙ c.if-holds.true)))
    (added _ _ c.in-Look.next r c.add-then-holds.ensures.items h)
