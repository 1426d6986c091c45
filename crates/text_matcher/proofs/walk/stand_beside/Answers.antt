use Rattle.std.proofs.Common.{◌++◌, ⊎_elim, inl, inr}
use Rattle.std.proofs.lemmas.List.Elements.{Contains-append_left, Contains-append_right, Contains-append_cases}
use Rattle.text_matcher.proofs.ListedStates.{still}
use Rattle.text_matcher.proofs.Walking.{stands_there}
use Rattle.text_matcher.proofs.walk.stand_beside.Goals as goal

pub returns-clause-stood : goal.returns-clause-stood
returns-clause-stood c =
    let behind = c.args.behind.now.items in
    let first = c.follow_all-is_found.new.beside.items in
    let beside = c.close.new.reached.items in
    let followed = c.follow_all-is_found.ensures in
    stands_there c.args.nfa.now c.args.bytes.now c.args.at behind (behind ++ beside) c.args.has_matched c.requires.walked
    (λ q has. Contains-append_left behind beside q has)
    (λ q r has edge. Contains-append_right behind beside r (⊎_elim
    (λ h. still first beside r c.close.ensures.grows (followed.all q r h edge))
    (λ h. c.close.ensures.closed q r h edge)
    (Contains-append_cases behind beside q has)))
    c.close.result
    (λ all q has. ⊎_elim (all q) (c.close.ensures.only (followed.only all) q) (Contains-append_cases behind beside q has))
    (λ e. ⊎_elim
    (λ before. ⊎_elim inl (λ m. inr (m.0, Contains-append_left behind beside m.0 m.1, m.2)) (followed.found before))
    (λ m. inr (m.0, Contains-append_right behind beside m.0 m.1, m.2))
    (c.close.ensures.found e))
    (λ e.
    let h = c.close.ensures.none e in
    let g = followed.none h.0 in
    (g.0, λ m. ⊎_elim (λ has. g.1 (m.0, has, m.2)) (λ has. h.1 (m.0, has, m.2)) (Contains-append_cases behind beside m.0 m.1)))
