use Rattle.std.proofs.Common.{◌≡◌, ◌∙◌, ◌++◌, Bool, refl, sym, length, true, false, arith}
use Rattle.text_matcher.specs.Walks.{HasWalked, HasStood}
use Rattle.text_matcher.proofs.Walking.{at_place, found_at_end}
use Rattle.text_matcher.proofs.text_matcher.TextMatcher.has_match.Goals as goal

not_both : (standing assertions : Bool) → (standing ≡ true → assertions ≡ false) → assertions ≡ true → standing ≡ false
not_both true assertions h e = let bad : true ≡ false = sym e ∙ h refl in cc
not_both false assertions h e = refl

pub stand_beside-requires-clause-walked : goal.stand_beside-requires-clause-walked
stand_beside-requires-clause-walked c =
    let heard = c.self.inside.heard.items in
    let end : length heard ≡ c.len-end.result = omega (arith, c.len-end.ensures) in
    at_place (λ hay n. HasWalked c.self.inside.nfa hay n c.self.inside.behind.items c.self.inside.has_matched) heard c.deref.result.now
    (length heard) c.len-end.result (sym c.deref.ensures.value) end
    (c.self.invariant.walked (not_both c.self.inside.is_standing c.self.inside.has_assertions (λ e. (c.self.invariant.stood e).0) c.if-self.true))

pub returns-then-self-clause-found : goal.returns-then-self-clause-found
returns-then-self-clause-found c =
    let nfa = c.self.inside.nfa in
    let heard = c.self.inside.heard.items in
    let states = c.self.inside.behind.items ++ c.stand_beside.new.beside.items in
    let end : c.len-end.result ≡ length heard = omega (arith, c.len-end.ensures) in
    let stood = at_place (λ hay n. HasStood nfa hay n states c.stand_beside.result) c.deref.result.now heard c.len-end.result (length heard)
    c.deref.ensures.value end c.stand_beside.ensures.stood in
    rw (← c.self.view_is) (found_at_end nfa _ heard states c.stand_beside.result c.self.invariant.matches c.self.invariant.ascii stood)

pub stand_once-self-inside-requires-clause-walked : goal.stand_once-self-inside-requires-clause-walked
stand_once-self-inside-requires-clause-walked c = λ e.
    let heard = c.self.inside.heard.items in
    let end : length heard ≡ c.len-end.result = omega (arith, c.len-end.ensures) in
    at_place (λ hay n. HasWalked c.self.inside.nfa hay n c.self.inside.behind.items c.self.inside.has_matched) heard c.deref-2.result.now
    (length heard) c.len-end.result (sym c.deref-2.ensures.value) end (c.self.invariant.walked e)

pub stand_once-self-inside-requires-clause-stood : goal.stand_once-self-inside-requires-clause-stood
stand_once-self-inside-requires-clause-stood c = λ e.
    let heard = c.self.inside.heard.items in
    let end : length heard ≡ c.len-end.result = omega (arith, c.len-end.ensures) in
    at_place (λ hay n. HasStood c.self.inside.nfa hay n c.self.inside.behind.items c.self.inside.has_matched) heard c.deref-2.result.now
    (length heard) c.len-end.result (sym c.deref-2.ensures.value) end (c.self.invariant.stood e).1

pub invariant_of-self-2 : goal.invariant_of-self-2
invariant_of-self-2 c =
    let heard = c.self.inside.heard.items in
    let states = c.stand_once-self-inside.new.states.items in
    let now = c.stand_once-self-inside.result in
    let end : c.len-end.result ≡ length heard = omega (arith, c.len-end.ensures) in
    record {
      matches = c.self.invariant.matches;
      ascii = c.self.invariant.ascii;
      behind = c.stand_once-self-inside.ensures.count ∙ c.self.invariant.behind;
      spare = c.self.invariant.spare;
      plain = c.self.invariant.plain;
      walked = λ e. let bad : true ≡ false = e in cc;
      stood = λ _. (
        c.if-self.false,
        at_place (λ hay n. HasStood c.self.inside.nfa hay n states now) c.deref-2.result.now heard
            c.len-end.result (length heard) c.deref-2.ensures.value end c.stand_once-self-inside.ensures.stood,
      );
    }

pub returns-clause-found : goal.returns-clause-found
returns-clause-found c =
    let nfa = c.self.inside.nfa in
    let heard = c.self.inside.heard.items in
    let states = c.stand_once-self-inside.new.states.items in
    let now = c.stand_once-self-inside.result in
    let end : c.len-end.result ≡ length heard = omega (arith, c.len-end.ensures) in
    let stood = at_place (λ hay n. HasStood nfa hay n states now) c.deref-2.result.now heard c.len-end.result (length heard)
    c.deref-2.ensures.value end c.stand_once-self-inside.ensures.stood in
    rw (← c.self.view_is) (found_at_end nfa _ heard states now c.self.invariant.matches c.self.invariant.ascii stood)
