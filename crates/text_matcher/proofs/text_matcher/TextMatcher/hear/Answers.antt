use Rattle.std.proofs.Common.{◌≡◌, ◌∙◌, ◌++◌, ◌∷◌, ◌<◌, ◌+◌, [], List, ℕ, sym, ap, subst, length, All, true, false, arith}
use Rattle.std.proofs.lemmas.List.{length_push}
use Rattle.std.proofs.lemmas.List.Elements.{All-push}
use Rattle.regex_nfa.specs.States.{byte_below}
use Rattle.text_matcher.specs.StateLists.{StatesListed}
use Rattle.text_matcher.specs.Walks.{HasWalked, HasStood}
use Rattle.text_matcher.proofs.Walking.{walk_goes_on, stood_goes_on, walks_on, last_letter, at_place}
use Rattle.text_matcher.proofs.text_matcher.TextMatcher.hear.Goals as goal

pub invariant_of-self : goal.invariant_of-self
invariant_of-self c =
    let known = c.self.invariant in
    let nfa = c.self.inside.nfa in
    let behind = c.self.inside.behind.items in
    let matched = c.self.inside.has_matched in
    let is = sym c.in_err-push.ensures.items in
    record {
      matches = known.matches;
      ascii = subst (All (λ x. x < 128)) is known.ascii;
      behind = known.behind;
      spare = known.spare;
      plain = known.plain;
      walked = λ e. subst (λ (h : List ℕ). HasWalked nfa h (length h) behind matched) is (known.walked e);
      stood = λ e. ((known.stood e).0, subst (λ (h : List ℕ). HasStood nfa h (length h) behind matched) is (known.stood e).1);
    }

pub stand_once-self-inside-requires-clause-walked : goal.stand_once-self-inside-requires-clause-walked
stand_once-self-inside-requires-clause-walked c = λ e.
    let nfa = c.self.inside.nfa in
    let old = c.self.inside.heard.items in
    let b = c.args.letter in
    let behind = c.self.inside.behind.items in
    let matched = c.self.inside.has_matched in
    let read : c.deref.result.now ≡ old ++ b ∷ [] = c.deref.ensures.value ∙ c.in_ok-push.ensures.items in
    let here : length old ≡ c.len-place.result = omega (arith, c.len-place.ensures) in
    let ascii : All (λ x. x < 128) (old ++ b ∷ []) = All-push (λ x. x < 128) old b c.self.invariant.ascii c.requires in
    at_place (λ hay n. HasWalked nfa hay n behind matched) (old ++ b ∷ []) c.deref.result.now (length old) c.len-place.result (sym read) here
    (walk_goes_on old (b ∷ []) ascii nfa behind matched (c.self.invariant.walked e))

pub stand_once-self-inside-requires-clause-stood : goal.stand_once-self-inside-requires-clause-stood
stand_once-self-inside-requires-clause-stood c = λ e.
    let nfa = c.self.inside.nfa in
    let old = c.self.inside.heard.items in
    let b = c.args.letter in
    let behind = c.self.inside.behind.items in
    let matched = c.self.inside.has_matched in
    let read : c.deref.result.now ≡ old ++ b ∷ [] = c.deref.ensures.value ∙ c.in_ok-push.ensures.items in
    let here : length old ≡ c.len-place.result = omega (arith, c.len-place.ensures) in
    let ascii : All (λ x. x < 128) (old ++ b ∷ []) = All-push (λ x. x < 128) old b c.self.invariant.ascii c.requires in
    let known = c.self.invariant.stood e in
    at_place (λ hay n. HasStood nfa hay n behind matched) (old ++ b ∷ []) c.deref.result.now (length old) c.len-place.result (sym read) here
    (stood_goes_on old (b ∷ []) ascii nfa behind matched (c.self.invariant.plain known.0) known.1)

pub invariant_of-self-2 : goal.invariant_of-self-2
invariant_of-self-2 c =
    let nfa = c.self.inside.nfa in
    let old = c.self.inside.heard.items in
    let b = c.args.letter in
    let new = old ++ b ∷ [] in
    let bytes = c.deref.result.now in
    let place = c.len-place.result in
    let states = c.stand_once-self-inside.new.states.items in
    let next = c.read_over.new.behind.items in
    let now = c.stand_once-self-inside.result in
    let is : c.push.new.self.items ≡ new = c.in_ok-push.ensures.items in
    let read : bytes ≡ new = c.deref.ensures.value ∙ is in
    let here : place ≡ length old = omega (arith, c.len-place.ensures) in
    let ascii : All (λ x. x < 128) new = All-push (λ x. x < 128) old b c.self.invariant.ascii c.requires in
    let letter =
    ap (byte_below bytes (length bytes)) here ∙ (ap (λ (h : List ℕ). byte_below h (length h) (length old)) read ∙ last_letter old b) in
    let walked : HasWalked nfa bytes (place + 1) next now =
    walks_on nfa bytes place b states next now c.stand_once-self-inside.ensures.stood letter c.read_over.ensures.only c.read_over.ensures.all in
    let long : place + 1 ≡ length new = omega (arith, here, length_push old b) in
    let at_end = at_place (λ hay n. HasWalked nfa hay n next now) bytes new (place + 1) (length new) read long walked in
    record {
      matches = c.self.invariant.matches;
      ascii = subst (All (λ x. x < 128)) (sym is) ascii;
      behind = ap (λ (l : StatesListed). l.count) c.swap.ensures.x_after ∙ (c.read_over.ensures.count ∙ c.self.invariant.spare);
      spare = ap (λ (l : StatesListed). l.count) c.swap.ensures.y_after ∙ (c.stand_once-self-inside.ensures.count ∙ c.self.invariant.behind);
      plain = c.self.invariant.plain;
      walked = λ _.
          subst (λ (l : StatesListed). HasWalked nfa c.push.new.self.items (length c.push.new.self.items) l.items now) (sym c.swap.ensures.x_after)
          (subst (λ (h : List ℕ). HasWalked nfa h (length h) next now) (sym is) at_end);
      stood = λ e. let bad : false ≡ true = e in cc;
    }
