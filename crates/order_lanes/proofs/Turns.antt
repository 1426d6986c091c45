-- A turn at a desk.
use Rattle.std.proofs.Common.{◌≡◌, ℕ, List, [], ◌∷◌, ◌++◌, length, Option, Some, None, IsTrue, nat_eq, is_some, false, refl, sym, ap, ◌∙◌, arith}
use Rattle.std.proofs.Common.{rules}
use Rattle.std.proofs.lemmas.List.{append-nil, length-append}
use Rattle.s6_events.specs.declared.order.Order.{Order}
use Rattle.order_lanes.specs.Desk.{DeskView, held_list, HoldsNext, AsksNext}

nothing_held : (held : Option Order) → is_some held ≡ false → held_list held ≡ []
nothing_held None e = refl
nothing_held (Some o) e = absurd (cc e)

-- where none was held, the ring's next order is next
pub takes_next : (order : Order) (old new : DeskView) → is_some old.held ≡ false → new.taken ≡ old.taken ++ order ∷ [] → new.held ≡ Some order
    → new.asked ≡ old.asked → HoldsNext order old new
takes_next order old new none taken held asked =
    record {
      more = order ∷ [];
      taken = taken;
      next = ap (λ (os : List Order). os ++ order ∷ []) (nothing_held old.held none);
      held = held;
      asked =
          asked;
    }

-- the order that is held is taken by the backend
pub asks_held : (order : Order) (old mid new : DeskView) → HoldsNext order old mid → new.taken ≡ mid.taken → new.asked ≡ mid.asked ++ order ∷ []
    → new.held ≡ None → AsksNext order old new
asks_held order old mid new holds taken asked held =
    record {
      more = holds.more;
      taken = taken ∙ holds.taken;
      next = holds.next;
      held = held;
      asked =
          asked ∙ ap (λ (os : List Order). os ++ order ∷ []) holds.asked;
    }

-- what was asked is all that was sent, just where none is held and none is left
pub all_asked : (asked before taken known sent : List Order) (held : Option Order) → is_some held ≡ false
    → asked ++ held_list held ≡ before ++ taken → taken ++ known ≡ sent → (n : ℕ) → n ≡ length known
    → (IsTrue (nat_eq n 0) → asked ≡ before ++ sent) × (asked ≡ before ++ sent → IsTrue (nat_eq n 0))
all_asked asked before taken known sent (Some o) none carried went n is = absurd (cc none)
all_asked asked before taken [] sent None none carried went n is =
    (λ _. sym (append-nil asked) ∙ (carried ∙ ap (λ (os : List Order). before ++ os) (sym (append-nil taken) ∙ went)), λ _. ap (λ k. nat_eq k 0) is)
all_asked asked before taken (o ∷ known) sent None nothing carried went n is = (
  λ none. absurd (grind (arith, none, is, rules)),
  λ done. absurd (let a = ap length carried in let b = ap length went in let d = ap length done in
      let la = length-append asked [] in let lb = length-append before taken in let lc = length-append taken (o ∷ known) in let ld =
      length-append before sent in grind (arith, rules)),
)

pub not_all_asked : (asked before taken known sent : List Order) (o : Order) → asked ++ o ∷ [] ≡ before ++ taken → taken ++ known ≡ sent
    → asked ≡ before ++ sent → ⊥
not_all_asked asked before taken known sent o carried went done =
    let a = ap length carried in let b = ap length went in let d = ap length done in
    let la = length-append asked (o ∷ []) in let lb = length-append before taken in let lc = length-append taken known in let ld =
    length-append before sent in grind (arith, rules)
