use Rattle.std.proofs.Common.{◌≡◌, ◌∙◌, sym, ap, arith, length, true, false, get_or}
use Rattle.std.proofs.lemmas.List.{length-replicate}
use Rattle.regex_vm.specs.Bits.{members}
use Rattle.text_matcher.proofs.ListedStates.{none_marked, unmarked}
use Rattle.text_matcher.proofs.state_list.StateList.clear.Goals as goal

pub invariant_of-self : goal.invariant_of-self
invariant_of-self c =
    let count = length c.self.inside.marks in
    record {
      counted = ap members c.clear-2.ensures ∙ (none_marked count ∙ sym (ap length c.clear.ensures.items));
      room = omega (arith, ap length c.clear-2.ensures, length-replicate count false, c.clear.ensures.capacity, c.self.invariant.room);
      marked = λ q h. let bad : false ≡ true = sym (unmarked count q) ∙ (ap (λ m. get_or m q false) (sym c.clear-2.ensures) ∙ h) in cc;
      within = λ k d lt. absurd (omega (arith, lt, ap length c.clear.ensures.items));
    }
