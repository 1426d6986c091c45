use Rattle.std.proofs.Common.{◌≡◌, ◌∙◌, sym, ap, arith, length, true, false, get_or}
use Rattle.std.proofs.lemmas.List.{length-replicate}
use Rattle.regex_vm.specs.Bits.{members}
use Rattle.text_matcher.proofs.ListedStates.{none_marked, unmarked}
use Rattle.text_matcher.proofs.state_list.StateList.new.Goals as goal

pub invariant_of-result : goal.invariant_of-result
invariant_of-result c =
    record {
      counted = ap members c.in_ok-marks.ensures ∙ (none_marked c.args.count ∙ sym (ap length c.in_ok-states.ensures.items));
      room = omega (arith, ap length c.in_ok-marks.ensures, length-replicate c.args.count false, c.in_ok-states.ensures.capacity);
      marked = λ q h. let bad : false ≡ true = sym (unmarked c.args.count q) ∙ (ap (λ m. get_or m q false) (sym c.in_ok-marks.ensures) ∙ h) in cc;
      within = λ k d lt. absurd (omega (arith, lt, ap length c.in_ok-states.ensures.items));
    }
