use Rattle.std.proofs.Common.{sym, arith}
use Rattle.std.proofs.lemmas.Bool.Decides.{nat_tests}
use Rattle.step_codes.proofs.OnSuccess.{adds_all, adds_one}
use Rattle.step_codes.proofs.NumberCodes.{small_code}
use Rattle.step_codes.proofs.numbers.put_number.Goals as goal

pub returns-then-number-lt251-clause-added : goal.returns-then-number-lt251-clause-added
returns-then-number-lt251-clause-added c =
    adds_all _ _ _ _ (adds_one _ _ c.args.number c.push_reserved.ensures.items)
    (λ rest. sym (small_code c.args.number rest (grind (arith, nat_tests))))
