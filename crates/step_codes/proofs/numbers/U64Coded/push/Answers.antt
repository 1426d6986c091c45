use Rattle.std.proofs.Common.{sym, arith}
use Rattle.std.proofs.lemmas.Bool.Decides.{nat_tests}
use Rattle.step_codes.proofs.OnSuccess.{adds_as}
use Rattle.step_codes.proofs.NumberCodes.{small_code}
use Rattle.step_codes.proofs.numbers.U64Coded.push.Goals as goal

pub returns-then-number-lt251-clause-added : goal.returns-then-number-lt251-clause-added
returns-then-number-lt251-clause-added c =
    adds_as _ _ _ _ _ c.push.ensures.added (λ rest. sym (small_code c.args.self.now rest (grind (arith, nat_tests))))
