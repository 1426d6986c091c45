use Rattle.std.proofs.Common.{ℕ, List, ◌∷◌, ◌++◌, ap, sym, ◌∙◌, arith}
use Rattle.std.proofs.lemmas.Bool.Decides.{nat_tests}
use Rattle.step_codes.proofs.OnSuccess.{adds_all}
use Rattle.step_codes.proofs.NumberCodes.{middle_code, large_code}
use Rattle.step_codes.proofs.numbers.put_wide.Goals as goal

pub returns-then-number-lt4294967296-clause-added :
    goal.returns-then-number-lt4294967296-clause-added
returns-then-number-lt4294967296-clause-added c =
    adds_all _ _ _ _ c.put_behind.ensures.added (λ rest.
    ap (λ (bytes : List ℕ). 251 ∷ (bytes ++ rest)) c.write_u32.ensures
    ∙ sym (middle_code c.args.number rest (grind (arith, nat_tests, c.requires.wide)) (grind (arith, nat_tests))))

pub returns-else-number-lt4294967296-clause-added :
    goal.returns-else-number-lt4294967296-clause-added
returns-else-number-lt4294967296-clause-added c =
    adds_all _ _ _ _ c.put_behind-else-number-lt4294967296.ensures.added (λ rest.
    ap (λ (bytes : List ℕ). 252 ∷ (bytes ++ rest)) c.write_u64.ensures
    ∙ sym (large_code c.args.number rest (grind (arith, nat_tests, c.requires.wide)) (grind (arith, nat_tests))))
