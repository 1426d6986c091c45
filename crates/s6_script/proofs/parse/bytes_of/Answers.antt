use Rattle.std.proofs.Common.{◌≡◌, ◌∙◌, ap, sym, length, arith, rules, true, false, is_err}
use Rattle.hex.specs.Hex.{lower_digits}
use Rattle.hex.proofs.HexLemmas.{length-encode_with}
use Rattle.s6_script.proofs.Hexadecimal.{bytes_back}
use Rattle.s6_script.proofs.parse.bytes_of.Goals as goal
use Rattle.s6_script.proofs.parse.bytes_of.Goals.{then-count-eq0-via-then-count-eq0, then-count-eq0-via-else-count-eq0+then-is_err}

pub returns-then-count-eq0-clause-spelled : goal.returns-then-count-eq0-clause-spelled
returns-then-count-eq0-clause-spelled c = λ bytes some few fits spelled.
    let long = length-encode_with lower_digits bytes in
    let longer = ap length spelled in
    elim c.then-count-eq0.branch [
      | then-count-eq0-via-then-count-eq0 w ↦ absurd (omega (arith, long, longer))
      | then-count-eq0-via-else-count-eq0+then-is_err w ↦
          let read = bytes_back _ bytes _ _ _ spelled fits (omega (arith, long, longer)) w.decode_to_slice.ensures.value in
          let no : true ≡ false = sym w.if-is_err.true ∙ (w.is_err.ensures.value ∙ ap is_err read.0) in
          cc no
    ]

pub returns-clause-spelled : goal.returns-clause-spelled
returns-clause-spelled c = λ bytes some few fits spelled.
    let long = length-encode_with lower_digits bytes in
    let longer = ap length spelled in
    let read = bytes_back _ bytes _ _ _ spelled fits (omega (arith, long, longer)) c.decode_to_slice.ensures.value in
    search (read, rules)
