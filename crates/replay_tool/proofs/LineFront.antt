-- A line of which a writer got some.
use Rattle.std.proofs.Common.{◌≡◌, ℕ, List, length, take, subst, sym, arith, Result, Ok, Err}
use Rattle.std.specs.Prelude.{Option, OnOk, IfErr}
use Rattle.std.specs.Io.KnownBytes.{Appends}
use Rattle.std.proofs.lemmas.List.{take_all}
use Rattle.s6_script.specs.Writing.{AppendsFront}
use Rattle.s6_script.specs.declared.writing.WriteFault.{WriteFault}
use Rattle.s6_script.specs.declared.writing.WriteFault.TheVariants.{Write}

-- the writer got the line, or its front
pub line_front : (answer : Result (Unit {0}) WriteFault) (old new : Option (List ℕ)) (bytes line : List ℕ) → bytes ≡ line
    → OnOk answer (Appends old new bytes) → IfErr answer (λ fault. (fault ≡ Write) × AppendsFront old new bytes)
    → (n : ℕ) × Appends old new (take n line)
line_front (Ok done) old new bytes line same whole part =
    (length line, subst (Appends old new) (sym (take_all (length line) line (omega arith))) (subst (Appends old new) same whole))
line_front (Err fault) old new bytes line same whole part =
    (part.1.0, subst (λ (text : List ℕ). Appends old new (take part.1.0 text)) same part.1.2)
