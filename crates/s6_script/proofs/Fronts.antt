-- Writes that follow each other, of which the last failed.
use Rattle.std.proofs.Common.{ℕ, ◌+◌, List, ◌++◌, length, take, sym, subst, arith}
use Rattle.std.specs.Prelude.{Option}
use Rattle.std.specs.Io.KnownBytes.{Appends}
use Rattle.std.proofs.KnownBytes.{Appends-trans}
use Rattle.std.proofs.Math.Seq.{take-append-add}
use Rattle.std.proofs.lemmas.List.{length-append}
use Rattle.s6_script.specs.Writing.{AppendsFront}

-- some of the last part was written behind all before it
pub front_more : (x y z : Option (List ℕ)) (xs ys : List ℕ) → Appends x y xs → AppendsFront y z ys → AppendsFront x z (xs ++ ys)
front_more x y z xs ys p q = (
  length xs + q.0,
  omega (arith, q.1, length-append xs ys),
  subst (Appends x z) (sym (take-append-add xs ys q.0)) (Appends-trans x y z xs (take q.0 ys) p q.2),
)
