-- So far the value is that of the digits before, and no more than it may be.
use Rattle.std.proofs.Common.{◌≡◌, ◌≤◌, take}
use Rattle.servicedir.specs.Number.{value_of_digits}
use Rattle.servicedir.proofs.number.value_up_to.Given as goal

abbrev pub invariant-loop-digit : goal.invariant-loop-digit
invariant-loop-digit l = (l.value ≡ value_of_digits (take l.digit-index l.digits)) × (l.value ≤ l.most)
