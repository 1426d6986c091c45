-- Serials that are the same, and others.
use Rattle.std.proofs.Common.{◌≡◌, ℕ, true, false, ◌==◌, rules}
use Rattle.std.specs.Prelude.{nat_lt}

pub itself : (n : ℕ) → (n == n) ≡ true
itself n = search rules

pub later_other : (m n : ℕ) → nat_lt m n ≡ true → (n == m) ≡ false
later_other m n h = search rules

pub earlier_other : (m n : ℕ) → nat_lt m n ≡ true → (m == n) ≡ false
earlier_other m n h = search rules
