use Rattle.std.proofs.Common.{◌≡◌, ℕ, ◌<◌, ◌≤◌, ◌-◌, length}
use Rattle.std.specs.Prelude.{Some, slice_get}
use Rattle.svscan_core.specs.Table.{charts_of, serials_of}
use Rattle.svscan_core.proofs.place.place_of.Given as goal

abbrev pub invariant-loop-low : goal.invariant-loop-low
invariant-loop-low g l = record {
  order : l.low ≤ l.high;
  bound : l.high ≤ length l.slots.services;
  below : (place n : ℕ) → slice_get (serials_of (charts_of l.slots.services)) place ≡ Some n → place < l.low → n < l.sid;
  above : (place n : ℕ) → slice_get (serials_of (charts_of l.slots.services)) place ≡ Some n → l.high ≤ place → l.sid < n;
}

abbrev pub decreases-loop-low : goal.decreases-loop-low
decreases-loop-low g l = l.high - l.low
