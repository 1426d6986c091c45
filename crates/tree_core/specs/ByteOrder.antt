-- The order in which a scan takes names.
use Rattle.std.specs.Prelude.{◌≡◌, ℕ, List}
use Rattle.std.specs.List.Sorted.{IsStrictlySortedBy}
use Rattle.std.specs.Ordering.{nat_cmp}
use Rattle.std.specs.Cmp.Lexicographic.{slice_cmp}
use Rattle.svscan_core.specs.Names.{lists}

-- these names are those of the listing, each once, in the order of their bytes
pub record IsInByteOrder (listing names : List (List ℕ)) : Type 0 where
  pub rise : IsStrictlySortedBy (slice_cmp nat_cmp) names
  pub same : (name : List ℕ) → lists names name ≡ lists listing name
