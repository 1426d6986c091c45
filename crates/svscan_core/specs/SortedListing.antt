-- A listing in the order of its names' bytes, as it is stored.
use Rattle.std.specs.Prelude.{◌≡◌, ℕ, List, map, Option}
use Rattle.servicedir.specs.declared.config.Config.{Config}
use Rattle.svscan_core.specs.declared.entry.Entry.{Entry}
use Rattle.svscan_core.specs.declared.listing.SortedListing.TheInside.{Inside}
use Rattle.svscan_core.specs.Listing.{has_entry, listed_config}

-- a name with the configuration that was read of its directory
abbrev pub entry_of : List ℕ × Option Config → Entry
entry_of found = record { name = found.0; config = found.1 }

-- its entries
abbrev pub entries_in : List (List ℕ × Option Config) → List Entry
entries_in found = map entry_of found

abbrev pub sorted_entries : {A : Type 0} → Inside A → List Entry
sorted_entries s = entries_in s.found.entries

-- two listings say the same of every name
pub record AreAlike (listing other : List Entry) : Type 0 where
  pub has : (name : List ℕ) → has_entry listing name ≡ has_entry other name
  pub read : (name : List ℕ) → listed_config listing name ≡ listed_config other name
