-- What a listing of the scan directory says.
use Rattle.std.specs.Prelude.{ℕ, List, [], Bool, fold, map, find, Option, option_and_then, bytes_eq}
use Rattle.std.specs.List.{list_any}
use Rattle.std.specs.Ordering.{nat_cmp}
use Rattle.std.specs.Cmp.Lexicographic.{slice_cmp}
use Rattle.std.specs.BTreeSet.{insert_key}
use Rattle.servicedir.specs.declared.config.Config.{Config}
use Rattle.svscan_core.specs.declared.entry.Entry.{Entry}

-- the names of a listing
abbrev pub names_in : List Entry → List (List ℕ)
names_in listing = map (λ e. e.name) listing

-- a listing has an entry of the name
abbrev pub has_entry : List Entry → List ℕ → Bool
has_entry listing name = list_any (λ e. bytes_eq name e.name) listing

-- the configuration that was read of the directory of a name
abbrev pub listed_config : List Entry → List ℕ → Option Config
listed_config listing name = option_and_then (λ e. e.config) (find (λ e. bytes_eq name e.name) listing)

-- the names in the order of their bytes
abbrev pub in_byte_order : List (List ℕ) → List (List ℕ)
in_byte_order names = fold (insert_key (slice_cmp nat_cmp)) [] names
