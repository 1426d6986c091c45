use Rattle.std.proofs.Common.{◌≡◌, ◌++◌, ℕ, List, Some}
use Rattle.std.specs.Io.Iter.{split_byte, split_known_bytes}
use Rattle.scan_directory.specs.Names.{AreNames, given_as, listed_names, services_among}
use Rattle.scan_directory.proofs.listing.read_names.Given as goal

-- of the names that the directory gives some are listed, and the others are still to come
abbrev pub invariant-loop-name : goal.invariant-loop-name
invariant-loop-name g l =
    (split_byte l.name-iterator ≡ 0)
    × ((names : List (List ℕ)) → AreNames names → g.N.Read.remaining l.fn.names ≡ Some (given_as names)
    → (done : List (List ℕ)) × (rest : List (List ℕ)) × (names ≡ done ++ rest)
    × (split_known_bytes g.N.Read.remaining l.name-iterator ≡ Some (given_as rest))
    × (listed_names l.read.entries.items ≡ services_among done))
