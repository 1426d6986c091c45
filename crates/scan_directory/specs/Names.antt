-- Which entries of a directory are listed.
use Rattle.std.specs.Prelude.{◌≡◌, ◌≢◌, ℕ, List, [], ◌∷◌, ◌++◌, All, map, Option, Some, None, option_to_list, ◌⊎◌, codes}
use Rattle.std.specs.Char.Escape.{escape_ascii}
use Rattle.std.specs.Io.KnownBytes.{Appends}
use Rattle.std.specs.List.{flat_map}
use Rattle.s6_script.specs.Writing.{AppendsFront}
use Rattle.servicedir.specs.ServiceName.{seen_of}
use Rattle.servicedir.specs.declared.service_name.Seen.{Seen}
use Rattle.servicedir.specs.declared.service_name.Seen.TheVariants as seen
use Rattle.svscan_core.specs.declared.entry.Entry.{Entry}

-- the names of these entries
abbrev pub listed_names : List Entry → List (List ℕ)
listed_names entries = map (λ e. e.name) entries

-- the name of the service that an entry of a directory is, if it is one
abbrev pub service_in : Seen → Option (List ℕ)
service_in (seen.Service name) = Some name
service_in seen.Hidden = None
service_in seen.Bad = None

-- the services among these names, in order
abbrev pub services_among : List (List ℕ) → List (List ℕ)
services_among [] = []
services_among (n ∷ names) = option_to_list (service_in (seen_of n)) ++ services_among names

-- names as a directory gives them, each with a 0 behind it
abbrev pub given_as : List (List ℕ) → List ℕ
given_as [] = []
given_as (n ∷ names) = n ++ 0 ∷ given_as names

-- none of these names has a 0 in it
abbrev pub AreNames : List (List ℕ) → Type 0
AreNames names = All (All (λ b. b ≢ 0)) names

-- where it is known what a directory gives, the services among its names are listed, in their order, and nothing else
abbrev pub AreListed : Option (List ℕ) → List (List ℕ) → Type 0
AreListed given listed = (names : List (List ℕ)) → AreNames names → given ≡ Some (given_as names) → listed ≡ services_among names

-- what is told of an entry whose name is no service's
abbrev pub bad_name_lines : List ℕ → List ℕ
bad_name_lines name = codes "svscan: BadName\nsvscan: '" ++ (flat_map escape_ascii name ++ codes "' is no name of a service\n")

-- the lines were written, or as much of them as the writer took
abbrev pub IsTold : Option (List ℕ) → Option (List ℕ) → List ℕ → Type 0
IsTold old new lines = Appends old new lines ⊎ AppendsFront old new lines
