-- The event directory that a word of a command line names.
use Rattle.std.specs.Prelude.{ℕ, ◌-◌, ◌≤◌, List, Option, Some, None, codes, length, take, drop, if◌then◌else◌}
use Rattle.std.specs.Str.{bytes_eq}
use Rattle.s6_events.specs.Name.{is_name}
use Rattle.tree_core.specs.declared.input.Target.{Target}
use Rattle.tree_core.specs.declared.input.Target.TheVariants.{Service, Directory}

-- what comes before `/event` in a word that ends with it; None for any other word
abbrev pub before_event : List ℕ → Option (List ℕ)
before_event word = if bytes_eq (drop (length word - 6) word) (codes "/event") then Some (take (length word - 6) word) else None

-- the event directory of the service of this name
abbrev pub service_named : Option (List ℕ) → Option Target
service_named None = None
service_named (Some name) = if is_name name then Some (Service name) else None

-- NAME is a free event directory, NAME/event that of a service
abbrev pub target_of : List ℕ → Option Target
target_of word = if is_name word then Some (Directory word) else service_named (before_event word)

-- a byte that is printed, or a space
abbrev pub IsPrintable : ℕ → Type 0
IsPrintable byte = (32 ≤ byte) × (byte ≤ 126)
