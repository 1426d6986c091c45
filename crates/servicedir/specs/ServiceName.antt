-- What an entry of a scan directory is by its name.
use Rattle.std.specs.Prelude.{ℕ, List, Bool, ◌&&◌, ◌==◌, nat_le, length, slice_index, if◌then◌else◌}
use Rattle.s6_events.specs.Name.{is_name}
use Rattle.servicedir.specs.declared.service_name.Seen.{Seen}
use Rattle.servicedir.specs.declared.service_name.Seen.TheVariants.{Service, Hidden, Bad}

-- the text begins with a dot
abbrev pub is_hidden : List ℕ → Bool
is_hidden text = nat_le 1 (length text) && (slice_index text 0 == 46)

-- hidden where it begins with a dot; else the service of this name, or bad where it is no name
abbrev pub seen_of : List ℕ → Seen
seen_of text = if is_hidden text then Hidden else if is_name text then Service text else Bad
