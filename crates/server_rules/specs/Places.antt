-- Who each actor is.
use Rattle.std.specs.Prelude.{ℕ, ◌+◌, ◌-◌, ◌==◌, Option, Some, None, nat_lt, if◌then◌else◌}
use Rattle.server_rules.specs.declared.places.Place.{Place}
use Rattle.server_rules.specs.declared.places.Place.TheVariants.{Scanner, Lane, Client}

-- actor 0 hands in scans and ticks; actors 1 to 4 hand in the reports of a lane each, and actors 5 to 15 the requests of a connection each
abbrev pub place_of : ℕ → Place
place_of actor = if actor == 0 then Scanner else if nat_lt actor 5 then Lane (actor - 1) else Client (actor - 5)

-- the actor of the connection on this slot; there are 11 slots
abbrev pub client_actor : ℕ → Option ℕ
client_actor slot = if nat_lt slot 11 then Some (5 + slot) else None
