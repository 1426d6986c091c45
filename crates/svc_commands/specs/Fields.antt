-- The names of the fields of a status.
use Rattle.std.specs.Prelude.{ℕ, List, [], ◌∷◌, Option, codes, find}
use Rattle.std.specs.Str.{bytes_eq}
use Rattle.s6_events.specs.declared.field.Field.{Field}
use Rattle.s6_events.specs.declared.field.Field.TheVariants.{Up, WantedUp, NormallyUp, Ready, Paused, Pid, ExitCode}
use Rattle.s6_events.specs.declared.field.Field.TheVariants.{Signal, UpDownFor, ReadyFor}

-- the name by which a field is asked for
abbrev pub field_name : Field → List ℕ
field_name Up = codes "up"
field_name WantedUp = codes "wantedup"
field_name NormallyUp = codes "normallyup"
field_name Ready = codes "ready"
field_name Paused = codes "paused"
field_name Pid = codes "pid"
field_name ExitCode = codes "exitcode"
field_name Signal = codes "signum"
field_name UpDownFor = codes "updownfor"
field_name ReadyFor = codes "readyfor"

-- all fields
abbrev pub fields : List Field
fields = Up ∷ WantedUp ∷ NormallyUp ∷ Ready ∷ Paused ∷ Pid ∷ ExitCode ∷ Signal ∷ UpDownFor ∷ ReadyFor ∷ []

-- the field that is asked for by this name
unfoldable pub field_named : List ℕ → Option Field
field_named word = find (λ field. bytes_eq (field_name field) word) fields
