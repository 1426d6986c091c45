-- The line of `svstat`.
use Rattle.std.specs.Prelude.{ℕ, List, [], ◌∷◌, ◌++◌}
use Rattle.std.specs.List.{flat_map}
use Rattle.tool_lines.specs.Words.{word_in}
use Rattle.s6_events.specs.declared.field.Field.{Field}
use Rattle.s6_events.specs.declared.field.Field.TheVariants as field

-- which word of a row a field is, counted from 0: the fields come after `row`, the serial and the name
abbrev pub place_of : Field → ℕ
place_of field.Up = 3
place_of field.WantedUp = 4
place_of field.NormallyUp = 5
place_of field.Ready = 6
place_of field.Paused = 7
place_of field.Pid = 8
place_of field.ExitCode = 9
place_of field.Signal = 10
place_of field.UpDownFor = 11
place_of field.ReadyFor = 12

-- a field of a row, or no byte where the row has no such word
abbrev pub field_in : List ℕ → Field → List ℕ
field_in row f = word_in row (place_of f)

-- the fields that are asked for, with one space between each two
abbrev pub status_line : List ℕ → List Field → List ℕ
status_line row [] = []
status_line row (f ∷ more) = field_in row f ++ flat_map (λ g. 32 ∷ field_in row g) more
