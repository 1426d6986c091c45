-- What a line of the server says of a service, as `list` reads it.
use Rattle.std.specs.Prelude.{◌≡◌, ◌==◌, ◌+◌, ℕ, List, [], Option, Some, None, drop, take, if◌then◌else◌}
use Rattle.std.specs.List.{position}
use Rattle.std.specs.Str.{bytes_eq}
use Rattle.tool_lines.specs.declared.list_entry.ListEntry.{ListEntry}
use Rattle.tool_lines.specs.declared.list_entry.ListEntry.TheVariants.{Service, Unread}
use Rattle.tool_lines.specs.ServiceRows.{row_of}
use Rattle.tool_lines.specs.Words.{word_in}

-- a line without its first word and the space behind that
abbrev pub behind_at : Option ℕ → List ℕ → List ℕ
behind_at (Some place) line = drop (place + 1) line
behind_at None line = []

abbrev pub behind_word : List ℕ → List ℕ
behind_word line = behind_at (position (λ b. b == 32) line) line

-- `state`, the word of its state, a moment, and its row; or `unread`, its name, and the word of the fault
abbrev pub Tells : ListEntry → List ℕ → Type 0
Tells (Service s) line = (s.state ≡ take 32 (word_in line 1)) × (row_of (behind_word (behind_word (behind_word line))) ≡ Some s.row)
Tells (Unread name fault) line = (name ≡ word_in line 1) × (fault ≡ take 32 (word_in line 2))

abbrev pub name_of_entry : ListEntry → List ℕ
name_of_entry (Service s) = s.row.name
name_of_entry (Unread name fault) = name

-- why the last scan could not read this entry, if it has this name and is unread
abbrev pub why_unread : List ℕ → ListEntry → Option (List ℕ)
why_unread name (Unread unread fault) = if bytes_eq unread name then Some (take 32 fault) else None
why_unread name (Service s) = None
