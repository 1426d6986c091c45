-- Which services are listed, and what is printed for them.
use Rattle.std.specs.Prelude.{ℕ, List, Bool, true, false, ◌==◌, ◌||◌, length, nat_eq}
use Rattle.std.specs.List.{flat_map, list_any, list_all}
use Rattle.std.specs.Cmp.Lexicographic.{pointwise}
use Rattle.tool_lines.specs.declared.list_entry.ListEntry.{ListEntry}
use Rattle.tool_lines.specs.JsonLines.{json_line}
use Rattle.tool_lines.specs.ListEntries.{name_of_entry}
use Rattle.tool_lines.specs.Tables.{table_text}

abbrev pub is_among : List (List ℕ) → List ℕ → Bool
is_among names name = list_any (λ known. pointwise nat_eq known name) names

-- it has one of these names; where there are no names, each entry is asked for
abbrev pub is_asked : List (List ℕ) → ListEntry → Bool
is_asked names e = (length names == 0) || is_among names (name_of_entry e)

abbrev pub is_there : List ListEntry → List ℕ → Bool
is_there entries name = list_any (λ e. pointwise nat_eq (name_of_entry e) name) entries

-- there is an entry of each name
abbrev pub are_there : List ListEntry → List (List ℕ) → Bool
are_there entries names = list_all (is_there entries) names

-- lines of JSON, or a table
abbrev pub listed_text : Bool → List ListEntry → List ℕ
listed_text true entries = flat_map json_line entries
listed_text false entries = table_text entries
