-- Which word of a command line is the wrong one.
use Rattle.std.specs.Prelude.{ℕ, List, [], ◌+◌, ◌-◌, Option, Some, None, codes, drop, take}
use Rattle.std.specs.Prelude.{position, slice_get, if◌then◌else◌}
use Rattle.std.specs.List.{find}
use Rattle.std.specs.Option.{option_or}
use Rattle.std.specs.Str.{bytes_eq}
use Rattle.tool_lines.specs.declared.culprit.Clue.{Clue}
use Rattle.tool_lines.specs.declared.culprit.Clue.TheVariants as clue
use Rattle.tool_lines.specs.declared.misuse.Misuse.{Misuse}
use Rattle.tool_lines.specs.declared.tool.Tool.{Tool}
use Rattle.tool_lines.specs.declared.tool.Tool.TheVariants as tool
use Rattle.tool_lines.specs.declared.wrong_word.Wrong.{Wrong}
use Rattle.tool_lines.specs.declared.wrong_word.Wrong.TheVariants as wrong
use Rattle.tool_lines.specs.WrongWords.{is_wrong}
use Rattle.tool_lines.specs.Clues.{clues_of, subject_clues}

-- the words behind the first one of this kind; no words where there is no such word
abbrev pub behind_place : Option ℕ → List (List ℕ) → List (List ℕ)
behind_place None words = []
behind_place (Some place) words = drop (place + 1) words

abbrev pub behind : Wrong → List (List ℕ) → List (List ℕ)
behind w words = behind_place (position (is_wrong w) words) words

abbrev pub kept_if : Wrong → Option (List ℕ) → Option (List ℕ)
kept_if w None = None
kept_if w (Some word) = if is_wrong w word then Some word else None

-- the first one, where there is no second
abbrev pub alone : Option (List ℕ) → Option (List ℕ) → Option (List ℕ)
alone (Some second) first = None
alone None first = first

-- the word that a clue leads to
abbrev pub seen_by : Clue → List (List ℕ) → Option (List ℕ)
seen_by clue.Nowhere words = None
seen_by (clue.At place) words = slice_get words place
seen_by (clue.AtIf place w) words = kept_if w (slice_get words place)
seen_by (clue.Behind w) words = slice_get (behind w words) 0
seen_by (clue.First w) words = find (is_wrong w) words
seen_by (clue.Second w) words = find (is_wrong w) (behind w words)
seen_by (clue.Only w) words = alone (find (is_wrong w) (behind w words)) (find (is_wrong w) words)

abbrev pub before_place : Option ℕ → List (List ℕ) → List (List ℕ)
before_place None words = words
before_place (Some place) words = take place words

-- the words before the first `--`
abbrev pub before_dashes : List (List ℕ) → List (List ℕ)
before_dashes words = before_place (position (λ w. bytes_eq w (codes "--")) words) words

-- the words of the tool itself: for `svlisten` those before the first `--`, else all
abbrev pub own_words : Tool → List (List ℕ) → List (List ℕ)
own_words tool.Svlisten words = before_dashes words
own_words t words = words

abbrev pub seen_by_either : Clue × Clue → List (List ℕ) → Option (List ℕ)
seen_by_either clues words = option_or (seen_by clues.0 words) (seen_by clues.1 words)

-- the wrong word, where it is known which
abbrev pub culprit_of : Tool → Misuse → List (List ℕ) → Option (List ℕ)
culprit_of t m words = seen_by_either (clues_of t m) (own_words t words)

-- the word that names what a tool asks about, where it is known which
abbrev pub subject_of : Tool → List (List ℕ) → Option (List ℕ)
subject_of t words = seen_by_either (subject_clues t) (own_words t words)

-- the word behind the first `--`
abbrev pub program_of : List (List ℕ) → Option (List ℕ)
program_of words = seen_by (clue.Behind wrong.Dashes) words
