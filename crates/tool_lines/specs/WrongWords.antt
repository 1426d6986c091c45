-- Which words a tool doesn't take.
use Rattle.std.specs.Prelude.{ℕ, List, [], ◌-◌, ◌==◌, ◌&&◌, ◌||◌, Bool, not, codes, length, drop}
use Rattle.std.specs.Prelude.{slice_index, nat_le, is_none}
use Rattle.std.specs.List.{list_any, take_while}
use Rattle.std.specs.Str.{bytes_eq}
use Rattle.s6_events.specs.Name.{is_name}
use Rattle.servicedir.specs.Number.{number_of}
use Rattle.tool_lines.specs.declared.tool.Tool.{Tool}
use Rattle.tool_lines.specs.declared.tool.Tool.TheVariants as tool
use Rattle.tool_lines.specs.declared.wrong_word.Wrong.{Wrong}
use Rattle.tool_lines.specs.declared.wrong_word.Wrong.TheVariants as wrong

-- the letters that a tool takes behind a dash
abbrev pub letters_of : Tool → List ℕ
letters_of tool.Svc = codes "abqhkti12pcyudoOrx"
letters_of tool.Svscanctl = codes "anhtq"
letters_of tool.Svwait = codes "uUdDaot"
letters_of tool.Svlisten = codes "uUdDrRaot"
letters_of tool.Svstat = codes "o"
letters_of t = []

-- the letter of the option that has a value; a space where the tool has no such option
abbrev pub valued_of : Tool → ℕ
valued_of tool.Svwait = 116
valued_of tool.Svlisten = 116
valued_of tool.Svstat = 111
valued_of t = 32

abbrev pub is_dashed : List ℕ → Bool
is_dashed word = nat_le 1 (length word) && (slice_index word 0 == 45)

-- a letter behind the dash, and before that of the option with a value, is none of these
abbrev pub has_strange_letter : List ℕ → ℕ → List ℕ → Bool
has_strange_letter letters valued word =
    list_any (λ b. not (list_any (λ l. l == b) letters)) (take_while (λ b. not (b == valued)) (drop 1 word))

abbrev pub is_strange : Tool → List ℕ → Bool
is_strange t word = is_dashed word && (not (bytes_eq word (codes "--")) && has_strange_letter (letters_of t) (valued_of t) word)

abbrev pub is_list_option : List ℕ → Bool
is_list_option word = bytes_eq word (codes "--") || bytes_eq word (codes "--json")

abbrev pub is_no_name : List ℕ → Bool
is_no_name word = not (is_dashed word) && not (is_name word)

abbrev pub is_condition : List ℕ → Bool
is_condition word = (length word == 2) && (is_dashed word && list_any (λ l. l == slice_index word 1) (codes "uUdDrR"))

abbrev pub is_mode : List ℕ → Bool
is_mode word = bytes_eq word (codes "-a") || bytes_eq word (codes "-o")

-- the option of this letter, and its value in the same word
abbrev pub is_valued : ℕ → List ℕ → Bool
is_valued letter word = is_dashed word && (nat_le 3 (length word) && (slice_index word 1 == letter))

-- an option that ends with this letter
abbrev pub is_ended : ℕ → List ℕ → Bool
is_ended letter word = is_dashed word && (slice_index word (length word - 1) == letter)

abbrev pub is_wrong : Wrong → List ℕ → Bool
is_wrong (wrong.Strange t) word = is_strange t word
is_wrong wrong.Dash word = bytes_eq word (codes "-")
is_wrong wrong.Dashes word = bytes_eq word (codes "--")
is_wrong wrong.StrangeOption word = is_dashed word && not (is_list_option word)
is_wrong wrong.Plain word = not (is_dashed word)
is_wrong wrong.PlainNoNumber word = not (is_dashed word) && is_none (number_of word)
is_wrong wrong.NoName word = is_no_name word
is_wrong wrong.NoSingleName word = is_no_name word && not (list_any (λ l. l == 44) word)
is_wrong wrong.NoNumber word = is_none (number_of word)
is_wrong wrong.Condition word = is_condition word
is_wrong wrong.Mode word = is_mode word
is_wrong (wrong.Ended letter) word = is_ended letter word
is_wrong (wrong.Valued letter) word = is_valued letter word
