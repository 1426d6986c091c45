-- What is told of wrong words behind the name of a program.
use Rattle.std.specs.Prelude.{ℕ, List, [], ◌∷◌, ◌++◌, Option, Some, codes}
use Rattle.tool_lines.specs.declared.misuse.Misuse.{Misuse}
use Rattle.tool_lines.specs.declared.misuse.Misuse.TheVariants as misuse
use Rattle.tool_lines.specs.Sentences.{help_words, misuse_word, see_words}
use Rattle.tool_lines.specs.Told.{named}

abbrev pub complaint_of : Misuse → List ℕ
complaint_of misuse.Missing = codes " is missing"
complaint_of misuse.Empty = codes " is empty"
complaint_of m = codes " is one too many"

-- the wrong word; of one that is empty its place is told
abbrev pub word_text : Misuse → Option (List ℕ) → List ℕ
word_text misuse.Empty (Some place) = place
word_text m word = named (codes "a word") word

abbrev pub program_text : List ℕ → List ℕ
program_text program = program ++ (codes ": usage\n" ++ (program ++ codes ": "))

abbrev pub complaint_text : Misuse → Option (List ℕ) → List ℕ
complaint_text m word = misuse_word m ++ (codes ": " ++ (word_text m word ++ complaint_of m))

abbrev pub advice_text : List ℕ → List ℕ → List ℕ
advice_text program form = codes ": " ++ (form ++ (see_words ++ (program ++ (help_words ++ 10 ∷ []))))

-- a line for programs, and one for people: which word is wrong, what would be right, and where to read on
abbrev pub usage_text : List ℕ → Misuse → Option (List ℕ) → List ℕ → List ℕ
usage_text program m word form = program_text program ++ (complaint_text m word ++ advice_text program form)

-- what is told of a word that names no program: the words before it, and those behind it
unfoldable pub strange_words : List ℕ
strange_words = codes "s6_tree: unknown tool\ns6_tree: "

unfoldable pub tools_words : List ℕ
tools_words = codes " is no tool; see s6_tree --help\n"

abbrev pub strange_text : Option (List ℕ) → List ℕ
strange_text word = strange_words ++ (named (codes "no word") word ++ tools_words)
