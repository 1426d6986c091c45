-- What the first line of a program says: which interpreter runs it, as Linux reads it.
use Rattle.std.specs.Prelude.{ℕ, List, [], ◌∷◌, Bool, Option, Some, None, ◌==◌, ◌||◌, not, take, drop, is_none, if◌then◌else◌, codes, nat_eq}
use Rattle.std.specs.List.{before_first, position_or_len, starts_with, ends_with}
use Rattle.std.specs.Str.{bytes_eq}
use Rattle.program_files.specs.declared.program_fault.ProgramFault.{ProgramFault}
use Rattle.program_files.specs.declared.program_fault.ProgramFault.TheVariants.{Empty, NoInterpreter, CarriageReturn}

-- a binary of the form ELF
abbrev pub is_binary : List ℕ → Bool
is_binary text = starts_with nat_eq text (127 ∷ codes "ELF")

abbrev pub is_newline : ℕ → Bool
is_newline byte = byte == 10

-- the text up to its first newline
abbrev pub first_line : List ℕ → List ℕ
first_line text = before_first is_newline text

-- a space or a tab
abbrev pub is_blank : ℕ → Bool
is_blank byte = byte == 32 || byte == 9

-- the text from its first byte on that is no blank
abbrev pub without_blanks : List ℕ → List ℕ
without_blanks text = drop (position_or_len (λ byte. not (is_blank byte)) text) text

-- a word ends at a blank, and at a zero byte
abbrev pub is_end : ℕ → Bool
is_end byte = is_blank byte || byte == 0

-- the text up to the end of a word that begins it
abbrev pub first_word : List ℕ → List ℕ
first_word text = before_first is_end text

-- a word, if it has a byte
abbrev pub if_any : List ℕ → Option (List ℕ)
if_any [] = None
if_any (byte ∷ rest) = Some (byte ∷ rest)

-- the first word of a text, without the blanks before it
abbrev pub word_behind : List ℕ → Option (List ℕ)
word_behind text = if_any (first_word (without_blanks text))

-- the interpreter that a line names: the first word behind `#!`
abbrev pub interpreter_in : List ℕ → Option (List ℕ)
interpreter_in line = if bytes_eq (take 2 line) (codes "#!") then word_behind (drop 2 line) else None

-- the interpreter of a program: none runs a binary
abbrev pub interpreter_of : List ℕ → Option (List ℕ)
interpreter_of text = if is_binary text then None else interpreter_in (first_line text)

-- what is wrong with a first line: it names no interpreter, or ends with a carriage return
abbrev pub fault_of_line : List ℕ → Option ProgramFault
fault_of_line line = if is_none (interpreter_in line) then Some NoInterpreter
    else if ends_with nat_eq line (codes "\r") then Some CarriageReturn
    else None

-- what is wrong with a program, as far as its bytes say
abbrev pub fault_of_text : List ℕ → Option ProgramFault
fault_of_text [] = Some Empty
fault_of_text (byte ∷ rest) = if is_binary (byte ∷ rest) then None else fault_of_line (first_line (byte ∷ rest))
