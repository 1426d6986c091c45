-- The names of signals, on Linux for x86-64.
use Rattle.std.specs.Prelude.{ℕ, List, [], ◌∷◌, Option, Some, None, ◌+◌, ◌-◌, slice_get, take, drop, codes, position}
use Rattle.std.specs.Prelude.{option_map, nat_le, if◌then◌else◌}
use Rattle.std.specs.Str.{bytes_eq}
use Rattle.servicedir.specs.Number.{number_up_to, line_of}

-- the names of the signals from 1 to 31, in this order
unfoldable pub signal_names : List (List ℕ)
signal_names =
    codes "HUP" ∷ codes "INT" ∷ codes "QUIT" ∷ codes "ILL" ∷ codes "TRAP" ∷ codes "ABRT" ∷ codes "BUS" ∷ codes "FPE"
    ∷ codes "KILL" ∷ codes "USR1" ∷ codes "SEGV" ∷ codes "USR2" ∷ codes "PIPE" ∷ codes "ALRM" ∷ codes "TERM"
    ∷ codes "STKFLT" ∷ codes "CHLD" ∷ codes "CONT" ∷ codes "STOP" ∷ codes "TSTP" ∷ codes "TTIN" ∷ codes "TTOU"
    ∷ codes "URG" ∷ codes "XCPU" ∷ codes "XFSZ" ∷ codes "VTALRM" ∷ codes "PROF" ∷ codes "WINCH" ∷ codes "IO"
    ∷ codes "PWR" ∷ codes "SYS" ∷ []

-- the number of the signal of this name, written without SIG
unfoldable pub signal_of_name : List ℕ → Option ℕ
signal_of_name name = option_map (λ place. place + 1) (position (λ known. bytes_eq known name) signal_names)

-- the name of the signal of a number, written without SIG, where it has one
abbrev pub name_of_signal : ℕ → Option (List ℕ)
name_of_signal number = if nat_le 1 number then slice_get signal_names (number - 1) else None

-- a word without the SIG that may begin it
abbrev pub without_sig : List ℕ → List ℕ
without_sig word = if bytes_eq (take 3 word) (codes "SIG") then drop 3 word else word

-- the number of the signal that a word names, with or without SIG
abbrev pub signal_of_word : List ℕ → Option ℕ
signal_of_word word = signal_of_name (without_sig word)

-- a number that is at least 1 is the number of a signal; the caller sees that it is at most 64
abbrev pub signal_number : Option ℕ → Option ℕ
signal_number None = None
signal_number (Some number) = if nat_le 1 number then Some number else None

-- the first where it is there, else the second
abbrev pub first_of_both : Option ℕ → Option ℕ → Option ℕ
first_of_both (Some one) other = Some one
first_of_both None other = other

-- the signal of a signal file: a name with or without SIG, or a number from 1 to 64, and at most one newline
abbrev pub signal_of : List ℕ → Option ℕ
signal_of text = first_of_both (signal_of_word (line_of text)) (signal_number (number_up_to 64 (line_of text)))
