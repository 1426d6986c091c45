-- The control letters of a service: the byte of each, and the signal that it stands for.
use Rattle.std.specs.Prelude.{ℕ, List, [], ◌∷◌, ◌==◌, Option, None, Some, find}
use Rattle.control_letters.specs.declared.control_letter.ControlLetter.{ControlLetter}
use Rattle.control_letters.specs.declared.control_letter.ControlLetter.TheVariants.{Alarm, Abort, Quit, Hangup, Kill}
use Rattle.control_letters.specs.declared.control_letter.ControlLetter.TheVariants.{Interrupt, Terminate, User1, User2}
use Rattle.control_letters.specs.declared.control_letter.ControlLetter.TheVariants.{Pause, Continue, WindowChange, Up}
use Rattle.control_letters.specs.declared.control_letter.ControlLetter.TheVariants.{Down, Once, Restart, Exit}

-- a b q h k i t 1 2 p c y, then u d O r x
abbrev pub byte_of : ControlLetter → ℕ
byte_of Alarm = 97
byte_of Abort = 98
byte_of Quit = 113
byte_of Hangup = 104
byte_of Kill = 107
byte_of Interrupt = 105
byte_of Terminate = 116
byte_of User1 = 49
byte_of User2 = 50
byte_of Pause = 112
byte_of Continue = 99
byte_of WindowChange = 121
byte_of Up = 117
byte_of Down = 100
byte_of Once = 79
byte_of Restart = 114
byte_of Exit = 120

-- all control letters
abbrev pub control_letters : List ControlLetter
control_letters =
    Alarm ∷ Abort ∷ Quit ∷ Hangup ∷ Kill ∷ Interrupt ∷ Terminate ∷ User1 ∷ User2 ∷ Pause ∷ Continue ∷ WindowChange ∷ Up
    ∷ Down
    ∷ Once ∷ Restart ∷ Exit ∷ []

-- the letter whose byte it is
unfoldable pub letter_of_byte : ℕ → Option ControlLetter
letter_of_byte b = find (λ letter. byte_of letter == b) control_letters

-- the number of the signal that the letter stands for, on Linux for x86-64
abbrev pub signal_of : ControlLetter → Option ℕ
signal_of Alarm = Some 14
signal_of Abort = Some 6
signal_of Quit = Some 3
signal_of Hangup = Some 1
signal_of Kill = Some 9
signal_of Interrupt = Some 2
signal_of Terminate = Some 15
signal_of User1 = Some 10
signal_of User2 = Some 12
signal_of Pause = Some 19
signal_of Continue = Some 18
signal_of WindowChange = Some 28
signal_of Up = None
signal_of Down = None
signal_of Once = None
signal_of Restart = None
signal_of Exit = None
