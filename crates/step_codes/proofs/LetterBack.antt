-- A letter is read of its byte.
use Rattle.std.proofs.Common.{◌≡◌, Some, refl}
use Rattle.control_letters.specs.ControlLetter.{byte_of, letter_of_byte}
use Rattle.control_letters.specs.declared.control_letter.ControlLetter.{ControlLetter}
use Rattle.control_letters.specs.declared.control_letter.ControlLetter.TheVariants as letter

pub letter_back : (l : ControlLetter) → letter_of_byte (byte_of l) ≡ Some l
unfolding letter_of_byte
letter_back letter.Alarm = refl
letter_back letter.Abort = refl
letter_back letter.Quit = refl
letter_back letter.Hangup = refl
letter_back letter.Kill = refl
letter_back letter.Interrupt = refl
letter_back letter.Terminate = refl
letter_back letter.User1 = refl
letter_back letter.User2 = refl
letter_back letter.Pause = refl
letter_back letter.Continue = refl
letter_back letter.WindowChange = refl
letter_back letter.Up = refl
letter_back letter.Down = refl
letter_back letter.Once = refl
letter_back letter.Restart = refl
letter_back letter.Exit = refl
