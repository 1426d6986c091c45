-- What a contract sees of what svc and svscanctl were told.
use Rattle.std.specs.Prelude.{◌≡◌, ℕ, List, [], ◌∷◌, None}
use Rattle.svc_commands.specs.LetterWords.{letters_in, names_in, scan_letters, svc_letters, scan_fault, svc_fault}
use Rattle.svc_commands.specs.declared.svc.SvcCommand.{SvcCommand}
use Rattle.svc_commands.specs.declared.svscanctl.ScanCommand.{ScanCommand}

-- the words have no fault, and the command is their name and their letters
pub record IsSvcCommand (words : List (List ℕ)) (command : SvcCommand) : Type 0 where
  pub faultless : svc_fault words ≡ None
  pub name : names_in words ≡ command.name ∷ []
  pub letters : letters_in svc_letters words ≡ command.letters.items

-- the words have no fault, and the command is their letters
pub record IsScanCommand (words : List (List ℕ)) (command : ScanCommand) : Type 0 where
  pub faultless : scan_fault words ≡ None
  pub letters : letters_in scan_letters words ≡ command.letters.items
