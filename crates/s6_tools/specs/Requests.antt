-- A request of a client.
use Rattle.std.specs.Prelude.{ℕ, List, [], ◌∷◌, ◌++◌, ◌||◌, Bool, codes}
use Rattle.std.specs.Str.{bytes_eq}
use Rattle.std.specs.declared.alloc.Global.{Global}
use Rattle.s6_script.specs.Spelling.{act_spelling}
use Rattle.svc_commands.specs.declared.svscanctl.ScanLetter.{ScanLetter}
use Rattle.svc_commands.specs.declared.svscanctl.ScanLetter.TheVariants as letter
use Rattle.svscan_core.specs.declared.entry.ScanOrder.TheVariants.{Nuke, Terminate}
use Rattle.tree_core.specs.declared.input.Act.{Act}
use Rattle.tree_core.specs.declared.input.Act.TheVariants.{Scanctl}

-- the spelling of an act: a line of a script without its moment and its actor
abbrev pub request_of : Act Global → List ℕ
request_of act = act_spelling act

-- the request for a letter of `svscanctl`; a scan is asked for by its letter, since the server reads the scan directory itself
abbrev pub scan_request_of : ScanLetter → List ℕ
scan_request_of letter.Scan = codes "scanctl a"
scan_request_of letter.Nuke = request_of (Scanctl Nuke)
scan_request_of letter.Terminate = request_of (Scanctl Terminate)

-- what is sent for a request: its text and a newline
abbrev pub request_line : List ℕ → List ℕ
request_line request = request ++ 10 ∷ []

-- for one name the letters of its service, else those of all services
abbrev pub follow_request_of : List (List ℕ) → List ℕ
follow_request_of (name ∷ []) = codes "follow" ++ (32 ∷ name)
follow_request_of names = codes "follow"

-- a request of this verb may come twice without harm: it changes nothing, or waits, or has the record written
abbrev pub is_harmless : List ℕ → Bool
is_harmless verb =
    bytes_eq verb (codes "status") || (bytes_eq verb (codes "states") || (bytes_eq verb (codes "clock") || (bytes_eq verb (codes "permafailon")
    || (bytes_eq verb (codes "follow") || (bytes_eq verb (codes "wait") || (bytes_eq verb (codes "subscribe") || bytes_eq verb (codes "record")))))))
