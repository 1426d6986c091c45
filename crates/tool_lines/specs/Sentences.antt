-- The sentences about a fault, and about what would be right.
use Rattle.std.specs.Prelude.{ℕ, List, [], Option, Some, None, codes, if◌then◌else◌}
use Rattle.std.specs.Str.{bytes_eq}
use Rattle.tool_lines.specs.declared.misuse.Misuse.{Misuse}
use Rattle.tool_lines.specs.declared.misuse.Misuse.TheVariants as misuse
use Rattle.tool_lines.specs.declared.tool.Tool.{Tool}
use Rattle.tool_lines.specs.declared.tool.Tool.TheVariants as tool

abbrev pub misuse_word : Misuse → List ℕ
misuse_word misuse.Unknown = codes "Unknown"
misuse_word misuse.Missing = codes "Missing"
misuse_word misuse.TooMany = codes "TooMany"
misuse_word misuse.BadNumber = codes "BadNumber"
misuse_word misuse.BadList = codes "BadList"
misuse_word misuse.BadName = codes "BadName"
misuse_word misuse.BadMessage = codes "BadMessage"
misuse_word misuse.BadPattern = codes "BadPattern"
misuse_word misuse.Empty = codes "Empty"

-- what is said of the wrong word, where it is not known which it is
abbrev pub unnamed_of : Misuse → List ℕ
unnamed_of misuse.Empty = codes "SOCKET"
unnamed_of m = codes "a word"

abbrev pub number_complaint : Tool → List ℕ
number_complaint tool.Permafailon = codes " is no number"
number_complaint t = codes " is no number of milliseconds"

abbrev pub list_complaint : Tool → List ℕ
list_complaint tool.Permafailon = codes " is no list of exits"
list_complaint t = codes " is no list of fields"

abbrev pub name_complaint : Tool → List ℕ
name_complaint tool.FtrigNotify = codes " is no event directory"
name_complaint tool.FtrigWait = codes " is no event directory"
name_complaint t = codes " is no name"

-- what is wrong with a word
abbrev pub complaint_of : Tool → Misuse → List ℕ
complaint_of t misuse.Unknown = codes " is not taken"
complaint_of t misuse.Missing = codes " is missing"
complaint_of t misuse.TooMany = codes " is one too many"
complaint_of t misuse.BadNumber = number_complaint t
complaint_of t misuse.BadList = list_complaint t
complaint_of t misuse.BadName = name_complaint t
complaint_of t misuse.BadMessage = codes " is no message"
complaint_of t misuse.BadPattern = codes " is no pattern"
complaint_of t misuse.Empty = codes " is empty"

-- the words that a tool takes
abbrev pub form_of : Tool → List ℕ
form_of tool.Svc = codes "svc SOCKET -LETTERS.. NAME, at most 63 letters"
form_of tool.Svstat = codes "svstat SOCKET -o FIELDS NAME"
form_of tool.List = codes "list SOCKET [--json] [--] [NAME..]"
form_of tool.Follow = codes "follow SOCKET [--json] [--] [NAME..]"
form_of tool.Record = codes "record SOCKET"
form_of tool.Svwait = codes "svwait SOCKET [-u | -U | -d | -D] [-a | -o] [-t MS] NAME.., at most 16 names"
form_of tool.Svlisten = codes "svlisten SOCKET [-u | -U | -d | -D | -r | -R] [-a | -o] [-t MS] NAME.. -- PROGRAM.., at most 16 names"
form_of tool.Svscanctl = codes "svscanctl SOCKET -LETTERS.., at most 63 letters"
form_of tool.Mkfifodir = codes "mkfifodir SOCKET NAME"
form_of tool.FtrigNotify = codes "ftrig-notify SOCKET TARGET MESSAGE"
form_of tool.FtrigWait = codes "ftrig-wait SOCKET TARGET PATTERN"
form_of tool.Permafailon = codes "permafailon SOCKET NAME SECS COUNT LIST"

abbrev pub list_form : Tool → List ℕ
list_form tool.Permafailon = codes "at most 32 of 1, 1-5, SEGV and the like, with one comma between two"
list_form t = codes "up, wantedup, normallyup, ready, paused, pid, exitcode, signum, updownfor, readyfor, with one comma between two"

abbrev pub name_form : Tool → List ℕ
name_form tool.FtrigNotify = codes "NAME for a free one, NAME/event for a service's"
name_form tool.FtrigWait = codes "NAME for a free one, NAME/event for a service's"
name_form t = codes "1 to 64 of A-Z a-z 0-9 . _ - @, with no dot in front"

-- what would be right
abbrev pub right_of : Tool → Misuse → List ℕ
right_of t misuse.Unknown = form_of t
right_of t misuse.Missing = form_of t
right_of t misuse.TooMany = form_of t
right_of t misuse.Empty = form_of t
right_of t misuse.BadNumber = codes "digits, at most 4294967295"
right_of t misuse.BadList = list_form t
right_of t misuse.BadName = name_form t
right_of t misuse.BadMessage = codes "1 to 64 printable bytes, none of them a space"
right_of t misuse.BadPattern = codes "1 to 256 printable bytes, a regular expression of Rust's regex that is not too large"

-- what the reason of a refusal says about the word that the request names; None where it is about no word
abbrev pub refusal_of_subject : List ℕ → Option (List ℕ)
refusal_of_subject reason =
    if bytes_eq reason (codes "NoService") then Some (codes " is no service of this tree; see s6_tree list SOCKET") else
    if bytes_eq reason (codes "NoSuch") then Some (codes " is no free event directory of this tree; see s6_tree mkfifodir --help") else
    if bytes_eq reason (codes "Exists") then Some (codes " is there already") else
    if bytes_eq reason (codes "Reserved") then Some (codes " belongs to a service, and takes no letters of others") else
    if bytes_eq reason (codes "Ended") then Some (codes " takes no letters now: its supervisor has ended") else
    None

-- what any other reason of a refusal says
abbrev pub refusal_of_tree : List ℕ → List ℕ
refusal_of_tree reason =
    if bytes_eq reason (codes "Repeated") then codes "a name stands twice: leave one out" else
    if bytes_eq reason (codes "TooMany") then codes "the tree has no room for it: it keeps 1,024 waiters, 256 subscriptions and 256 free event directories" else
    if bytes_eq reason (codes "Busy") then codes "too many wait at once, and the last place is kept for short requests; try again later" else
    if bytes_eq reason (codes "Pattern") then codes "the pattern is none, or too large; see s6_tree ftrig-wait --help" else
    if bytes_eq reason (codes "Line") then codes "the server doesn't know this request: it may be of another version" else
    if bytes_eq reason (codes "Directory") then codes "svscan can't read its directory, or there is too much in it; see svcheck" else
    if bytes_eq reason (codes "Full") then codes "scans are asked for too often; try again later" else
    if bytes_eq reason (codes "Closing") then codes "the tree is ending" else
    if bytes_eq reason (codes "Record") then codes "svscan was started without RECORD, or its file was removed" else
    if bytes_eq reason (codes "NoMemory") then codes "the server has no memory for it; try again later" else
    codes "see docs/SCRIPT.md"

-- where to read on: the texts before the name of a tool, and behind it
unfoldable pub see_words : List ℕ
see_words = codes "; see s6_tree "

unfoldable pub help_words : List ℕ
help_words = codes " --help"

-- the text before the name of a service whose directory could not be read
unfoldable pub unread_words : List ℕ
unread_words = codes "NoService: the last scan could not read "
