-- One turn of a replay: the lines of a step are read, its input is done, and its block is written.
use Rattle.std.specs.Prelude.{◌≡◌, ◌≢◌, ℕ, ◌+◌, ◌*◌, ◌<◌, ◌^◌, Bool, true, false, List, [], ◌∷◌, ◌++◌, All, codes, drop, length, take, Option, Some, None, ◌⊎◌}
use Rattle.std.specs.Io.KnownBytes.{Consumes, Appends, IsAtEnd}
use Rattle.tree_core.specs.declared.input.Input.{Input}
use Rattle.tree_core.specs.Machine.{Machine, Outcome}
use Rattle.tree_core.specs.Run.{after, outcome}
use Rattle.tree_core.specs.StandsFor.{StoredTree, StandsFor}
use Rattle.s6_script.specs.Spelling.{spelling}
use Rattle.s6_script.specs.Writing.{AppendsFront}
use Rattle.s6_replay.specs.Lines.{HasNoNewline, IsPart, IsWithinLine}
use Rattle.s6_script.specs.Script.{Recorded, HasLines, HasLine, IsPrintable, step_lines, input_line}
use Rattle.s6_replay.specs.ReadingStops.{IsNoLine, StopsBehind, BeginsOtherwise, ReadsHead}
use Rattle.s6_replay.specs.ReadingStops.Place.{at_reply}
use Rattle.s6_script.specs.Script.{input_limit}
use Rattle.s6_replay.specs.ReadingStops.{input_line_number}
use Rattle.s6_replay.specs.Transcript.{block}
use Rattle.s6_script.specs.declared.version.Version.{Version}
use Rattle.s6_script.specs.declared.version.Version.TheVariants.{One, Two}
use Rattle.s6_replay.specs.declared.line.LineReadFault.{LineReadFault}
use Rattle.s6_replay.specs.declared.line.LineReadFault.TheVariants as reads
use Rattle.s6_replay.specs.declared.turn.Turn.{Turn}
use Rattle.s6_replay.specs.declared.turn.Turn.TheVariants.{Done, End}
use Rattle.s6_replay.specs.declared.fault.ReplayFault.{ReplayFault}
use Rattle.s6_replay.specs.declared.fault.ReplayFault.TheVariants.{Head, Line, Truncated, Read, Write}
use Rattle.s6_replay.specs.declared.fault.ReplayFault.TheVariants.{NoMemory}

-- the block of an input was written with this number, its events and orders were counted, and the tree goes on as the machine does
pub record Answers {A : Type 0} (events orders number : ℕ) (tree : StoredTree) (held held' : Option (List ℕ))
    (given : Outcome A) (m : Machine) : Type 0 where
  pub written : Appends held held' (block number given)
  pub stands : StandsFor tree m
  pub event_count : events ≡ length given.events
  pub order_count : orders ≡ length given.orders

-- the same for each machine that the tree stands for
abbrev pub IsAnswered : {A : Type 0} → (events orders number : ℕ) → StoredTree → StoredTree → Input A → Option (List ℕ)
    → Option (List ℕ) → Type 0
IsAnswered events orders number tree tree' input held held' =
    (events < 2 ^ 64) × (orders < 2 ^ 64)
    × ((m : Machine) → StandsFor tree m
    → Answers events orders number tree' held held' (outcome m input) (after m input))

-- why an input was not answered: some of its block was written, or nothing was
abbrev pub AnswerStops : {A : Type 0} → ReplayFault → ℕ → StoredTree → Input A → Option (List ℕ) → Option (List ℕ)
    → Type 0
AnswerStops Write number tree input held held' =
    (m : Machine) → StandsFor tree m → AppendsFront held held' (block number (outcome m input))
AnswerStops NoMemory number tree input held held' = held' ≡ held
AnswerStops fault number tree input held held' = ⊥

-- an input line was read, or there was none
abbrev pub InputWasRead : {A : Type 0} → Option (Input A) → List ℕ → Option (List ℕ) → Option (List ℕ) → Type 0
InputWasRead (Some input) line left left' =
    HasLine input × HasNoNewline line × (spelling input ≡ line) × Consumes left left' (input_line input)
InputWasRead None line left left' = Consumes left left' [] × IsAtEnd left'

-- the text of a reply: its line without the first two bytes
abbrev pub text_in : List ℕ → List ℕ
text_in line = drop 2 line

-- the truth value says whether a line holds a reply
abbrev pub HoldsReply : List ℕ → Bool → Type 0
HoldsReply line true = (line ≡ codes "= " ++ text_in line) × (text_in line ≢ []) × All IsPrintable (text_in line)
HoldsReply line false = (text : List ℕ) → text ≢ [] → All IsPrintable text → line ≡ codes "= " ++ text → ⊥

-- the fault of a replay for a failed read
abbrev pub fault_of : LineReadFault → ReplayFault
fault_of reads.Read = Read
fault_of reads.NoMemory = NoMemory

-- why no reply line was read after `before` steps and an input
abbrev pub ReplyStops : (A : Type 0) → ReplayFault → ℕ → Option (List ℕ) → Option (List ℕ) → Type 0
ReplyStops A (Line n) before left left' = (n ≡ before * 2 + 3)
    × ((bytes : List ℕ) × ((i : Input A) → IsNoLine (at_reply i) before bytes) × Consumes left left' bytes)
ReplyStops A Truncated before left left' =
    IsAtEnd left' × ((line : List ℕ) × IsPart 262144 line × Consumes left left' line)
ReplyStops A Read before left left' = (part : List ℕ) × IsPart 262144 part × Consumes left left' part
ReplyStops A NoMemory before left left' = (bytes : List ℕ) × IsWithinLine 262144 bytes × Consumes left left' bytes
ReplyStops A fault before left left' = ⊥

-- a step was read, or there was none
abbrev pub WasRead : {A : Type 0} → Version → List ℕ → Option (Input A) → Option (List ℕ) → Option (List ℕ) → Type 0
WasRead version reply (Some input) left left' =
    HasLines version (record { input = input; reply = reply }) × HasNoNewline (spelling input)
    × Consumes left left' (step_lines version (record { input = input; reply = reply }))
WasRead version reply None left left' = Consumes left left' [] × IsAtEnd left'

-- a turn: a step was read and answered, or there was none
abbrev pub Turns : (A : Type 0) → Turn → Version → ℕ → StoredTree → StoredTree → Option (List ℕ) → Option (List ℕ)
    → Option (List ℕ) → Option (List ℕ) → Type 0
Turns A (Done events orders) version before tree tree' left left' held held' =
    (s : Recorded A) × HasLines version s × Consumes left left' (step_lines version s)
    × IsAnswered events orders (before + 1) tree tree' s.input held held'
Turns A End version before tree tree' left left' held held' = Consumes left left' [] × IsAtEnd left' × (held' ≡ held)

-- where a turn stopped: no step was read, or one was read and not answered
abbrev pub TurnStops : (A : Type 0) → ReplayFault → Version → ℕ → StoredTree → Option (List ℕ) → Option (List ℕ)
    → Option (List ℕ) → Option (List ℕ) → Type 0
TurnStops A fault version before tree left left' held held' =
    (StopsBehind A version before fault [] left left' × (held' ≡ held))
    ⊎ ((s : Recorded A) × HasLines version s × HasNoNewline (spelling s.input) × Consumes left left' (step_lines version s)
    × AnswerStops fault (before + 1) tree s.input held held')

-- why the head line was not read: the input begins otherwise, or the reader failed
abbrev pub HeadStops : ReplayFault → Option (List ℕ) → Option (List ℕ) → Type 0
HeadStops Head left left' = (version : Version) → BeginsOtherwise version left
HeadStops Read left left' = ReadsHead left left'
HeadStops fault left left' = ⊥

-- why a text was not read: the input begins otherwise, or the reader failed
abbrev pub LiteralStops : ReplayFault → List ℕ → Option (List ℕ) → Option (List ℕ) → Type 0
LiteralStops Head text left left' = (rest : List ℕ) → left ≢ Some (text ++ rest)
LiteralStops Read text left left' = (n : ℕ) × (n < length text) × Consumes left left' (take n text)
LiteralStops fault text left left' = ⊥

-- the digit of a version
abbrev pub version_digit : Version → ℕ
version_digit One = 49
version_digit Two = 50

-- why no version was read: another byte comes or none, or the reader failed
abbrev pub VersionStops : ReplayFault → Option (List ℕ) → Option (List ℕ) → Type 0
VersionStops Head left left' = (version : Version) (rest : List ℕ) → left ≢ Some (version_digit version ∷ rest)
VersionStops Read left left' = Consumes left left' []
VersionStops fault left left' = ⊥

-- why the script did not end after its last input: there is one line too many, or the reader failed
abbrev pub EndStops : ReplayFault → Version → Option (List ℕ) → Option (List ℕ) → Type 0
EndStops (Line n) version left left' = (n ≡ input_line_number version input_limit)
    × ((bytes : List ℕ) × (length bytes ≡ 1) × Consumes left left' bytes)
EndStops Read version left left' = Consumes left left' []
EndStops fault version left left' = ⊥
