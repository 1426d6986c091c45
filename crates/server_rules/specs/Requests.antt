-- What a line of a client asks for.
use Rattle.std.specs.Prelude.{◌≡◌, ◌==◌, ◌&&◌, ℕ, Bool, true, false, List, Option, Some, None, codes, take, drop, if◌then◌else◌}
use Rattle.std.specs.Str.{bytes_eq}
use Rattle.std.specs.declared.alloc.Global.{Global}
use Rattle.s6_events.specs.Name.{is_name}
use Rattle.s6_script.specs.Spelling.{SpellsAct, SpellsActButForPattern}
use Rattle.tree_core.specs.declared.input.Act.{Act}
use Rattle.tree_core.specs.declared.input.Act.TheVariants.{Scan, Started, StartFailed, Notify, Death, FinishEnded, Status, Wait, Subscribe, Tick}
use Rattle.server_rules.specs.declared.following.Following.TheVariants as following
use Rattle.server_rules.specs.declared.own_answer.OwnAnswer.TheVariants as own
use Rattle.server_rules.specs.declared.requests.Request.{Request}
use Rattle.server_rules.specs.declared.requests.Request.TheVariants as request
use Rattle.server_rules.specs.declared.status_lines.Subject.TheVariants as subject

-- the request for a scan, for which the server reads the scan directory itself
abbrev pub scan_word : List ℕ
scan_word = codes "scanctl a"

-- the requests for the rows of all services, for their states, for the record, and for the clock
abbrev pub rows_word : List ℕ
rows_word = codes "rows"

abbrev pub states_word : List ℕ
states_word = codes "states"

abbrev pub record_word : List ℕ
record_word = codes "record"

abbrev pub clock_word : List ℕ
clock_word = codes "clock"

-- the request to be told the letters of all services, and of one, whose name stands behind it
abbrev pub follow_word : List ℕ
follow_word = codes "follow"

abbrev pub follow_one_word : List ℕ
follow_one_word = codes "follow "

abbrev pub follow_one : List ℕ → Option Request
follow_one name = if is_name name then Some (request.Follow (following.One name)) else None

abbrev pub follow_request : List ℕ → Option Request
follow_request line =
    if bytes_eq line follow_word then Some (request.Follow following.All) else
    if bytes_eq (take 7 line) follow_one_word then follow_one (drop 7 line) else None

-- the request of a line that is of the server alone, and of no script
abbrev pub own_request : List ℕ → Option Request
own_request line =
    if bytes_eq line scan_word then Some request.Scan else
    if bytes_eq line rows_word then Some (request.Status subject.All) else
    if bytes_eq line states_word then Some (request.Status subject.States) else
    if bytes_eq line record_word then Some request.Record else
    if bytes_eq line clock_word then Some request.Clock else follow_request line

-- the acts that clients may not ask for: reports, listings and ticks
abbrev pub IsOwnAct : {A : Type 0} → Act A → Type 0
IsOwnAct (Scan listing) = Unit {0}
IsOwnAct (Started sid generation pid) = Unit {0}
IsOwnAct (StartFailed sid generation) = Unit {0}
IsOwnAct (Notify sid generation bytes) = Unit {0}
IsOwnAct (Death sid generation exit) = Unit {0}
IsOwnAct (FinishEnded sid generation exit) = Unit {0}
IsOwnAct Tick = Unit {0}
IsOwnAct act = ⊥

-- the request of an act that a client asks for: a status comes from the board
abbrev pub request_of : Act Global → Request
request_of (Scan listing) = request.Refused own.Line
request_of (Started sid generation pid) = request.Refused own.Line
request_of (StartFailed sid generation) = request.Refused own.Line
request_of (Notify sid generation bytes) = request.Refused own.Line
request_of (Death sid generation exit) = request.Refused own.Line
request_of (FinishEnded sid generation exit) = request.Refused own.Line
request_of Tick = request.Refused own.Line
request_of (Status name) = request.Status (subject.One name)
request_of act = request.Step act

-- an act after which a client waits for more than its reply
abbrev pub is_waiting : {A : Type 0} → Act A → Bool
is_waiting (Wait condition mode timeout names) = true
is_waiting (Subscribe target pattern repeats) = true
is_waiting act = false

-- a request after which a client waits for more than its answer
abbrev pub is_lasting : Request → Bool
is_lasting (request.Step act) = is_waiting act
is_lasting (request.Follow services) = true
is_lasting r = false

-- the actor of the last slot, which is kept for short requests
abbrev pub last_client : ℕ
last_client = 15

abbrev pub allowed_request : ℕ → Request → Request
allowed_request actor r = if (actor == last_client) && is_lasting r then request.Refused own.Busy else r

-- the request of a line that asks for none of the server's own. A status or a step is the act that the line spells. A line that is refused
-- as `Line` spells no act that clients may ask for; one that is refused as `Pattern` spells an act but for its pattern
abbrev pub AsksFor : Request → List ℕ → Type 0
AsksFor (request.Status (subject.One name)) line = SpellsAct {A = Global} line (Status name)
AsksFor (request.Step act) line = SpellsAct line act
AsksFor (request.Refused own.Line) line = (act : Act Global) → SpellsAct line act → IsOwnAct act
AsksFor (request.Refused own.Pattern) line = SpellsActButForPattern Global line
AsksFor (request.Refused own.NoMemory) line = Unit {0}
AsksFor r line = ⊥

-- the request of a line, before it is known on which slot it was asked
abbrev pub IsRequestOf : Request → Option Request → List ℕ → Type 0
IsRequestOf r (Some own) line = r ≡ own
IsRequestOf r None line = AsksFor r line

-- the request of a line on the slot of this actor
abbrev pub IsAsked : Request → ℕ → List ℕ → Type 0
IsAsked result actor line = (r : Request) × IsRequestOf r (own_request line) line × (result ≡ allowed_request actor r)
