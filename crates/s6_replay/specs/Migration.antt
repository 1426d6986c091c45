-- Migration: a script without replies becomes one with the machine's replies.
use Rattle.std.specs.Prelude.{◌≡◌, ℕ, ◌<◌, ◌^◌, List, [], ◌∷◌, length, Option, ◌⊎◌}
use Rattle.std.specs.Io.KnownBytes.{Consumes, Appends, IsAtEnd}
use Rattle.tree_core.specs.declared.input.Input.{Input}
use Rattle.tree_core.specs.Machine.{Machine, new_machine}
use Rattle.tree_core.specs.Run.{after, outcome}
use Rattle.tree_core.specs.StandsFor.{StoredTree, StandsFor}
use Rattle.s6_script.specs.Writing.{AppendsFront}
use Rattle.s6_script.specs.Script.{Recorded, HasLines, head_line, step_lines, script, inputs_of}
use Rattle.s6_replay.specs.ReadingStops.{StopsBehind, BeginsOtherwise, ReadsHead}
use Rattle.s6_replay.specs.Replay.{CountsOf, MakeScript, IsRead}
use Rattle.s6_replay.specs.Checking.{reply_of}
use Rattle.s6_replay.specs.declared.counts.Counts.{Counts}
use Rattle.s6_script.specs.declared.version.Version.TheVariants.{One, Two}
use Rattle.s6_replay.specs.declared.turn.Turn.{Turn}
use Rattle.s6_replay.specs.declared.turn.Turn.TheVariants.{Done, End}
use Rattle.s6_replay.specs.declared.fault.ReplayFault.{ReplayFault}
use Rattle.s6_replay.specs.declared.fault.ReplayFault.TheVariants.{Head, Line, Pattern, Truncated, Read, Write}
use Rattle.s6_replay.specs.declared.fault.ReplayFault.TheVariants.{NoMemory}

-- an input, and a machine's reply to it
abbrev pub recorded_step : {A : Type 0} → Machine → Input A → Recorded A
recorded_step m input = record { input = input; reply = reply_of m input }

-- some inputs, and a machine's reply to each
unfoldable pub recorded : {A : Type 0} → Machine → List (Input A) → List (Recorded A)
recorded m [] = []
recorded m (i ∷ is) = recorded_step m i ∷ recorded (after m i) is

-- the script of these inputs with the replies of a new machine
abbrev pub recorded_script : {A : Type 0} → List (Input A) → List ℕ
recorded_script inputs = script Two (recorded new_machine inputs)

-- the head line was written; or it was not, but for some of it
abbrev pub HeadWritten : Option (List ℕ) → Option (List ℕ) → Type 0
HeadWritten held held' = Appends held held' (head_line Two)

abbrev pub HeadUnwritten : ReplayFault → Option (List ℕ) → Option (List ℕ) → Type 0
HeadUnwritten fault held held' = (fault ≡ Write) × AppendsFront held held' (head_line Two)

-- the lines of an input and of a machine's reply were written, the events and orders that it gave were counted, and the tree goes on as the
-- machine does
pub record Recording {A : Type 0} (events orders : ℕ) (tree : StoredTree) (held held' : Option (List ℕ)) (m : Machine)
    (input : Input A) : Type 0 where
  pub written : Appends held held' (step_lines Two (recorded_step m input))
  pub stands : StandsFor tree (after m input)
  pub event_count : events ≡ length (outcome m input).events
  pub order_count : orders ≡ length (outcome m input).orders

-- the same for each machine that the tree stands for
abbrev pub IsRecorded : {A : Type 0} → (events orders : ℕ) → StoredTree → StoredTree → Input A → (held held' : Option (List ℕ)) → Type 0
IsRecorded events orders tree tree' input held held' =
    (events < 2 ^ 64) × (orders < 2 ^ 64)
    × ((m : Machine) → StandsFor tree m → Recording events orders tree' held held' m input)

-- why an input was not recorded: some of its lines were written, or nothing was
abbrev pub RecordingStops : {A : Type 0} → ReplayFault → StoredTree → Input A → (held held' : Option (List ℕ)) → Type 0
RecordingStops Write tree input held held' =
    (m : Machine) → StandsFor tree m → AppendsFront held held' (step_lines Two (recorded_step m input))
RecordingStops NoMemory tree input held held' = held' ≡ held
RecordingStops fault tree input held held' = ⊥

-- an input was read and recorded, or there was none
abbrev pub Records : (A : Type 0) → Turn → StoredTree → StoredTree → (left left' held held' : Option (List ℕ)) → Type 0
Records A (Done events orders) tree tree' left left' held held' =
    (s : Recorded A) × HasLines One s × Consumes left left' (step_lines One s)
    × IsRecorded events orders tree tree' s.input held held'
Records A End tree tree' left left' held held' = Consumes left left' [] × IsAtEnd left' × (held' ≡ held)

-- why no input was recorded: reading stopped, or the input was read and its lines were not written whole
abbrev pub RecordStops : (A : Type 0) → ReplayFault → ℕ → StoredTree → (left left' held held' : Option (List ℕ)) → Type 0
RecordStops A fault before tree left left' held held' =
    (StopsBehind A One before fault [] left left' × (held' ≡ held))
    ⊎ ((s : Recorded A) × HasLines One s × Consumes left left' (step_lines One s) × (fault ≡ Write)
    × RecordingStops Write tree s.input held held')

-- all that was read is a script of version 1, and the script of its inputs with the machine's replies was written
abbrev pub Migrates : (A : Type 0) → Counts → (left left' held held' : Option (List ℕ)) → Type 0
Migrates A counts left left' held held' =
    (steps : List (Recorded A)) × MakeScript One steps × IsRead One steps left left'
    × Appends held held' (recorded_script (inputs_of steps)) × CountsOf (inputs_of steps) counts

-- reading stopped after some steps, and the script of their inputs with the machine's replies was written
abbrev pub StopsMigrating : (A : Type 0) → ReplayFault → (left left' held held' : Option (List ℕ)) → Type 0
StopsMigrating A fault left left' held held' =
    (steps : List (Recorded A)) × MakeScript One steps × Appends held held' (recorded_script (inputs_of steps))
    × StopsBehind A One (length steps) fault (script One steps) left left'

-- where a migration stopped; at a failed write some of what was to be written was, and not all
abbrev pub MigrateStops : (A : Type 0) → ReplayFault → (left left' held held' : Option (List ℕ)) → Type 0
MigrateStops A Head left left' held held' = BeginsOtherwise One left × (held' ≡ held)
MigrateStops A (Line n) left left' held held' = StopsMigrating A (Line n) left left' held held'
MigrateStops A (Pattern n) left left' held held' = StopsMigrating A (Pattern n) left left' held held'
MigrateStops A Truncated left left' held held' = StopsMigrating A Truncated left left' held held'
MigrateStops A Read left left' held held' = StopsMigrating A Read left left' held held' ⊎ (ReadsHead left left' × (held' ≡ held))
MigrateStops A NoMemory left left' held held' = StopsMigrating A NoMemory left left' held held'
MigrateStops A Write left left' held held' =
    (steps : List (Recorded A)) × MakeScript One steps × Consumes left left' (script One steps)
    × AppendsFront held held' (recorded_script (inputs_of steps))
