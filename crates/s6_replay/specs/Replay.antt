-- A replay: from a script to its transcript.
use Rattle.std.specs.Prelude.{◌≡◌, ℕ, ◌+◌, ◌<◌, ◌≤◌, List, [], ◌∷◌, ◌++◌, length, Option, ◌⊎◌}
use Rattle.std.specs.List.{flat_map, AllByRecursion}
use Rattle.std.specs.Io.KnownBytes.{Consumes, Appends, IsAtEnd}
use Rattle.tree_core.specs.declared.input.Input.{Input}
use Rattle.tree_core.specs.Machine.{new_machine}
use Rattle.tree_core.specs.Run.{outcome, outcomes, after_all}
use Rattle.s6_script.specs.Writing.{AppendsFront}
use Rattle.s6_script.specs.Script.{Recorded, HasLines, script, inputs_of, input_limit}
use Rattle.s6_replay.specs.ReadingStops.{StopsBehind, BeginsOtherwise, ReadsHead}
use Rattle.s6_replay.specs.Transcript.{block, blocks}
use Rattle.s6_replay.specs.declared.counts.Counts.{Counts}
use Rattle.s6_script.specs.declared.version.Version.{Version}
use Rattle.s6_replay.specs.declared.fault.ReplayFault.{ReplayFault}
use Rattle.s6_replay.specs.declared.fault.ReplayFault.TheVariants.{Head, Line, Pattern, Truncated, Read, Write}
use Rattle.s6_replay.specs.declared.fault.ReplayFault.TheVariants.{NoMemory}

-- the transcript of some inputs: what a new machine answers to each, numbered from 1 on
abbrev pub transcript : {A : Type 0} → List (Input A) → List ℕ
transcript inputs = blocks 1 (outcomes new_machine inputs)

-- the counts are those of some inputs: how many there are, and how many events and orders they gave
pub record CountsOf {A : Type 0} (inputs : List (Input A)) (counts : Counts) : Type 0 where
  pub input_count : counts.inputs ≡ length inputs
  pub event_count : counts.events ≡ length (flat_map (λ o. o.events) (outcomes new_machine inputs))
  pub order_count : counts.orders ≡ length (flat_map (λ o. o.orders) (outcomes new_machine inputs))

-- a script of this version may have these steps
pub record MakeScript {A : Type 0} (version : Version) (steps : List (Recorded A)) : Type 0 where
  pub lines : AllByRecursion (HasLines version) steps
  pub few : length steps ≤ input_limit

-- the steps make a script, and the transcript of their inputs was written, and nothing else
abbrev pub Written : {A : Type 0} → Version → List (Recorded A) → (held held' : Option (List ℕ)) → Type 0
Written version steps held held' = MakeScript version steps × Appends held held' (transcript (inputs_of steps))

-- all that was read is the script of these steps
pub record IsRead {A : Type 0} (version : Version) (steps : List (Recorded A)) (left left' : Option (List ℕ)) : Type 0 where
  pub read : Consumes left left' (script version steps)
  pub ended : IsAtEnd left'

-- all that was read is a script of either version, and the transcript of its inputs was written
abbrev pub IsWhole : (A : Type 0) → Counts → (left left' held held' : Option (List ℕ)) → Type 0
IsWhole A counts left left' held held' =
    (version : Version) × ((steps : List (Recorded A)) × Written version steps held held'
    × IsRead version steps left left' × CountsOf (inputs_of steps) counts)

-- the transcript of some inputs was written, and then some of the block of one more, whose lines were read
pub record WritesInto {A : Type 0} (version : Version) (steps : List (Recorded A)) (last : Recorded A)
    (left left' held between held' : Option (List ℕ)) : Type 0 where
  pub whole : Written version steps held between
  pub room : length steps < input_limit
  pub line : HasLines version last
  pub read : Consumes left left' (script version (steps ++ last ∷ []))
  pub some : AppendsFront between held'
      (block (length steps + 1) (outcome (after_all new_machine (inputs_of steps)) last.input))

-- reading stopped after some steps, and the transcript of their inputs was written
abbrev pub StopsReading : (A : Type 0) → ReplayFault → (left left' held held' : Option (List ℕ)) → Type 0
StopsReading A fault left left' held held' =
    (version : Version) × ((steps : List (Recorded A)) × Written version steps held held'
    × StopsBehind A version (length steps) fault (script version steps) left left')

-- where a replay stopped, with the transcript of the inputs before it written; at a failed write one more input was read, and some of its
-- block was written, and not all
abbrev pub Stops : (A : Type 0) → ReplayFault → (left left' held held' : Option (List ℕ)) → Type 0
Stops A Head left left' held held' = ((version : Version) → BeginsOtherwise version left) × (held' ≡ held)
Stops A (Line n) left left' held held' = StopsReading A (Line n) left left' held held'
Stops A (Pattern n) left left' held held' = StopsReading A (Pattern n) left left' held held'
Stops A Truncated left left' held held' = StopsReading A Truncated left left' held held'
Stops A Read left left' held held' = StopsReading A Read left left' held held' ⊎ (ReadsHead left left' × (held' ≡ held))
Stops A NoMemory left left' held held' = StopsReading A NoMemory left left' held held'
Stops A Write left left' held held' =
    (version : Version) × ((steps : List (Recorded A)) × ((last : Recorded A) × ((between : Option (List ℕ))
    × WritesInto version steps last left left' held between held')))
