-- The story of a script: what was read and written, and where telling it stopped.
use Rattle.std.specs.Prelude.{◌≡◌, ℕ, List, [], length, Bool, true, false, Option, ◌⊎◌}
use Rattle.std.specs.Io.KnownBytes.{Consumes, Appends, IsAtEnd}
use Rattle.supervise_core.specs.declared.row.Row.{Row}
use Rattle.tree_core.specs.Machine.{Machine, new_machine}
use Rattle.tree_core.specs.StandsFor.{StoredTree, StandsFor}
use Rattle.s6_script.specs.Writing.{AppendsFront}
use Rattle.s6_script.specs.Script.{Recorded, HasLines, step_lines, script, inputs_of}
use Rattle.s6_replay.specs.ReadingStops.{StopsBehind, BeginsOtherwise, ReadsHead}
use Rattle.s6_replay.specs.Replay.{MakeScript, IsRead}
use Rattle.s6_script.specs.declared.version.Version.{Version}
use Rattle.s6_replay.specs.declared.fault.ReplayFault.{ReplayFault}
use Rattle.s6_replay.specs.declared.fault.ReplayFault.TheVariants.{Head, Line, Pattern, Truncated, Read, Write}
use Rattle.s6_replay.specs.declared.fault.ReplayFault.TheVariants.{NoMemory}
use Rattle.run_stories.specs.Stories.{IsTold, story_of, run_story}

-- the story of the inputs of a script's steps, which a new machine takes
abbrev pub script_story : {A : Type 0} → List (Recorded A) → List ℕ
script_story steps = run_story [] new_machine (inputs_of steps)

-- the next step was read, told and written, or there was none
abbrev pub TellsNext : (A : Type 0) → Bool → Version → (rows rows' : List Row) → (tree tree' : StoredTree)
    → (left left' held held' : Option (List ℕ)) → Type 0
TellsNext A true version rows rows' tree tree' left left' held held' =
    (s : Recorded A) × HasLines version s × Consumes left left' (step_lines version s)
    × ((text : List ℕ) × IsTold rows rows' text tree tree' s.input × Appends held held' text)
TellsNext A false version rows rows' tree tree' left left' held held' = Consumes left left' [] × IsAtEnd left' × (held' ≡ held)

-- why no step was told: reading stopped and nothing was written, or a step was read, and some of its story was written, and not all
abbrev pub NextStops : (A : Type 0) → ReplayFault → Version → ℕ → (rows : List Row) → (tree : StoredTree)
    → (left left' held held' : Option (List ℕ)) → Type 0
NextStops A fault version before rows tree left left' held held' =
    (StopsBehind A version before fault [] left left' × (held' ≡ held))
    ⊎ ((s : Recorded A) × HasLines version s × Consumes left left' (step_lines version s) × (fault ≡ Write)
    × ((m : Machine) → StandsFor tree m → AppendsFront held held' (story_of rows m s.input)))

-- all that was read is a script of either version, and its story was written, and nothing else
abbrev pub IsStory : (A : Type 0) → (left left' held held' : Option (List ℕ)) → Type 0
IsStory A left left' held held' =
    (version : Version) × ((steps : List (Recorded A)) × MakeScript version steps × IsRead version steps left left'
    × Appends held held' (script_story steps))

-- reading stopped after some steps, and their story was written
abbrev pub StopsTelling : (A : Type 0) → ReplayFault → (left left' held held' : Option (List ℕ)) → Type 0
StopsTelling A fault left left' held held' =
    (version : Version) × ((steps : List (Recorded A)) × MakeScript version steps × Appends held held' (script_story steps)
    × StopsBehind A version (length steps) fault (script version steps) left left')

-- where telling a script stopped; at a failed write some of the story of the steps that were read was written, and not all
abbrev pub StoryStops : (A : Type 0) → ReplayFault → (left left' held held' : Option (List ℕ)) → Type 0
StoryStops A Head left left' held held' = ((version : Version) → BeginsOtherwise version left) × (held' ≡ held)
StoryStops A (Line n) left left' held held' = StopsTelling A (Line n) left left' held held'
StoryStops A (Pattern n) left left' held held' = StopsTelling A (Pattern n) left left' held held'
StoryStops A Truncated left left' held held' = StopsTelling A Truncated left left' held held'
StoryStops A Read left left' held held' = StopsTelling A Read left left' held held' ⊎ (ReadsHead left left' × (held' ≡ held))
StoryStops A NoMemory left left' held held' = StopsTelling A NoMemory left left' held held'
StoryStops A Write left left' held held' =
    (version : Version) × ((steps : List (Recorded A)) × MakeScript version steps × Consumes left left' (script version steps)
    × AppendsFront held held' (script_story steps))
