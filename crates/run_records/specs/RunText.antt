-- What is written of a run: a recorded script, or lines that go on with one.
use Rattle.std.specs.Prelude.{◌≡◌, ℕ, ◌+◌, ◌<◌, List, ◌++◌, All, length, take, slice_get, Option, Some, Bool, true, false}
use Rattle.std.specs.List.{flat_map}
use Rattle.std.specs.Io.KnownBytes.{Appends}
use Rattle.std.specs.declared.alloc.Global.{Global}
use Rattle.tree_core.specs.declared.input.Input.{Input}
use Rattle.tree_core.specs.declared.reply.Reply.{Reply}
use Rattle.s6_script.specs.declared.version.Version.TheVariants.{Two}
use Rattle.s6_script.specs.Writing.{AppendsFront}
use Rattle.s6_script.specs.Recording.{FitsLine}
use Rattle.s6_script.specs.Script.{Recorded, head_line, step_lines}
use Rattle.s6_script.specs.ReplyText.{reply_text}
use Rattle.run_records.specs.Runs.{RunStep}
use Rattle.run_records.specs.declared.writing.RunFault.{RunFault}
use Rattle.run_records.specs.declared.writing.RunFault.TheVariants.{Write, NoMemory, Unspelt}

-- the numbers of the faults
abbrev pub run_fault_number : RunFault → ℕ
run_fault_number Write = 1
run_fault_number NoMemory = 2
run_fault_number (Unspelt n) = 3

-- what a recorded script says of an input and its reply
abbrev pub recorded_reply : Input Global → Reply Global → Recorded Global
recorded_reply input reply = record { input = input; reply = reply_text reply }

-- what it says of a step
abbrev pub recorded_of : RunStep → Recorded Global
recorded_of s = recorded_reply s.input s.outcome.reply

-- the lines of these steps
abbrev pub lines_of : List RunStep → List ℕ
lines_of steps = flat_map (λ s. step_lines Two (recorded_of s)) steps

-- the head line, if it is wanted, and then the lines of the steps
abbrev pub run_text : Bool → List RunStep → List ℕ
run_text true steps = head_line Two ++ lines_of steps
run_text false steps = lines_of steps

-- each input has a line in a script
abbrev pub AllFit : List RunStep → Type 0
AllFit steps = All (λ s. FitsLine s.input) steps

-- all steps were written, and `count` is how many these are
abbrev pub IsWritten : ℕ → Bool → List RunStep → (held held' : Option (List ℕ)) → Type 0
IsWritten count head steps held held' = (count ≡ length steps) × AllFit steps × Appends held held' (run_text head steps)

-- the first n steps were written, and nothing of the next one
abbrev pub IsWrittenUpTo : ℕ → Bool → List RunStep → (held held' : Option (List ℕ)) → Type 0
IsWrittenUpTo n head steps held held' = (n < length steps) × Appends held held' (run_text head (take n steps))

-- what each fault leaves written. Write: some of the text, from the front on, and not all. NoMemory: the steps before some step, for which
-- there was no memory. Unspelt: the steps before that of this number, counted from 1, whose input has no line in a script
abbrev pub StopsWriting : RunFault → Bool → List RunStep → (held held' : Option (List ℕ)) → Type 0
StopsWriting Write head steps held held' = AppendsFront held held' (run_text head steps)
StopsWriting NoMemory head steps held held' = (n : ℕ) × IsWrittenUpTo n head steps held held'
StopsWriting (Unspelt number) head steps held held' =
    (n : ℕ) × (s : RunStep) × (number ≡ n + 1) × (slice_get steps n ≡ Some s) × (FitsLine s.input → ⊥)
    × IsWrittenUpTo n head steps held held'

-- what each fault leaves written of one step. Write: some of its lines, from the front on, and not all. NoMemory, Unspelt: nothing
abbrev pub StopsStep : RunFault → ℕ → Input Global → Reply Global → (held held' : Option (List ℕ)) → Type 0
StopsStep Write number input reply held held' = AppendsFront held held' (step_lines Two (recorded_reply input reply))
StopsStep NoMemory number input reply held held' = held' ≡ held
StopsStep (Unspelt n) number input reply held held' = (n ≡ number) × (FitsLine input → ⊥) × (held' ≡ held)

-- the head line is wanted, and was not written whole
abbrev pub StopsHead : RunFault → Bool → (held held' : Option (List ℕ)) → Type 0
StopsHead fault head held held' = (fault ≡ Write) × (head ≡ true) × AppendsFront held held' (head_line Two)
