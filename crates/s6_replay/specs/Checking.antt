-- Checking a recorded script: whether its replies are the machine's.
use Rattle.std.specs.Prelude.{◌≡◌, ◌≢◌, ℕ, ◌+◌, ◌*◌, List, [], ◌∷◌, ◌++◌, map, length, Option, Bool, true, false, ◌⊎◌}
use Rattle.std.specs.Io.KnownBytes.{Consumes, IsAtEnd}
use Rattle.tree_core.specs.declared.input.Input.{Input}
use Rattle.tree_core.specs.Machine.{Machine, new_machine}
use Rattle.tree_core.specs.Run.{after, outcome, outcomes, after_all}
use Rattle.tree_core.specs.StandsFor.{StoredTree, StandsFor}
use Rattle.s6_script.specs.Script.{Recorded, HasLines, step_lines, script, inputs_of}
use Rattle.s6_replay.specs.ReadingStops.{StopsBehind, BeginsOtherwise, ReadsHead}
use Rattle.s6_replay.specs.Replay.{MakeScript, IsRead}
use Rattle.s6_script.specs.ReplyText.{reply_text}
use Rattle.s6_script.specs.declared.version.Version.TheVariants.{Two}
use Rattle.s6_replay.specs.declared.checking.Compared.{Compared}
use Rattle.s6_replay.specs.declared.checking.Compared.TheVariants.{Same, Other, End}
use Rattle.s6_replay.specs.declared.checked.Checked.{Checked}
use Rattle.s6_replay.specs.declared.checked.Checked.TheVariants.{Legal, Differs}
use Rattle.s6_replay.specs.declared.fault.ReplayFault.{ReplayFault}
use Rattle.s6_replay.specs.declared.fault.ReplayFault.TheVariants.{Head, Line, Pattern, Truncated, Read, Write}
use Rattle.s6_replay.specs.declared.fault.ReplayFault.TheVariants.{NoMemory}

-- the text of a machine's reply to an input
abbrev pub reply_of : {A : Type 0} → Machine → Input A → List ℕ
reply_of m input = reply_text (outcome m input).reply

-- the recorded replies are those of a new machine
abbrev pub AreLegal : {A : Type 0} → List (Recorded A) → Type 0
AreLegal steps = map (λ s. s.reply) steps ≡ map (λ o. reply_text o.reply) (outcomes new_machine (inputs_of steps))

-- the truth value says whether a recorded reply is the machine's; where it is, the tree goes on as the machine does
abbrev pub Compares : {A : Type 0} → Bool → StoredTree → StoredTree → Input A → List ℕ → Type 0
Compares true tree tree' input reply =
    (m : Machine) → StandsFor tree m → StandsFor tree' (after m input) × (reply ≡ reply_of m input)
Compares false tree tree' input reply = (m : Machine) → StandsFor tree m → reply ≢ reply_of m input

-- a step was read, and its reply compared; or there was none
abbrev pub ComparesStep : (A : Type 0) → Compared → StoredTree → StoredTree → (left left' : Option (List ℕ)) → Type 0
ComparesStep A Same tree tree' left left' =
    (s : Recorded A) × HasLines Two s × Consumes left left' (step_lines Two s) × Compares true tree tree' s.input s.reply
ComparesStep A Other tree tree' left left' =
    (s : Recorded A) × HasLines Two s × Consumes left left' (step_lines Two s) × Compares false tree tree' s.input s.reply
ComparesStep A End tree tree' left left' = Consumes left left' [] × IsAtEnd left'

-- what a check found. Legal: all replies are the machine's, and n inputs were read. Differs: the reply in line n is not the machine's, and
-- all replies before it are
abbrev pub Checks : (A : Type 0) → Checked → (left left' : Option (List ℕ)) → Type 0
Checks A (Legal n) left left' =
    (steps : List (Recorded A)) × MakeScript Two steps × IsRead Two steps left left' × AreLegal steps × (n ≡ length steps)
Checks A (Differs n) left left' =
    (steps : List (Recorded A)) × ((last : Recorded A)
    × MakeScript Two (steps ++ last ∷ []) × Consumes left left' (script Two (steps ++ last ∷ []))
    × AreLegal steps × (last.reply ≢ reply_of (after_all new_machine (inputs_of steps)) last.input)
    × (n ≡ length steps * 2 + 3))

-- reading stopped after some steps, whose replies are the machine's
abbrev pub StopsLegal : (A : Type 0) → ReplayFault → (left left' : Option (List ℕ)) → Type 0
StopsLegal A fault left left' =
    (steps : List (Recorded A)) × MakeScript Two steps × AreLegal steps
    × StopsBehind A Two (length steps) fault (script Two steps) left left'

-- where a check stopped
abbrev pub CheckStops : (A : Type 0) → ReplayFault → (left left' : Option (List ℕ)) → Type 0
CheckStops A Head left left' = BeginsOtherwise Two left
CheckStops A (Line n) left left' = StopsLegal A (Line n) left left'
CheckStops A (Pattern n) left left' = StopsLegal A (Pattern n) left left'
CheckStops A Truncated left left' = StopsLegal A Truncated left left'
CheckStops A Read left left' = StopsLegal A Read left left' ⊎ ReadsHead left left'
CheckStops A NoMemory left left' = StopsLegal A NoMemory left left'
CheckStops A Write left left' = ⊥
