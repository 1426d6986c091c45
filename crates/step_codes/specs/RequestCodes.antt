-- How it is coded what users ask with.
use Rattle.std.specs.Prelude.{ℕ, IsTrue, List, ◌∷◌}
use Rattle.s6_events.specs.Name.{is_name}
use Rattle.s6_events.specs.declared.condition.Condition.{Condition}
use Rattle.s6_events.specs.declared.condition.Condition.TheVariants as condition
use Rattle.s6_events.specs.declared.condition.Mode.{Mode}
use Rattle.s6_events.specs.declared.condition.Mode.TheVariants as mode
use Rattle.control_letters.specs.ControlLetter.{byte_of}
use Rattle.control_letters.specs.declared.control_letter.ControlLetter.{ControlLetter}
use Rattle.svscan_core.specs.declared.entry.ScanOrder.{ScanOrder}
use Rattle.svscan_core.specs.declared.entry.ScanOrder.TheVariants.{Nuke, Terminate}
use Rattle.tree_core.specs.declared.input.Target.{Target}
use Rattle.tree_core.specs.declared.input.Target.TheVariants as target
use Rattle.step_codes.specs.NameCodes.{bytes_onto}

-- a letter of svc is its byte
abbrev pub letter_onto : ControlLetter → List ℕ → List ℕ
letter_onto letter rest = byte_of letter ∷ rest

abbrev pub order_byte : ScanOrder → ℕ
order_byte Nuke = 0
order_byte Terminate = 1

abbrev pub condition_byte : Condition → ℕ
condition_byte condition.Up = 0
condition_byte condition.Ready = 1
condition_byte condition.Down = 2
condition_byte condition.Finished = 3
condition_byte condition.Restarted = 4
condition_byte condition.RestartedReady = 5

abbrev pub mode_byte : Mode → ℕ
mode_byte mode.All = 0
mode_byte mode.One = 1

-- whose event directory is meant: a byte, and the name
abbrev pub target_onto : Target → List ℕ → List ℕ
target_onto (target.Service name) rest = 0 ∷ bytes_onto name rest
target_onto (target.Directory name) rest = 1 ∷ bytes_onto name rest

abbrev pub FitsTarget : Target → Type 0
FitsTarget (target.Service name) = IsTrue (is_name name)
FitsTarget (target.Directory name) = IsTrue (is_name name)
