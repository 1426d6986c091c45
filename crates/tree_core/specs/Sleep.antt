-- A tick before anything is due.
use Rattle.std.specs.Prelude.{◌≡◌, [], true, max}
use Rattle.wait_conditions.specs.NextDeadline.{is_before}
use Rattle.tree_core.specs.declared.input.Act.TheVariants.{Tick}
use Rattle.tree_core.specs.declared.input.Input.{Input}
use Rattle.tree_core.specs.Machine.{Machine, Outcome}
use Rattle.tree_core.specs.NextDue.{next_due}
use Rattle.tree_core.specs.Run.{after, outcome}

-- no event, no order, no match and no release
pub record GivesNothing {A : Type 0} (o : Outcome A) : Type 0 where
  pub events : o.events ≡ []
  pub orders : o.orders ≡ []
  pub matched : o.matched ≡ []
  pub released : o.released ≡ []

-- what a machine has beside its clock, the clock's readings and the count of its steps
abbrev pub beside_the_clock : Machine → Machine
beside_the_clock m = record m { clock = 0; steps = 0; history = [] }

-- a step gives nothing, and changes nothing but the clock, the clock's readings and the count of the steps
pub record ChangesTheClockAlone {A : Type 0} (m : Machine) (input : Input A) : Type 0 where
  pub gives : GivesNothing (outcome m input)
  pub changes : beside_the_clock (after m input) ≡ beside_the_clock m

-- a tick does so where the clock that it makes is before the next moment at which something is due
abbrev pub SleepsUntilDue : {A : Type 0} → Machine → Input A → Type 0
SleepsUntilDue m input =
    input.act ≡ Tick → is_before (max m.clock input.at) (next_due m) ≡ true → ChangesTheClockAlone m input
