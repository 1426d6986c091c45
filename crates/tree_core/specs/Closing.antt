-- After a terminate no service is started any more.
use Rattle.std.specs.Prelude.{◌≡◌, List, Bool, true, false}
use Rattle.std.specs.List.{list_any}
use Rattle.s6_events.specs.declared.order.Order.{Order}
use Rattle.s6_events.specs.declared.order.Order.TheVariants.{Run}
use Rattle.svscan_core.specs.declared.entry.ScanOrder.TheVariants.{Terminate}
use Rattle.tree_core.specs.declared.input.Act.TheVariants.{Scanctl}
use Rattle.tree_core.specs.declared.input.Input.{Input}
use Rattle.tree_core.specs.declared.reply.Reply.TheVariants.{Done}
use Rattle.tree_core.specs.Machine.{Machine, Outcome}
use Rattle.tree_core.specs.Run.{after, outcome, outcomes}

-- the order starts a run
abbrev pub is_run : Order → Bool
is_run (Run sid generation name descriptor) = true
is_run order = false

-- the step starts a run
abbrev pub starts_run : {A : Type 0} → Outcome A → Bool
starts_run o = list_any is_run o.orders

-- the input is a terminate, and it is done
pub record IsTerminated {A : Type 0} (m : Machine) (input : Input A) : Type 0 where
  pub asked : input.act ≡ Scanctl Terminate
  pub done : (outcome m input).reply ≡ Done

-- after a step in which a terminate was done, no later step starts a run
abbrev pub StaysClosed : {A : Type 0} → Machine → Input A → List (Input A) → Type 0
StaysClosed m input later = IsTerminated m input → list_any starts_run (outcomes (after m input) later) ≡ false
