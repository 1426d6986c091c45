-- Which machines a tree stands for.
use Rattle.std.specs.Prelude.{◌≡◌, ℕ, ◌+◌, ◌≤◌, List, length, drop, Bool}
use Rattle.event_directory.specs.Pattern.{finds}
use Rattle.event_directory.specs.Remembered.{AreHeard, DirectoriesShown}
use Rattle.s6_events.specs.Clock.{clock_of}
use Rattle.s6_events.specs.declared.moment.Moment.{Moment}
use Rattle.supervise_core.specs.Service.{Supervised}
use Rattle.wait_conditions.specs.Stands.{WaitsShown, WaitsStandFor, needed_from}
use Rattle.tree_core.specs.Machine.{Machine, directories_of, watch_of}
use Rattle.svscan_core.specs.Deaths.{AllTallied, AllBefore}
use Rattle.svscan_core.specs.Sound.{AllAgree}
use Rattle.svscan_core.specs.Table.{charts_of}

-- what a tree stores: all that is there now, with what each service stores of its marks, how many moments it forgot, those after
-- them, what is kept of the waiters, and what the subscriptions have heard
pub record StoredTree : Type 0 where
  pub clock : ℕ
  pub steps : ℕ
  pub closing : Bool
  pub services : List Supervised
  pub next_sid : ℕ
  pub forgotten : ℕ
  pub kept : List Moment
  pub waits : WaitsShown
  pub directories : DirectoriesShown

-- a tree stands for each machine with which it agrees in all that it stores, whatever it has forgotten. The machine's clock is the last
-- clock reading of its history; its deaths are of serials given so far, and each tally has the last of them; its waiters are those for
-- which the kept ones stand; and its subscriptions have heard what is remembered of them
pub record StandsFor (t : StoredTree) (m : Machine) : Type 0 where
  pub clock : m.clock ≡ t.clock
  pub steps : m.steps ≡ t.steps
  pub closing : m.closing ≡ t.closing
  pub services : m.services ≡ charts_of t.services
  pub next_sid : m.next_sid ≡ t.next_sid
  pub forgotten : t.forgotten ≤ length m.history
  pub kept : drop t.forgotten m.history ≡ t.kept
  pub agrees : AllAgree t.services m.history
  pub tallies : AllTallied t.services m.deaths
  pub numbered : AllBefore m.next_sid m.deaths
  pub reading : m.clock ≡ clock_of m.history
  pub waiting : WaitsStandFor t.waits (watch_of m)
  pub hearing : AreHeard finds t.directories (directories_of m)

-- the history keeps no moment before the place of the oldest waiter that waits still, and none where none does
pub record IsCut (t : StoredTree) : Type 0 where
  pub cut : t.forgotten ≡ needed_from t.waits
  pub count : t.waits.count ≡ t.forgotten + length t.kept
