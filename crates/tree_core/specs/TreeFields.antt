-- What a contract sees of a tree, and what is true of every tree.
use Rattle.svscan_core.specs.Table.{charts_of}
use Rattle.svscan_core.specs.Timers.{TimersAgree}
use Rattle.wait_conditions.specs.Stands.{waits_shown}
use Rattle.tree_core.specs.declared.tree.Tree.TheInside.{Inside}
use Rattle.tree_core.specs.Sound.{IsCounted, IsRecorded}
use Rattle.tree_core.specs.Machine.{Machine}
use Rattle.tree_core.specs.StandsFor.{StoredTree, StandsFor, IsCut}
use Rattle.tree_core.specs.Tied.{IsTied}

-- its services, its numbers, its history, its waiters and its event directories
abbrev pub tree_view : {A : Type 0} → Inside A → StoredTree
tree_view t = record {
  clock = t.clock;
  steps = t.steps;
  closing = t.closing;
  services = t.registry.shown.services;
  next_sid = t.registry.shown.next_sid;
  forgotten = t.history.forgotten;
  kept = t.history.kept;
  waits = waits_shown t.waits;
  directories = t.directories.shown;
}

-- the number of its steps limits its other numbers, its deadlines agree with its services, there is a machine for which it stands, its
-- history is cut, and what its waiters know is tied to that history
abbrev pub TreeInvariant : {A : Type 0} → Inside A → Type 0
TreeInvariant t =
    IsCounted t.steps t.registry.shown.next_sid t.waits.next t.directories.shown.next
    (charts_of t.registry.shown.services)
    × IsRecorded t.steps t.history.forgotten t.history.kept
    × TimersAgree t.deadlines.timers (charts_of t.registry.shown.services)
    × ((m : Machine) × StandsFor (tree_view t) m)
    × IsCut (tree_view t)
    × IsTied (tree_view t)
