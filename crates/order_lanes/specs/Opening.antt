-- The tree and the history that stand in where a run has named none.
use Rattle.std.specs.Prelude.{[], false}
use Rattle.atomic_table.specs.Seated.{TableId}
use Rattle.tree_core.specs.StandsFor.{StoredTree}

-- a tree in which nothing is stored
abbrev pub no_tree : StoredTree
no_tree = record {
  clock = 0;
  steps = 0;
  closing = false;
  services = [];
  next_sid = 0;
  forgotten = 0;
  kept = [];
  waits = record { count = 0; states = []; waiters = []; next = 0 };
  directories = record { names = []; subscribers = []; followed = []; next = 0 };
}

-- a name that is no history's
abbrev pub no_inputs : TableId
no_inputs = record { words = 0; slots = 0; views_name = 0; atom = 0; block = 0; offset = 0; slot_names = [] }
