use Rattle.std.proofs.Common.{◌≡◌, ◌≤◌, take, map, length}
use Rattle.std.specs.Prelude.{Some}
use Rattle.death_tally.specs.DeathList.{items_of}
use Rattle.death_tally.proofs.exit_list.list_in.Given as goal

abbrev pub invariant-loop-word : goal.invariant-loop-word
invariant-loop-word l = record {
  items : items_of (take l.word-index (map (λ w. w.now) l.words)) ≡ Some l.items.items;
  few : length l.items.items ≤ l.word-index;
}
