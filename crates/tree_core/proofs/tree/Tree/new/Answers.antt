use Rattle.std.proofs.Common.{refl, sym, arith, [], false}
use Rattle.event_directory.specs.Directories.{new_directories}
use Rattle.event_directory.specs.Pattern.{finds}
use Rattle.event_directory.specs.Remembered.{AreHeard, DirectoriesShown, Remembered}
use Rattle.wait_conditions.specs.Kept.{oldest_place}
use Rattle.wait_conditions.specs.Stands.{StoredWaits, WaitsFor, waits_shown, place_or_end}
use Rattle.wait_conditions.specs.Watch.{new_watch}
use Rattle.tree_core.specs.Machine.{new_machine}
use Rattle.tree_core.specs.StandsFor.{StandsFor, IsCut}
use Rattle.tree_core.proofs.Tied.{is_tied}
use Rattle.tree_core.proofs.tree.Tree.new.Goals as goal

-- what a new tree stores
begins : (waits : StoredWaits) → WaitsFor waits new_watch → (directories : Remembered) → AreHeard finds directories.shown new_directories
    → StandsFor (record {
      clock = 0;
      steps = 0;
      closing = false;
      services = [];
      next_sid = 1;
      forgotten = 0;
      kept = [];
      waits =
          waits_shown waits;
      directories = directories.shown;
    }) new_machine
begins waits empty directories heard = record {
  clock = refl;
  steps = refl;
  closing = refl;
  services = refl;
  next_sid = refl;
  forgotten = omega arith;
  kept = refl;
  agrees = λ k d lt. absurd (omega (arith, lt));
  tallies = λ k d lt. absurd (omega (arith, lt));
  numbered = λ k d lt. absurd (omega (arith, lt));
  reading = refl;
  waiting = empty;
  hearing = heard;
}

-- nothing came yet
cut_new : (waits : StoredWaits) → WaitsFor waits new_watch → (directories : DirectoriesShown) → IsCut (record {
  clock = 0;
  steps = 0;
  closing = false;
  services = [];
  next_sid = 1;
  forgotten = 0;
  kept = [];
  waits = waits_shown waits;
  directories = directories;
})
cut_new waits empty directories = record {
  cut = (λ i. place_or_end (oldest_place (sym empty.waiters i)) (empty.count i));
  count = sym empty.count;
}

pub invariant_of-result : goal.invariant_of-result
invariant_of-result g c =
    rw (c.new.ensures.shown, c.new-2.ensures, c.new-3.ensures.forgotten, c.new-3.ensures.kept, c.zero.ensures) (
      record {
        steps = omega arith;
        serials = omega arith;
        waiters = omega (arith, c.new-4.ensures.serials);
        subscriptions =
            omega (arith, c.new-5.ensures.serials);
        generations = λ k d lt. absurd (omega (arith, lt));
      },
      record { few = omega arith },
      record { order = refl; moments = λ sid. refl },
      (new_machine, begins c.new-4.result c.new-4.ensures.empty c.new-5.result c.new-5.ensures.empty),
      cut_new c.new-4.result c.new-4.ensures.empty c.new-5.result.shown,
      is_tied _ new_machine (begins c.new-4.result c.new-4.ensures.empty c.new-5.result c.new-5.ensures.empty)
          (cut_new c.new-4.result c.new-4.ensures.empty c.new-5.result.shown),
    )

pub returns : goal.returns
returns g c = rw (c.new.ensures.shown, c.new-3.ensures.forgotten, c.new-3.ensures.kept, c.zero.ensures)
    (begins c.new-4.result c.new-4.ensures.empty c.new-5.result c.new-5.ensures.empty)
