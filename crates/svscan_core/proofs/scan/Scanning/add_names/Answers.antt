use Rattle.std.proofs.Common.{◌∙◌}
use Rattle.svscan_core.specs.Adding.{adding_of}
use Rattle.svscan_core.proofs.Additions.{one_added, goes_on_twice, grows_twice}
use Rattle.svscan_core.proofs.scan.Scanning.add_names.Goals as goal

pub loop-name-preserved : goal.loop-name-preserved
loop-name-preserved g c =
    let old = adding_of c.args.self.now c.args.moves.now in
    let mid = adding_of c.loop-name.self c.loop-name.moves in
    let new = adding_of c.add_name.new.self c.add_name.new.moves in
    let so_far = c.loop-name.invariant in
    let one = c.in_ok-add_name.ensures in
    record {
      state = λ services long finds.
          one_added c.args.listing.now c.args.names.now c.loop-name.name-index c.name-item.result services c.args.slots.now.services old mid new
          c.requires.once c.loop-name-test.true c.name-item.is finds (so_far.state services long finds) (one.state services long);
      goes_on = λ services numbered.
          let before = so_far.goes_on services numbered in goes_on_twice services old mid new before (one.goes_on services before.order);
      grows = grows_twice c.args.retained old mid new so_far.grows one.grows;
      only = record {
        dropped = one.only.dropped ∙ so_far.only.dropped;
        dropped_sids = one.only.dropped_sids ∙ so_far.only.dropped_sids;
        touched = one.only.touched ∙ so_far.only.touched;
      };
    }
