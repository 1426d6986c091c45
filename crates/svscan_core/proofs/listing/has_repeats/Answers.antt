use Rattle.svscan_core.proofs.Entries.{name_within, name_at}
use Rattle.svscan_core.proofs.Repeats.{known_more, repeats_known}
use Rattle.svscan_core.specs.Listing.{names_in}
use Rattle.svscan_core.proofs.listing.has_repeats.Goals as goal

pub loop-entry-preserved : goal.loop-entry-preserved
loop-entry-preserved g c =
    let within = name_within c.args.listing.now c.loop-entry.entry-index c.loop-entry-test.true in
    let at = name_at c.args.listing.now c.loop-entry.entry-index c.entry-item.result c.loop-entry-test.true c.entry-item.is in
    let so_far = c.loop-entry.invariant in
    record {
      known = known_more (names_in c.args.listing.now) c.loop-entry.entry-index c.entry-item.result.name c.loop-entry.names.keys
          c.insert.new.self.keys within at c.in_ok-repeats.ensures.updates.0 so_far.known;
      repeats = repeats_known (names_in c.args.listing.now) c.loop-entry.entry-index c.entry-item.result.name c.loop-entry.names.keys
          c.loop-entry.repeats c.in_ok-repeats.field-0 within at so_far.known so_far.repeats c.in_ok-repeats.ensures.added;
    }
