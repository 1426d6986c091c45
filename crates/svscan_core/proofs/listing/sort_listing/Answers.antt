use Rattle.svscan_core.proofs.Sorting.{alike_more, names_more}
use Rattle.svscan_core.proofs.listing.sort_listing.Goals as goal

pub loop-entry-preserved : goal.loop-entry-preserved
loop-entry-preserved g c =
    let so_far = c.loop-entry.invariant in
    let i = c.loop-entry.entry-index in
    let put = c.in_ok-_other.ensures.entries in
    record {
      names = names_more c.args.listing.now i c.entry-item.result c.loop-entry.found.entries c.insert.new.self.entries c.loop-entry-test.true
          c.entry-item.is put so_far.names;
      alike = alike_more c.args.listing.now i c.entry-item.result c.loop-entry.found.entries c.insert.new.self.entries c.requires
          c.loop-entry-test.true c.entry-item.is put so_far.alike;
    }
