use Rattle.std.proofs.Common.{◌+◌, refl}
use Rattle.svscan_core.specs.Adding.{adding_of}
use Rattle.svscan_core.proofs.Adding.{one_goes_on}
use Rattle.svscan_core.proofs.scan.Scanning.add_service.Goals as goal

pub returns-clause-goes_on : goal.returns-clause-goes_on
returns-clause-goes_on g c = λ services numbered.
    one_goes_on services (adding_of c.args.self.now c.args.moves.now)
    (record {
      added = c.push.new.self.items;
      next_sid = c.args.self.now.next_sid + 1;
      listed = c.push-2.new.self.items;
      events =
          c.give.new.self.events.items;
      orders = c.give.new.self.orders.items;
    })
    c.in_ok-service.service c.args.name.now c.args.config c.begin_into.new.out c.in_ok-service.ensures.gives c.in_ok-service.ensures.agrees
    c.in_ok-service.ensures.tally
    c.in_ok-push.ensures.items refl c.in_ok-give.ensures.events numbered
