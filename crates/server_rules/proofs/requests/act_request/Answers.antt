use Rattle.std.proofs.Common.{sym, subst}
use Rattle.server_rules.specs.Requests.{AsksFor}
use Rattle.server_rules.proofs.Asking.{asks}
use Rattle.server_rules.proofs.requests.act_request.Goals as goal

pub returns-in-Ok : goal.returns-in-Ok
returns-in-Ok c =
    subst (λ r. AsksFor r c.args.line.now) (sym c.request_of.ensures)
    (asks c.in-Ok.act c.args.line.now c.in-Ok.ensures.found c.in-Ok.ensures.only)
