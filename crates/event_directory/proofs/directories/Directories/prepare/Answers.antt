use Rattle.event_directory.specs.Changes.{directory_request_of}
use Rattle.event_directory.proofs.Written.{step_matches, step_answer, step_prepared, step_serials}
use Rattle.event_directory.proofs.directories.Directories.prepare.Goals as goal

pub returns-clause-hears : goal.returns-clause-hears
returns-clause-hears g c =
    let test = g.F.Finds.test in
    let ms = c.args.moments.now in
    let shown = c.args.self.now.shown in
    let request = directory_request_of c.args.change.now in
    record {
      matched = step_matches test ms shown request _ c.in_ok-plan.ensures.matches;
      answer = step_answer test ms shown request _ c.in_ok-plan.ensures.answer;
      stands = step_prepared test ms shown request _ c.in_ok-plan.ensures.prepared;
    }

pub returns-clause-serials : goal.returns-clause-serials
returns-clause-serials g c = step_serials g.F.Finds.test c.args.moments.now c.args.self.now.shown
    (directory_request_of c.args.change.now) _ c.in_ok-plan.ensures.prepared
