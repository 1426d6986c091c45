use Rattle.std.proofs.Common.{sym, subst, ◌∙◌}
use Rattle.locked_services.specs.Rings.{TakeMost, most_taken}
use Rattle.locked_services.specs.Running.{run_limit}
use Rattle.locked_services.specs.declared.stop.DriveStop.{DriveStop}
use Rattle.locked_services.specs.declared.stop.Stop.TheVariants as stop
use Rattle.locked_services.proofs.Rings.{grows_least, grows_more, same_drains, take_one, take_same, takes_as}
use Rattle.locked_services.proofs.running.RunningTree.step_many.Goals as goal
use Rattle.locked_services.proofs.running.RunningTree.step_many.Goals.{in-Idle, in-Blocked, in-RunFull, in-NoMemory}

pub loop-steps-preserved : goal.loop-steps-preserved
loop-steps-preserved g c =
    let u = c.args.self.now in
    let v = c.loop-steps.self in
    let w = c.step_one.new.self in
    let inv = c.loop-steps.invariant in
    let done = c.step_one.ensures.done c.in-Done.is in
    record {
      opening = c.step_one.ensures.opening ∙ inv.opening;
      made = grows_more c.loop-steps.steps u.steps v.steps w.steps done.0 inv.made done.1;
      taken = take_one c.loop-steps.steps u v w inv.taken (takes_as c.step_one.result stop.Done v w c.in-Done.is c.step_one.ensures.rings);
      full = λ full.
          let limit = c.step_one.ensures.limit (grows_least c.loop-steps.steps run_limit u.steps v.steps inv.made full) in
          absurd (cc (limit, c.in-Done.is));
    }

pub returns-in-loop-steps-clause-rings : goal.returns-in-loop-steps-clause-rings
returns-in-loop-steps-clause-rings g c =
    let n = c.loop-steps.steps in
    let u = c.args.self.now in
    let v = c.loop-steps.self in
    let w = c.step_one.new.self in
    let taken = c.loop-steps.invariant.taken in
    let rings = c.step_one.ensures.rings in
    let ends = λ (s : DriveStop). TakeMost (most_taken s n) u w in
    elim c.match-step_one.branch [
      | in-Idle b ↦ subst ends (sym b.stop-is) (take_same n u v w taken (takes_as c.step_one.result stop.Idle v w b.in-Idle.is rings))
      | in-Blocked b ↦ subst ends (sym b.stop-is)
          (same_drains n u v w taken (takes_as c.step_one.result (stop.Blocked b.in-Blocked.lane) v w b.in-Blocked.is rings).0)
      | in-RunFull b ↦ subst ends (sym b.stop-is) (same_drains n u v w taken (takes_as c.step_one.result stop.RunFull v w b.in-RunFull.is rings).0)
      | in-NoMemory b ↦ subst ends (sym b.stop-is) (take_one n u v w taken (takes_as c.step_one.result stop.NoMemory v w b.in-NoMemory.is rings))
    ]
