use Rattle.std.proofs.Common.{refl}
use Rattle.step_codes.proofs.replies.RowCoded.take.Goals as goal

pub returns : goal.returns
returns c one rest fits is =
    let sid = c.take.ensures one.sid _ fits.sid is in
    let name = c.take-2.ensures one.name _ fits.name sid.1 in
    let up = c.take-3.ensures one.up _ tt name.1 in
    let wanted_up = c.take-4.ensures one.wanted_up _ tt up.1 in
    let normally_up = c.take-5.ensures one.normally_up _ tt wanted_up.1 in
    let ready = c.take-6.ensures one.ready _ tt normally_up.1 in
    let paused = c.take-7.ensures one.paused _ tt ready.1 in
    let pid = c.take-8.ensures one.pid _ fits.pid paused.1 in
    let exit = c.take-9.ensures one.exit _ fits.exit pid.1 in
    let up_down_for = c.take-10.ensures one.up_down_for _ fits.up_down_for exit.1 in
    let ready_for = c.take-11.ensures one.ready_for rest fits.ready_for up_down_for.1 in (
      rw (sid.0, name.0, up.0, wanted_up.0, normally_up.0, ready.0, paused.0, pid.0, exit.0, up_down_for.0, ready_for.0) refl,
      ready_for.1,
    )
