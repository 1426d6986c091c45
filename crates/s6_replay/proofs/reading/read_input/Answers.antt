use Rattle.std.proofs.Common.{refl}
use Rattle.s6_replay.specs.ReadingStops.Place.{at_input}
use Rattle.s6_replay.proofs.Places.{is_too_long, is_no_spelling}
use Rattle.s6_replay.proofs.reading.read_input.Goals as goal

pub returns-in-TooLong-clause-fault : goal.returns-in-TooLong-clause-fault
returns-in-TooLong-clause-fault g c =
    let ended = rw c.in-TooLong.is at c.in_ok-read_line.ensures.ok in
    (at_input, tt, c.input_line_number.ensures, (_, is_too_long at_input c.args.done _ _ c.requires ended.0 ended.1, ended.2.1))

pub returns-in-Err-Line-clause-fault : goal.returns-in-Err-Line-clause-fault
returns-in-Err-Line-clause-fault g c =
    let ended = rw c.in-Newline.is at c.in_ok-read_line.ensures.ok in
    let none = rw (c.in-Err-Line.field-0-is, c.as_slice.ensures.value) at c.in-Err-Line.ensures.line in (
      at_input,
      tt,
      c.input_line_number-in-Err-Line.ensures,
      (_, is_no_spelling _ c.args.done _ c.requires ended.0 ended.1 (none refl), ended.2),
    )
