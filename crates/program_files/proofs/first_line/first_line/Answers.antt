use Rattle.std.proofs.Common.{sym}
use Rattle.program_files.specs.FirstLine.{is_newline}
use Rattle.program_files.proofs.Fronts.{front_to_place, front_whole}
use Rattle.program_files.proofs.first_line.first_line.Goals as goal

pub returns-in-Some : goal.returns-in-Some
returns-in-Some c = front_to_place is_newline c.args.text.now _ (sym c.in-Some.ensures.place)

pub returns-in-None : goal.returns-in-None
returns-in-None c = front_whole is_newline c.args.text.now (sym c.in-None.ensures.place)
