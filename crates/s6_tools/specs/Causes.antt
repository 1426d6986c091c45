-- What the system or the server failed to do, in words.
use Rattle.std.specs.Prelude.{ℕ, List, [], codes}
use Rattle.s6_tools.specs.declared.tool_fault.ToolFault.{ToolFault}
use Rattle.s6_tools.specs.declared.tool_fault.ToolFault.TheVariants as fault

-- the texts up to the word that it is about, and behind it
abbrev pub cause_before : ToolFault → List ℕ
cause_before fault.NoServer = codes "no server at "
cause_before fault.Forbidden = codes "no permission for "
cause_before fault.Socket = codes "the server at "
cause_before fault.Ended = codes "the server at "
cause_before fault.Unanswered = codes "the server at "
cause_before fault.NoAnswer = codes "no answer in 10 s from "
cause_before fault.TreeEnded = codes "the tree at "
cause_before fault.LongPath = codes "path is longer than 107 bytes"
cause_before fault.Busy = codes "no place was free in ten seconds; try again later"
cause_before fault.Write = codes "standard output took nothing: is it closed, or its disk full?"
cause_before fault.Program = []
cause_before f = codes "the system refused memory; try again later"

abbrev pub cause_behind : ToolFault → List ℕ
cause_behind fault.NoServer = codes " (is svscan running?)"
cause_behind fault.Forbidden = codes " (it is its owner's)"
cause_behind fault.Socket = codes " answered strangely, or the connection failed"
cause_behind fault.Ended = codes " ended the connection before it answered"
cause_behind fault.Unanswered = codes " ended the connection before it answered: whether it did what was asked can't be known"
cause_behind fault.NoAnswer = codes " (is svscan stopped?)"
cause_behind fault.TreeEnded = codes " has ended"
cause_behind fault.Program = codes " can't be started: is it there, and executable?"
cause_behind f = []
