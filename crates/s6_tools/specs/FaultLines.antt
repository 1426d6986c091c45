-- The first line on standard error of a tool that didn't do what it was asked for.
use Rattle.std.specs.Prelude.{ℕ, List, [], ◌∷◌, ◌++◌, codes}
use Rattle.tool_lines.specs.declared.tool.Tool.{Tool}
use Rattle.tool_lines.specs.ToolNames.{name_of}
use Rattle.s6_tools.specs.declared.tool_fault.ToolFault.{ToolFault}
use Rattle.s6_tools.specs.declared.tool_fault.ToolFault.TheVariants as fault

-- why it didn't
abbrev pub reason_of : ToolFault → List ℕ
reason_of (fault.Usage m) = codes "usage"
reason_of (fault.Refused reason) = codes "refused " ++ reason
reason_of (fault.Unread why) = codes "refused NoService"
reason_of fault.Busy = codes "busy"
reason_of fault.NoServer = codes "socket"
reason_of fault.Forbidden = codes "socket"
reason_of fault.LongPath = codes "socket"
reason_of fault.Socket = codes "socket"
reason_of fault.Ended = codes "socket"
reason_of fault.Unanswered = codes "socket"
reason_of fault.NoAnswer = codes "socket"
reason_of fault.TreeEnded = codes "socket"
reason_of fault.Program = codes "program"
reason_of fault.Write = codes "write"
reason_of fault.NoMemory = codes "no memory"

-- the name of the tool, a colon and a space, why it didn't, and a newline
abbrev pub fault_line : Tool → ToolFault → List ℕ
fault_line t f = name_of t ++ (codes ": " ++ (reason_of f ++ 10 ∷ []))
