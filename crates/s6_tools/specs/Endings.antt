-- The status with which a tool ends.
use Rattle.std.specs.Prelude.{ℕ, Bool, true, false, codes}
use Rattle.std.specs.Str.{bytes_eq}
use Rattle.s6_tools.specs.declared.answer.Outcome.{Outcome}
use Rattle.s6_tools.specs.declared.answer.Outcome.TheVariants as outcome
use Rattle.tool_lines.specs.declared.misuse.Misuse.TheVariants as misuse
use Rattle.tool_lines.specs.declared.tool.Tool.{Tool}
use Rattle.tool_lines.specs.declared.tool.Tool.TheVariants as tool
use Rattle.s6_tools.specs.declared.tool_fault.ToolFault.{ToolFault}
use Rattle.s6_tools.specs.declared.tool_fault.ToolFault.TheVariants as fault
use Rattle.svc_commands.specs.declared.usage_fault.UsageFault.{UsageFault}
use Rattle.svc_commands.specs.declared.usage_fault.UsageFault.TheVariants as usage

-- for a waiter that was released with this outcome
abbrev pub status_of_outcome : Outcome → ℕ
status_of_outcome outcome.Held = 0
status_of_outcome outcome.Failed = 1
status_of_outcome outcome.Gone = 2
status_of_outcome outcome.TimedOut = 99

-- for a request that was refused
abbrev pub status_of_refusal : Tool → ℕ
status_of_refusal tool.Svwait = 111
status_of_refusal tool.Svlisten = 111
status_of_refusal t = 1

-- for a tool that didn't do what it was asked for
abbrev pub status_of_fault : Tool → ToolFault → ℕ
status_of_fault t (fault.Usage m) = 100
status_of_fault t (fault.Refused reason) = status_of_refusal t
status_of_fault t (fault.Unread why) = status_of_refusal t
status_of_fault t f = 111

-- the server had no room and did nothing
abbrev pub is_busy : ToolFault → Bool
is_busy fault.Busy = true
is_busy (fault.Refused reason) = bytes_eq reason (codes "Busy")
is_busy f = false

-- the same may be asked again: the server had no room, or the connection ended before the answer to a request that may come twice
abbrev pub may_be_retried : ToolFault → Bool
may_be_retried fault.Ended = true
may_be_retried f = is_busy f

-- what is told of the end of a connection before the answer, where the request may not come twice
abbrev pub of_request : Bool → ToolFault → ToolFault
of_request false fault.Ended = fault.Unanswered
of_request harmless f = f

-- the fault of a tool for this fault of its words
abbrev pub fault_of_usage : UsageFault → ToolFault
fault_of_usage usage.Unknown = fault.Usage misuse.Unknown
fault_of_usage usage.Missing = fault.Usage misuse.Missing
fault_of_usage usage.TooMany = fault.Usage misuse.TooMany
fault_of_usage usage.BadNumber = fault.Usage misuse.BadNumber
fault_of_usage usage.BadList = fault.Usage misuse.BadList
fault_of_usage usage.BadName = fault.Usage misuse.BadName
fault_of_usage usage.NoMemory = fault.NoMemory
