-- The names of the tools.
use Rattle.std.specs.Prelude.{ℕ, List, codes}
use Rattle.tool_lines.specs.declared.tool.Tool.{Tool}
use Rattle.tool_lines.specs.declared.tool.Tool.TheVariants as tool

-- the name of a tool, as the first word of the program
abbrev pub name_of : Tool → List ℕ
name_of tool.Svc = codes "svc"
name_of tool.Svstat = codes "svstat"
name_of tool.List = codes "list"
name_of tool.Follow = codes "follow"
name_of tool.Record = codes "record"
name_of tool.Svwait = codes "svwait"
name_of tool.Svlisten = codes "svlisten"
name_of tool.Svscanctl = codes "svscanctl"
name_of tool.Mkfifodir = codes "mkfifodir"
name_of tool.FtrigNotify = codes "ftrig-notify"
name_of tool.FtrigWait = codes "ftrig-wait"
name_of tool.Permafailon = codes "permafailon"
