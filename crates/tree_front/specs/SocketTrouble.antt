-- The second line of a tree that did not run to its end.
use Rattle.std.specs.Prelude.{ℕ, List, [], ◌∷◌, ◌++◌, codes}
use Rattle.tool_lines.specs.Told.{escaped}
use Rattle.server_rules.specs.declared.serve_fault.ServeFault.{ServeFault}
use Rattle.server_rules.specs.declared.serve_fault.ServeFault.TheVariants as fault
use Rattle.tree_front.specs.declared.socket_trouble.Trouble.{Trouble}
use Rattle.tree_front.specs.declared.socket_trouble.Trouble.TheVariants as trouble

abbrev pub trouble_before : Trouble → List ℕ
trouble_before trouble.Length = codes "path is longer than 101 bytes: "
trouble_before trouble.Server = codes "another server answers or starts at "
trouble_before trouble.File = codes "another file is at "
trouble_before trouble.Beside = codes "another file has the name, with .new behind it, of "
trouble_before trouble.Folder = codes "no socket can be made in the folder of "

-- the words before the path
abbrev pub before_of : ServeFault → Trouble → List ℕ
before_of fault.Signals t = codes "CHLD is ignored, so no end of a service could be seen; start it by: env --default-signal=CHLD"
before_of fault.Shell t = codes "/bin/sh can't be run, by which signals are sent"
before_of fault.Socket t = trouble_before t
before_of fault.Directory t = codes "can't be read, or has too much in it for a line of a script: "
before_of fault.NoMemory t = codes "the system refused memory; try again later"
before_of fault.Thread t = codes "the system refused a thread; see ulimit -u"
before_of fault.Clock t = codes "the system has no clock"
before_of fault.Full t = codes "a run could not go over into the next"
before_of fault.Close t = codes "a run could not go over into the next"
before_of fault.Lanes t = codes "1 to 4 lanes are needed"
before_of fault.Record t = codes "can't be made or written, is no regular file, or another svscan uses it: "

abbrev pub second_line : ServeFault → Trouble → List ℕ → List ℕ
second_line f t path = codes "svscan: " ++ (before_of f t ++ (escaped 107 path ++ 10 ∷ []))
