-- What is told of a tree that did not run to its end.
use Rattle.std.specs.Prelude.{ℕ, List, codes}
use Rattle.server_rules.specs.declared.serve_fault.ServeFault.{ServeFault}
use Rattle.server_rules.specs.declared.serve_fault.ServeFault.TheVariants as fault

abbrev pub fault_text : ServeFault → List ℕ
fault_text fault.Signals = codes "svscan: signals\n"
fault_text fault.Shell = codes "svscan: no shell\n"
fault_text fault.Socket = codes "svscan: socket\n"
fault_text fault.Directory = codes "svscan: directory\n"
fault_text fault.NoMemory = codes "svscan: no memory\n"
fault_text fault.Thread = codes "svscan: thread\n"
fault_text fault.Clock = codes "svscan: clock\n"
fault_text fault.Full = codes "svscan: full\n"
fault_text fault.Lanes = codes "svscan: lanes\n"
fault_text fault.Close = codes "svscan: close\n"
fault_text fault.Record = codes "svscan: record\n"
