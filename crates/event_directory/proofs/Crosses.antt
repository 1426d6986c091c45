-- Patterns and directories may go to another thread.
use denote.Param.Send.{IsSend, sendable}
use Rattle.std.proofs.Crossing.{crosses, frees}
use Rattle.text_matcher.proofs.Crosses.{matcher_send}
use Rattle.std.proofs.alloc.Global.TheSendSync as global
use Rattle.std.specs.contracts.alloc.Global as Global
use Rattle.std.specs.contracts.impls.GlobalAllocator.TheImpl as heap
use Rattle.event_directory.proofs.directories.Directories.TheSendSync as directories
use Rattle.event_directory.specs.contracts.directories.Directories as Directories
use Rattle.event_directory.specs.contracts.pattern.Pattern as Pattern
use Rattle.event_directory.specs.contracts.pattern.PatternFinds.TheImpl as finds

pub pattern_send : IsSend Pattern.the_row
pattern_send = search (matcher_send, crosses, sendable) depth 60 fits 20000

-- what is generic in its pattern may, where its pattern may
pub directories_send : IsSend (Directories.the_row Pattern.the_row Global.the_row finds.ghosts heap.ghosts)
directories_send =
    directories.the_send Pattern.the_row Global.the_row finds.ghosts heap.ghosts pattern_send global.the_send frees
