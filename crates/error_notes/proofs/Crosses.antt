-- Notes may be shared between threads.
use denote.Param.Send.{IsSend, IsSync, sendable}
use Rattle.std.proofs.Crossing.{crosses}
use Rattle.error_notes.proofs.notes.Notes.TheSendSync as notes
use Rattle.error_notes.specs.contracts.notes.Notes as Notes

pub notes_send : IsSend Notes.the_row
notes_send = search (notes.the_send, crosses, sendable) depth 60 fits 20000

pub notes_sync : IsSync Notes.the_row
notes_sync = search (notes.the_sync, crosses, sendable) depth 60 fits 20000
