-- Which fault of a post ends the connection.
use Rattle.std.specs.Prelude.{Bool, true, false}
use Rattle.line_server.specs.declared.outbox.PostFault.{PostFault}
use Rattle.line_server.specs.declared.outbox.PostFault.TheVariants.{Full, Closed, NoMemory}

-- where a text is missing, the connection ends; where the outbox was closed before, what waits in it is still written
abbrev pub ends_connection : PostFault → Bool
ends_connection Full = true
ends_connection Closed = false
ends_connection NoMemory = true
