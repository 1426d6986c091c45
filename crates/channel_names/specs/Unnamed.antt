-- The names that a program starts from, which name nothing.
use denote.RawPtr.{null_ptr}
use Rattle.logbook.specs.Pages.{Book}
use Rattle.channel_names.specs.RingName.{RingName}

-- a name that is no ring's
abbrev pub no_ring : RingName
no_ring = record { words = null_ptr; slots = null_ptr; names = (0, (0, 0)) }

-- a name that is no history's
abbrev pub no_history : Book
no_history = record { number = 0; log_name = 0; cells_name = 0 }
