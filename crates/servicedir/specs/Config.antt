-- What each file of a service directory means.
use Rattle.std.specs.Prelude.{ℕ, List, Bool, false, Option, Some, None, is_some, unwrap_or, min, nat_le, length, ◌==◌}
use Rattle.std.specs.Prelude.{◌&&◌, ◌||◌, if◌then◌else◌}
use Rattle.servicedir.specs.Number.{number_of}
use Rattle.servicedir.specs.SignalName.{signal_of}
pub use Rattle.servicedir.specs.Files.{Directory}
use Rattle.servicedir.specs.declared.files.ServiceFile.TheVariants.{Finish, Down, NotificationFd, TimeoutKill}
use Rattle.servicedir.specs.declared.files.ServiceFile.TheVariants.{TimeoutFinish, MaxDeathTally, DownSignal}
use Rattle.servicedir.specs.declared.config.Config.{Config}
use Rattle.servicedir.specs.declared.dir_fault.DirFault.{DirFault}
use Rattle.servicedir.specs.declared.dir_fault.DirFault.TheVariants as fault
use Rattle.servicedir.specs.declared.reading.Found.{Found}

-- what a directory with nothing but `run` says
abbrev pub plain_config : Config
plain_config = record {
  down = false;
  finish = false;
  notification_fd = None;
  timeout_kill = 0;
  timeout_finish = 5000;
  max_death_tally = 100;
  down_signal = 15;
}

-- the greatest length of a text that may be valid
abbrev pub text_limit : ℕ
text_limit = 4096

-- the number that a file says; none where the file is absent or its text is not valid
abbrev pub number_in : Option (List ℕ) → Option ℕ
number_in None = None
number_in (Some text) = if nat_le (length text) text_limit then number_of text else None

-- the signal that a file says; none where the file is absent or its text is not valid
abbrev pub signal_in : Option (List ℕ) → Option ℕ
signal_in None = None
signal_in (Some text) = if nat_le (length text) text_limit then signal_of text else None

-- the descriptors that are served: 1, and 3 to 9
abbrev pub is_served : ℕ → Bool
is_served number = (number == 1) || (nat_le 3 number && nat_le number 9)

-- a number that is a served descriptor
abbrev pub served_number : Option ℕ → Option ℕ
served_number None = None
served_number (Some number) = if is_served number then Some number else None

-- notification-fd: a served descriptor, else no readiness
abbrev pub notification_fd_of : Option (List ℕ) → Option ℕ
notification_fd_of content = served_number (number_in content)

-- timeout-kill: milliseconds, else never
abbrev pub timeout_kill_of : Option (List ℕ) → ℕ
timeout_kill_of content = unwrap_or (number_in content) plain_config.timeout_kill

-- timeout-finish: milliseconds, else 5000
abbrev pub timeout_finish_of : Option (List ℕ) → ℕ
timeout_finish_of content = unwrap_or (number_in content) plain_config.timeout_finish

-- max-death-tally: a number, else 100, and 4096 at the most
abbrev pub max_death_tally_of : Option (List ℕ) → ℕ
max_death_tally_of content = min (unwrap_or (number_in content) plain_config.max_death_tally) 4096

-- down-signal: a signal, else SIGTERM
abbrev pub down_signal_of : Option (List ℕ) → ℕ
down_signal_of content = unwrap_or (signal_in content) plain_config.down_signal

-- the configuration that the files say
unfoldable pub config_of : Directory → Config
config_of directory = record {
  down = is_some (directory Down);
  finish = is_some (directory Finish);
  notification_fd = notification_fd_of (directory NotificationFd);
  timeout_kill = timeout_kill_of (directory TimeoutKill);
  timeout_finish = timeout_finish_of (directory TimeoutFinish);
  max_death_tally = max_death_tally_of (directory MaxDeathTally);
  down_signal = down_signal_of (directory DownSignal);
}

-- the note for a notification-fd that is there, where this is the served descriptor that it names, or it names none
abbrev pub note_beside : Option ℕ → Option DirFault
note_beside (Some descriptor) = None
note_beside None = Some fault.NotifyFd

-- a notification-fd that is there and names no served descriptor is noted
abbrev pub note_of : Option (List ℕ) → Option DirFault
note_of None = None
note_of (Some text) = note_beside (notification_fd_of (Some text))

-- the configuration, and the note beside it
abbrev pub found_of : Directory → Found
found_of directory = record { config = config_of directory; note = note_of (directory NotificationFd) }
