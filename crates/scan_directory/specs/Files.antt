-- What was found of a service directory.
use Rattle.std.specs.Prelude.{ℕ, List, [], Option, Some, None}
use Rattle.servicedir.specs.declared.files.ServiceFile.{ServiceFile}
use Rattle.servicedir.specs.declared.files.ServiceFile.TheVariants as file
use Rattle.scan_directory.specs.declared.service_files.Reading.{Reading}
use Rattle.scan_directory.specs.declared.service_files.Reading.TheVariants as reading
use Rattle.scan_directory.specs.declared.service_files.ServiceFiles.{ServiceFiles}

-- what was found of this file
abbrev pub found_of : ServiceFiles → ServiceFile → Reading
found_of files file.Run = files.run
found_of files file.Kind = files.kind
found_of files file.Finish = files.finish
found_of files file.Down = files.down
found_of files file.NotificationFd = files.notification_fd
found_of files file.TimeoutKill = files.timeout_kill
found_of files file.TimeoutFinish = files.timeout_finish
found_of files file.MaxDeathTally = files.max_death_tally
found_of files file.DownSignal = files.down_signal

-- the content of a file, if it is known to be there; one that can't be read counts as empty
abbrev pub content_of : Reading → Option (List ℕ)
content_of reading.Absent = None
content_of (reading.Text text) = Some text.items
content_of reading.Unread = Some []
content_of reading.Unknown = None
content_of reading.NoMemory = None

-- the text of a file, where it was read
abbrev pub text_in : Reading → Option (List ℕ)
text_in (reading.Text text) = Some text.items
text_in other = None
