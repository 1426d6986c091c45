-- What a contract sees of what svwait, svlisten, svstat and permafailon were told.
use Rattle.std.specs.Prelude.{◌≡◌, List, Some, option_map, option_and_then}
use Rattle.clap.specs.Words.{Row}
use Rattle.servicedir.specs.Number.{number_of}
use Rattle.death_tally.specs.DeathList.{death_list}
use Rattle.svc_commands.specs.RowsGiven.{condition_of, mode_of, timeout_of, names_of, fields_in, list_given, name_given}
use Rattle.svc_commands.specs.RowsGiven.{secs_given, count_given, exits_given}
use Rattle.svc_commands.specs.declared.permafailon.PermafailCommand.{PermafailCommand}
use Rattle.svc_commands.specs.declared.svstat.StatCommand.{StatCommand}
use Rattle.svc_commands.specs.declared.svwait.WaitCommand.{WaitCommand}

-- the command is what the matches say
pub record IsWaitCommand (rows : List Row) (command : WaitCommand) : Type 0 where
  pub condition : command.condition ≡ condition_of rows
  pub mode : command.mode ≡ mode_of rows
  pub timeout : command.timeout ≡ timeout_of rows
  pub names : command.names.items ≡ names_of rows

-- the command is what the matches say
pub record IsStatCommand (rows : List Row) (command : StatCommand) : Type 0 where
  pub name : name_given rows ≡ Some command.name
  pub fields : option_map fields_in (list_given rows) ≡ Some command.fields.items

-- the command is what the matches say
pub record IsPermafailCommand (rows : List Row) (command : PermafailCommand) : Type 0 where
  pub name : name_given rows ≡ Some command.name
  pub secs : option_and_then number_of (secs_given rows) ≡ Some command.secs
  pub count : option_and_then number_of (count_given rows) ≡ Some command.count
  pub list : option_and_then death_list (exits_given rows) ≡ Some command.list
