-- Which program an order starts, with which arguments, and where.
use Rattle.std.specs.Prelude.{ℕ, List, [], ◌∷◌, ◌++◌, codes, decimal, ◌&&◌, nat_le}
use Rattle.std.specs.Prelude.{if◌then◌else◌, Option, Some, None}
use Rattle.std.specs.Process.{command_program, command_args, command_dir}
use Rattle.std.specs.declared.process.command.Command.{Command}
use Rattle.child_runner.specs.declared.started_program.Program.{Program}
use Rattle.child_runner.specs.declared.started_program.Program.TheVariants.{Run, Finish}

-- a program, its arguments, and the directory in which it runs
pub record CommandLine : Type 0 where
  pub program : List ℕ
  pub arguments : List (List ℕ)
  pub directory : Option (List ℕ)

-- what a command starts
abbrev pub line_of : {A : Type 0} → Command A → CommandLine
line_of c = record { program = command_program c; arguments = command_args c; directory = command_dir c }

-- the path of a program of the service in this directory
abbrev pub program_path : List ℕ → Program → List ℕ
program_path directory Run = directory ++ codes "/run"
program_path directory Finish = directory ++ codes "/finish"

-- a shell redirects the notification descriptor to where the child's output is read, and the child's standard output to its standard error; where
-- it can't become `run`, it tells the path
abbrev pub start_script : ℕ → List ℕ
start_script fd =
    codes "trap 'printf \"svscan: %s can\\047t be started\\n\" \"$2\" >&2' EXIT; exec \"$0\" \"$1\" " ++ decimal fd ++ codes ">&1 1>&2"

-- `run NAME`, for a descriptor that the child has already
abbrev pub plain_line : List ℕ → List ℕ → CommandLine
plain_line directory name = record { program = codes "./run"; arguments = name ∷ []; directory = Some directory }

-- the same, started by a shell, for a descriptor of 3 to 9
abbrev pub shell_line : List ℕ → List ℕ → ℕ → CommandLine
shell_line directory name fd = record {
  program = codes "/bin/sh";
  arguments = codes "-c" ∷ start_script fd ∷ codes "./run" ∷ name ∷ program_path directory Run ∷ [];
  directory = Some directory;
}

abbrev pub run_line : List ℕ → List ℕ → Option ℕ → CommandLine
run_line directory name None = plain_line directory name
run_line directory name (Some fd) =
    if nat_le 3 fd && nat_le fd 9 then shell_line directory name fd else plain_line directory name

-- `finish CODE SIGNAL NAME`
abbrev pub finish_line : List ℕ → List ℕ → ℕ → ℕ → CommandLine
finish_line directory name code signal = record {
  program = codes "./finish";
  arguments = decimal code ∷ decimal signal ∷ name ∷ [];
  directory = Some directory;
}

-- a shell reads who is the parent of the process, where /proc tells of its own numbers, and goes on only if it is this shell's own; where /proc
-- hides processes, as that of number 1, it goes on also where it can't read that
abbrev pub kill_script : List ℕ
kill_script = codes "exec 2>/dev/null; p=; [ ! /proc/self -ef /proc/$$ ] || { while read -r l p; do "
    ++ codes "case $l in PPid:) break ;; esac; done </proc/$1/status; [ \"$p\" = $PPID ] || "
    ++ codes "{ [ -z \"$p\" ] && [ ! -r /proc/1/status ]; }; } && kill -$0 $1"

-- `kill -SIGNAL PID`, by that shell
abbrev pub kill_line : ℕ → ℕ → CommandLine
kill_line pid signal = record {
  program = codes "/bin/sh";
  arguments = codes "-c" ∷ kill_script ∷ decimal signal ∷ decimal pid ∷ [];
  directory = None;
}
