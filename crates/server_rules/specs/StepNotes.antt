-- What the steps of a run have told so far.
use Rattle.std.specs.Prelude.{ℕ, ◌&&◌, ◌++◌, nat_le, nat_lt, map, List, [], Bool, true, if◌then◌else◌}
use Rattle.std.specs.declared.alloc.Global.{Global}
use Rattle.tree_core.specs.Machine.{Outcome}
use Rattle.tree_core.specs.declared.reply.Reply.{Reply}
use Rattle.tree_core.specs.declared.reply.Reply.TheVariants as reply
use Rattle.server_rules.specs.declared.roster.Member.{Member}
use Rattle.server_rules.specs.declared.status_lines.Subject.{Subject}
use Rattle.server_rules.specs.declared.status_lines.Subject.TheVariants as subject
use Rattle.server_rules.specs.declared.step_notes.StepNotes.{StepNotes}
use Rattle.server_rules.specs.Roster.{added, after_letters}

abbrev pub has_noted : ℕ → StepNotes → Bool
has_noted number n = nat_le number n.noted

abbrev pub with_next_run : StepNotes → StepNotes
with_next_run n = record n { noted = 0 }

-- the services that a step added, where it was a scan
abbrev pub added_by : Reply Global → List Member
added_by (reply.Scanned report) = added report.listed
added_by r = []

-- the clock of a tree never goes back
abbrev pub later_of : ℕ → ℕ → ℕ
later_of clock moment = if nat_lt clock moment then moment else clock

abbrev pub noted_at : ℕ → Outcome Global → ℕ → StepNotes → StepNotes
noted_at number o clock n = record {
  roster = map (after_letters clock o.events) (n.roster ++ added_by o.reply);
  clock = clock;
  noted = number;
}

-- a step is noted once: first the services that it added, and then its letters, at the clock of the tree
abbrev pub with_step : ℕ → ℕ → Outcome Global → StepNotes → StepNotes
with_step number moment o n = if has_noted number n then n else noted_at number o (later_of n.clock moment) n

-- states are told only where all steps were noted and the board shows them; rows are told always, as the board has them
abbrev pub tells_of : Subject → ℕ → Bool → StepNotes → Bool
tells_of subject.States steps is_shown n = has_noted steps n && is_shown
tells_of s steps is_shown n = true
