-- The state of a service in one word.
use Rattle.std.specs.Prelude.{ℕ, List, Bool, true, false, Option, Some, None, codes}
use Rattle.s6_events.specs.declared.exit.Exit.{Exit}
use Rattle.supervise_core.specs.declared.row.Row.{Row}
use Rattle.server_rules.specs.declared.roster.Ending.{Ending}
use Rattle.server_rules.specs.declared.roster.Ending.TheVariants as ending
use Rattle.server_rules.specs.declared.state_word.StateWord.{StateWord}
use Rattle.server_rules.specs.declared.state_word.StateWord.TheVariants as state

-- the state of a service that is up, by whether it is paused and whether it has said that it is ready
abbrev pub up_state : Bool → Bool → StateWord
up_state true ready = state.Paused
up_state false true = state.Ready
up_state false false = state.Up

-- the state of one that stays down: it was told to, or it failed for good
abbrev pub stays_down : Option Ending → StateWord
stays_down (Some ending.Failed) = state.Failed
stays_down e = state.Down

-- the state of one that is not up and has not run yet, by whether it is wanted up
abbrev pub unborn_state : Option Ending → Bool → StateWord
unborn_state e true = state.Starting
unborn_state e false = stays_down e

-- the state of one that has died, by whether its `finish` is done and whether it is wanted up
abbrev pub dead_state : Option Ending → Bool → Bool → StateWord
dead_state e false wanted_up = state.Finishing
dead_state e true true = state.Restarting
dead_state e true false = stays_down e

-- the state of one that is not up, by how it died, if it has; by `ready`, which says that its `finish` is done; and by whether it is wanted
-- up. One that has not run yet shows `ready` too
abbrev pub down_state : Option Ending → Option Exit → Bool → Bool → StateWord
down_state e None ready wanted_up = unborn_state e wanted_up
down_state e (Some exit) ready wanted_up = dead_state e ready wanted_up

abbrev pub state_by : Bool → StateWord → StateWord → StateWord
state_by true when_up when_down = when_up
state_by false when_up when_down = when_down

-- the state of a service whose supervisor is there, by its row
abbrev pub supervised_state : Option Ending → Row → StateWord
supervised_state e row = state_by row.up (up_state row.paused row.ready) (down_state e row.exit row.ready row.wanted_up)

-- the state after a failed start: instead of starting or restarting it is `startfailed`
abbrev pub state_after_failed_start : StateWord → StateWord
state_after_failed_start state.Starting = state.StartFailed
state_after_failed_start state.Restarting = state.StartFailed
state_after_failed_start s = s

abbrev pub started_state : Bool → StateWord → StateWord
started_state true s = state_after_failed_start s
started_state false s = s

-- the state of a service, by what its letters say of its end, by whether its start failed since the last of them, and by its row
abbrev pub state_of : Option Ending → Bool → Row → StateWord
state_of (Some ending.Gone) start_failed row = state.Gone
state_of e start_failed row = started_state start_failed (supervised_state e row)

abbrev pub state_word : StateWord → List ℕ
state_word state.Paused = codes "paused"
state_word state.Ready = codes "ready"
state_word state.Up = codes "up"
state_word state.Finishing = codes "finishing"
state_word state.Starting = codes "starting"
state_word state.StartFailed = codes "startfailed"
state_word state.Restarting = codes "restarting"
state_word state.Down = codes "down"
state_word state.Failed = codes "failed"
state_word state.Gone = codes "gone"
