-- What each move of a service makes of its timer, and that a run comes only after the pause.
use Rattle.std.proofs.Common.{◌≡◌, refl, sym, ap, subst, ◌∙◌, ℕ, ◌+◌, ◌≤◌, List, [], ◌∷◌, ◌==◌, ◌||◌, ◌&&◌, not, Bool, true, false, cond, fold}
use Rattle.std.proofs.Common.{arith, rules}
use Rattle.std.specs.Prelude.{Option, Some, None, nat_le, max}
use Rattle.std.specs.List.{list_any}
use Rattle.std.proofs.lemmas.Bool.Decides.{nat_tests}
use Rattle.std.proofs.lemmas.List.Folds.{list_any-append}
use Rattle.std.proofs.lemmas.List.Sums.{fold-append}
use Rattle.finish_core.specs.declared.exit_verdict.Verdict125.{Verdict125}
use Rattle.finish_core.specs.declared.exit_verdict.Verdict125.TheVariants.{Permanent, Ordinary}
use Rattle.finish_core.specs.ExitVerdict.{verdict_of}
use Rattle.finish_core.specs.Restart.{was_ready_long, restart_moment}
use Rattle.s6_events.specs.declared.exit.Exit.{Exit}
use Rattle.s6_events.specs.declared.mark.Mark.TheVariants.{Died, FinishDone, SupervisorEnded}
use Rattle.servicedir.specs.declared.config.Config.{Config}
use Rattle.control_letters.specs.declared.control_letter.ControlLetter.{ControlLetter}
use Rattle.supervise_core.specs.declared.change.Change.{Change}
use Rattle.s6_events.specs.declared.report.Report.TheVariants.{Started, StartFailed, Notify, Death, FinishEnded}
use Rattle.supervise_core.specs.declared.change.Change.TheVariants.{Report, Control, Fire, SetConfig, SetActive}
use Rattle.supervise_core.specs.declared.chart_state.ChartState.{ChartState}
use Rattle.supervise_core.specs.declared.phase.Phase.{Phase}
use Rattle.supervise_core.specs.declared.phase.Phase.TheVariants.{Down, Starting, Up, Finish, Gone}
use Rattle.supervise_core.specs.ChartState.{Moved, no_move, stale_move, with_mark, is_up, is_starting, is_finishing}
use Rattle.supervise_core.specs.ControlLetters.{then_move}
use Rattle.supervise_core.specs.Moves.{settle_move, finish_move, run_move, at_rest, end_move}
use Rattle.supervise_core.specs.Reports.{is_awaiting, is_running, is_in_finish, failed_spawn_move, with_last_exit, with_reported_death}
use Rattle.supervise_core.specs.Reports.{finish_done_move}
use Rattle.supervise_core.specs.Chart.{started_move, start_failed_move, notify_move, death_move, finish_ended_move, control_move, letter_move}
use Rattle.supervise_core.specs.Chart.{timer_rule, is_due, fire_move, changed_by, with_activity}
use Rattle.svscan_core.specs.declared.entry.Entry.{Entry}
use Rattle.svscan_core.specs.declared.entry.ScanOrder.{ScanOrder}
use Rattle.svscan_core.specs.declared.entry.ScanOrder.TheVariants.{Nuke, Terminate}
use Rattle.svscan_core.specs.Listing.{has_entry, listed_config}
use Rattle.svscan_core.specs.Scan.{with_read_config, after_look}
use Rattle.svscan_core.specs.Work.{command_move, leave_letters}
use Rattle.svscan_core.proofs.Truth.{neither_of, neither_left, neither_right}
use Rattle.tree_core.specs.Closing.{is_run}
use Rattle.tree_core.specs.Pause.{PastDeath, Past, past_with, was_long_ready, has_paused}
use Rattle.tree_core.specs.Permanent.{is_up_letter, wants_up}
use Rattle.tree_core.proofs.OwnWork.{Did, move_of, told_of}
use Rattle.tree_core.proofs.OwnWork.Did.{takes, obeys, looks}

-- a timer that starts a run does that after the pause
abbrev pub IsLate : Option PastDeath → Option ℕ → Type 0
IsLate death_move None = Unit
IsLate death_move (Some due) = has_paused due death_move ≡ true

abbrev pub TimerIsLate : Phase → Option PastDeath → Option ℕ → Type 0
TimerIsLate Up death_move timer = Unit
TimerIsLate Finish death_move timer = Unit
TimerIsLate phase death_move timer = IsLate death_move timer

-- what the state has of the last death, and of readiness, is what the marks told
abbrev pub KnowsDeath : Phase → Option PastDeath → ℕ → Option ℕ → Type 0
KnowsDeath Finish death_move at since = death_move ≡ Some (record { at = at; ready_since = since })
KnowsDeath phase death_move at since = Unit

abbrev pub KnowsReady : Phase → Option ℕ → Option ℕ → Type 0
KnowsReady Up told since = told ≡ since
KnowsReady phase told since = Unit

pub record Paced (past : Past) (c : ChartState) : Type 0 where
  pub timer : TimerIsLate c.phase past.last_death c.timer
  pub death : KnowsDeath c.phase past.last_death c.died_at c.ready_since
  pub ready : KnowsReady c.phase past.ready_since c.ready_since

-- after a move at a moment: so it is again, and the second after the last death is over a second from now
pub record Paces (past : Past) (now : ℕ) (m : Moved) : Type 0 where
  pub paced : Paced (fold (past_with now) past m.marks) m.chart
  pub bound : has_paused (now + 1000) (fold (past_with now) past m.marks).last_death ≡ true

-- and where it started a run the pause is over
abbrev pub RunsLate : Past → ℕ → Moved → Type 0
RunsLate past now m = list_any is_run m.orders ≡ true → has_paused now (fold (past_with now) past m.marks).last_death ≡ true

pub paused_later : (m n : ℕ) (death_move : Option PastDeath) → m ≤ n → has_paused m death_move ≡ true → has_paused n death_move ≡ true
paused_later m n None h k = refl
paused_later m n (Some death_move) h k = by (was_long_ready death_move.ready_since death_move.at) k
  where
    by : (b : Bool) → (b || nat_le (death_move.at + 1000) m) ≡ true → (b || nat_le (death_move.at + 1000) n) ≡ true
    by true k = refl
    by false k = grind (arith, nat_tests)

-- the pause ends as the restart of finish has it
same_readiness : (since : Option ℕ) (died : ℕ) → was_ready_long since died ≡ was_long_ready since died
same_readiness None died = refl
same_readiness (Some since) died = grind (arith, nat_tests)

-- a restart comes after the pause
paused_restart : (since : Option ℕ) (died now : ℕ)
    → has_paused (restart_moment since died now) (Some (record { at = died; ready_since = since })) ≡ true
paused_restart since died now =
    ap (λ b. b || nat_le (died + 1000) (restart_moment since died now)) (sym (same_readiness since died)) ∙ by (was_ready_long since died)
  where
    by : (b : Bool) → (b || nat_le (died + 1000) (cond b now (max now (died + 1000)))) ≡ true
    by true = refl
    by false = grind (arith, nat_tests)

paused_now : (since : Option ℕ) (died now : ℕ) → nat_le (restart_moment since died now) now ≡ true
    → has_paused now (Some (record { at = died; ready_since = since })) ≡ true
paused_now since died now h = paused_later (restart_moment since died now) now (Some (record { at = died; ready_since = since }))
    (below (restart_moment since died now) now h) (paused_restart since died now)
  where
    below : (m n : ℕ) → nat_le m n ≡ true → m ≤ n
    below m n h = grind (arith, nat_tests)

paused_soon : (since : Option ℕ) (now : ℕ) → has_paused (now + 1000) (Some (record { at = now; ready_since = since })) ≡ true
paused_soon since now = by (was_long_ready since now)
  where
    by : (b : Bool) → (b || nat_le (now + 1000) (now + 1000)) ≡ true
    by true = refl
    by false = grind (arith, nat_tests)

paused_minute : (now : ℕ) (death_move : Option PastDeath) → has_paused (now + 1000) death_move ≡ true → has_paused (now + 60000) death_move ≡ true
paused_minute now death_move h = paused_later (now + 1000) (now + 60000) death_move (omega arith) h

still_paces : (past : Past) (now : ℕ) (c : ChartState) → Paced past c → has_paused (now + 1000) past.last_death ≡ true → Paces past now (no_move c)
still_paces past now c h bound = record { paced = record { timer = h.timer; death = h.death; ready = h.ready }; bound = bound }

letter_paces : (past : Past) (now : ℕ) (letter : ControlLetter) (c : ChartState) → Paced past c → has_paused (now + 1000) past.last_death ≡ true
    → Paces past now (letter_move now letter c)
letter_paces past now letter c h bound = search (h, bound, rules)

letter_runs : (now : ℕ) (letter : ControlLetter) (c : ChartState) → is_up_letter letter ≡ false
    → list_any is_run (letter_move now letter c).orders ≡ false
letter_runs now letter c k = search (k, rules)

started_paces : (past : Past) (generation pid now : ℕ) (c : ChartState) → Paced past c → has_paused (now + 1000) past.last_death ≡ true
    → Paces past now (started_move generation pid now c)
started_paces past generation pid now c h bound = search (h, bound, rules)

started_runs : (generation pid now : ℕ) (c : ChartState) → list_any is_run (started_move generation pid now c).orders ≡ false
started_runs generation pid now c = search rules

notified_paces : (past : Past) (generation : ℕ) (bytes : List ℕ) (now : ℕ) (c : ChartState) → Paced past c
    → has_paused (now + 1000) past.last_death ≡ true
    → Paces past now (notify_move generation bytes now c)
notified_paces past generation bytes now c h bound = search (h, bound, rules)

notified_runs : (generation : ℕ) (bytes : List ℕ) (now : ℕ) (c : ChartState) → list_any is_run (notify_move generation bytes now c).orders ≡ false
notified_runs generation bytes now c = search rules

active_paces : (past : Past) (active : Bool) (now : ℕ) (c : ChartState) → Paced past c → has_paused (now + 1000) past.last_death ≡ true
    → Paces past now (no_move (with_activity active now c))
active_paces past active now c h bound = search (h, bound, rules)

not_spawned_paces : (past : Past) (now : ℕ) (c : ChartState) → IsLate past.last_death c.timer → has_paused (now + 1000) past.last_death ≡ true
    → Paces past now (failed_spawn_move now c)
not_spawned_paces past now c h bound = let minute = paused_minute now past.last_death bound in search (h, bound, minute, rules)

not_spawned_runs : (now : ℕ) (c : ChartState) → list_any is_run (failed_spawn_move now c).orders ≡ false
not_spawned_runs now c = search rules

-- a move that paces, and starts a run only after the pause
pub record PacesLate (past : Past) (now : ℕ) (m : Moved) : Type 0 where
  pub paces : Paces past now m
  pub runs : RunsLate past now m

no_run : (past : Past) (now : ℕ) (m : Moved) → list_any is_run m.orders ≡ false → RunsLate past now m
no_run past now m h = λ k. cc

-- what comes after finish
ended_paces : (past : Past) (now : ℕ) (c : ChartState) → has_paused (now + 1000) past.last_death ≡ true → Paces past now (end_move now c)
ended_paces past now c bound = by c.active
  where
    by : (b : Bool) → Paces past now (with_mark SupervisorEnded (no_move (record c { phase = Gone; timer = cond b (Some (now + 1000)) None })))
    by true = record { paced = record { timer = bound; death = tt; ready = tt }; bound = bound }
    by false = record { paced = record { timer = tt; death = tt; ready = tt }; bound = bound }

settle_paces : (past : Past) (now : ℕ) (c : ChartState) → past.last_death ≡ Some (record { at = c.died_at; ready_since = c.ready_since })
    → has_paused (now + 1000) past.last_death ≡ true
    → PacesLate past now (settle_move now c)
settle_paces past now c d bound = by c.exit_requested c.wanted_up (nat_le (restart_moment c.ready_since c.died_at now) now) refl
  where
    restart : has_paused (restart_moment c.ready_since c.died_at now) past.last_death ≡ true
    restart = subst (λ x. has_paused (restart_moment c.ready_since c.died_at now) x ≡ true) (sym d) (paused_restart c.ready_since c.died_at now)

    by : (x w r : Bool) → nat_le (restart_moment c.ready_since c.died_at now) now ≡ r
        → PacesLate past now (cond x (end_move now (at_rest c)) (cond (not w) (no_move (at_rest c))
        (cond r (run_move (at_rest c)) (no_move (record (at_rest c) { timer = Some (restart_moment c.ready_since c.died_at now) })))))
    by true w r e = record { paces = ended_paces past now (at_rest c) bound; runs = no_run past now (end_move now (at_rest c)) refl }
    by false false r e = record {
      paces = record { paced = record { timer = tt; death = tt; ready = tt }; bound = bound };
      runs =
          no_run past now (no_move (at_rest c)) refl;
    }
    by false true true e = record {
      paces = record { paced = record { timer = tt; death = tt; ready = tt }; bound = bound };
      runs = λ k. subst (λ x. has_paused now x ≡ true) (sym d) (paused_now c.ready_since c.died_at now e);
    }
    by false true false e = record {
      paces = record { paced = record { timer = restart; death = tt; ready = tt }; bound = bound };
      runs = no_run past now (no_move (record (at_rest c) { timer = Some (restart_moment c.ready_since c.died_at now) })) refl;
    }

knows_death : (p : Phase) (is : Bool) (death_move : Option PastDeath) (at : ℕ) (since : Option ℕ) → (is_finishing p && is) ≡ true
    → KnowsDeath p death_move at since
    → death_move ≡ Some (record { at = at; ready_since = since })
knows_death Finish is death_move at since e h = h
knows_death Down is death_move at since e h = cc
knows_death Starting is death_move at since e h = cc
knows_death Up is death_move at since e h = cc
knows_death Gone is death_move at since e h = cc

knows_ready : (p : Phase) (is : Bool) (told since : Option ℕ) → (is_up p && is) ≡ true → KnowsReady p told since → told ≡ since
knows_ready Up is told since e h = h
knows_ready Down is told since e h = cc
knows_ready Starting is told since e h = cc
knows_ready Finish is told since e h = cc
knows_ready Gone is told since e h = cc

awaits : (p : Phase) (is : Bool) (death_move : Option PastDeath) (timer : Option ℕ) → (is_starting p && is) ≡ true → TimerIsLate p death_move timer
    → IsLate death_move timer
awaits Starting is death_move timer e h = h
awaits Down is death_move timer e h = cc
awaits Up is death_move timer e h = cc
awaits Finish is death_move timer e h = cc
awaits Gone is death_move timer e h = cc

refused_paces : (past : Past) (now : ℕ) (c : ChartState) → Paced past c → has_paused (now + 1000) past.last_death ≡ true
    → PacesLate past now (stale_move c)
refused_paces past now c h bound =
    record {
      paces = record { paced = record { timer = h.timer; death = h.death; ready = h.ready }; bound = bound };
      runs =
          no_run past now (stale_move c) refl;
    }

start_failed_paces : (past : Past) (generation now : ℕ) (c : ChartState) → Paced past c → has_paused (now + 1000) past.last_death ≡ true
    → PacesLate past now (start_failed_move generation now c)
start_failed_paces past generation now c h bound = by (is_awaiting generation c) (is_in_finish generation c) refl refl
  where
    by : (a f : Bool) → is_awaiting generation c ≡ a → is_in_finish generation c ≡ f
        → PacesLate past now (cond a (failed_spawn_move now c) (cond f (with_mark FinishDone (settle_move now c)) (stale_move c)))
    by true f e g = record {
      paces = not_spawned_paces past now c (awaits c.phase (c.generation == generation) past.last_death c.timer e h.timer) bound;
      runs = no_run past now (failed_spawn_move now c) (not_spawned_runs now c);
    }
    by false true e g =
        let rest = settle_paces past now c (knows_death c.phase (c.generation == generation) past.last_death c.died_at c.ready_since g h.death)
        bound in
        record { paces = record { paced = rest.paces.paced; bound = rest.paces.bound }; runs = rest.runs }
    by false false e g = refused_paces past now c h bound

after_death_paces : (past : Past) (exit : Exit) (now : ℕ) (c : ChartState) → past.ready_since ≡ c.ready_since
    → PacesLate past now (with_reported_death now exit
    (with_mark Died (cond c.config.finish (finish_move exit now (with_last_exit exit now c))
    (with_mark FinishDone (settle_move now (with_last_exit exit now c))))))
after_death_paces past exit now c e =
    by c.config.finish (settle_paces (past_with now past Died) now (with_last_exit exit now c) (λ i. Some (record { at = now; ready_since = e i }))
    (paused_soon past.ready_since now))
  where
    by : (b : Bool) → PacesLate (past_with now past Died) now (settle_move now (with_last_exit exit now c))
        → PacesLate past now (with_reported_death now exit
        (with_mark Died (cond b (finish_move exit now (with_last_exit exit now c))
        (with_mark FinishDone (settle_move now (with_last_exit exit now c))))))
    by true rest = record {
      paces = record {
        paced = record { timer = tt; death = λ i. Some (record { at = now; ready_since = e i }); ready = tt };
        bound =
            paused_soon past.ready_since now;
      };
      runs = no_run past now (with_reported_death now exit (with_mark Died (finish_move exit now (with_last_exit exit now c)))) refl;
    }
    by false rest = record { paces = record { paced = rest.paces.paced; bound = rest.paces.bound }; runs = rest.runs }

death_paces : (past : Past) (generation : ℕ) (exit : Exit) (now : ℕ) (c : ChartState) → Paced past c
    → has_paused (now + 1000) past.last_death ≡ true
    → PacesLate past now (death_move generation exit now c)
death_paces past generation exit now c h bound = by (is_running generation c) refl
  where
    by : (b : Bool) → is_running generation c ≡ b
        → PacesLate past now (cond b (with_reported_death now exit
        (with_mark Died (cond c.config.finish (finish_move exit now (with_last_exit exit now c))
        (with_mark FinishDone (settle_move now (with_last_exit exit now c)))))) (stale_move c))
    by true e = after_death_paces past exit now c (knows_ready c.phase (c.generation == generation) past.ready_since c.ready_since e h.ready)
    by false e = refused_paces past now c h bound

finish_done_paces : (past : Past) (v : Verdict125) (now : ℕ) (c : ChartState)
    → past.last_death ≡ Some (record { at = c.died_at; ready_since = c.ready_since })
    → has_paused (now + 1000) past.last_death ≡ true → PacesLate past now (finish_done_move v now c)
finish_done_paces past Permanent now c d bound =
    let rest = settle_paces past now (record c { wanted_up = false }) d bound in record
    { paces = record { paced = rest.paces.paced; bound = rest.paces.bound }; runs = rest.runs }
finish_done_paces past Ordinary now c d bound =
    let rest = settle_paces past now c d bound in record { paces = record { paced = rest.paces.paced; bound = rest.paces.bound }; runs = rest.runs }

finish_ended_paces : (past : Past) (generation : ℕ) (exit : Exit) (now : ℕ) (c : ChartState) → Paced past c
    → has_paused (now + 1000) past.last_death ≡ true
    → PacesLate past now (finish_ended_move generation exit now c)
finish_ended_paces past generation exit now c h bound = by (is_in_finish generation c) refl
  where
    by : (b : Bool) → is_in_finish generation c ≡ b → PacesLate past now (cond b (finish_done_move (verdict_of exit) now c) (stale_move c))
    by true e = finish_done_paces past (verdict_of exit) now c
        (knows_death c.phase (c.generation == generation) past.last_death c.died_at c.ready_since e h.death) bound
    by false e = refused_paces past now c h bound

-- a timer that has come, of a phase in which it starts a run
abbrev IsRipe : Phase → ℕ → Option PastDeath → Type 0
IsRipe Down now death_move = has_paused now death_move ≡ true
IsRipe Gone now death_move = has_paused now death_move ≡ true
IsRipe phase now death_move = Unit

ripe : (p : Phase) (now : ℕ) (death_move : Option PastDeath) (timer : Option ℕ) → is_due now timer ≡ true → TimerIsLate p death_move timer
    → IsRipe p now death_move
ripe Starting now death_move timer e h = tt
ripe Up now death_move timer e h = tt
ripe Finish now death_move timer e h = tt
ripe Down now death_move None e h = cc
ripe Gone now death_move None e h = cc
ripe Down now death_move (Some due) e h = paused_later due now death_move (below due now e) h
  where
    below : (m n : ℕ) → nat_le m n ≡ true → m ≤ n
    below m n h = grind (arith, nat_tests)
ripe Gone now death_move (Some due) e h = paused_later due now death_move (below due now e) h
  where
    below : (m n : ℕ) → nat_le m n ≡ true → m ≤ n
    below m n h = grind (arith, nat_tests)

rule_paces : (past : Past) (now : ℕ) (c : ChartState) → Paced past c → has_paused (now + 1000) past.last_death ≡ true
    → Paces past now (timer_rule c.phase c)
rule_paces past now c h bound = search (h, bound, rules)

rule_runs : (past : Past) (now : ℕ) (c : ChartState) → IsRipe c.phase now past.last_death → RunsLate past now (timer_rule c.phase c)
rule_runs past now c r = search (r, rules)

pub fire_paces : (past : Past) (now : ℕ) (c : ChartState) → Paced past c → has_paused (now + 1000) past.last_death ≡ true
    → PacesLate past now (fire_move now c)
fire_paces past now c h bound = by (is_due now c.timer) refl
  where
    by : (b : Bool) → is_due now c.timer ≡ b → PacesLate past now (cond b (timer_rule c.phase c) (no_move c))
    by true e = record { paces = rule_paces past now c h bound; runs = rule_runs past now c (ripe c.phase now past.last_death c.timer e h.timer) }
    by false e = record { paces = still_paces past now c h bound; runs = no_run past now (no_move c) refl }

-- letters, one after the other
followed_paces : (past : Past) (now : ℕ) (letter : ControlLetter) (m : Moved) → Paces past now m
    → Paces past now (then_move (letter_move now letter) m)
followed_paces past now letter m h =
    let one = letter_paces (fold (past_with now) past m.marks) now letter m.chart h.paced h.bound in
    let told = fold-append (past_with now) past m.marks (letter_move now letter m.chart).marks in
    record {
      paced = subst (λ (p : Past). Paced p (letter_move now letter m.chart).chart) (sym told) one.paced;
      bound = subst (λ (p : Past). has_paused (now + 1000) p.last_death ≡ true) (sym told) one.bound;
    }

letters_pace : (past : Past) (now : ℕ) (letters : List ControlLetter) (m : Moved) → Paces past now m
    → Paces past now (fold (λ so_far letter. then_move (letter_move now letter) so_far) m letters)
letters_pace past now [] m h = h
letters_pace past now (letter ∷ letters) m h =
    letters_pace past now letters (then_move (letter_move now letter) m) (followed_paces past now letter m h)

letters_run : (now : ℕ) (letters : List ControlLetter) (m : Moved) → list_any is_up_letter letters ≡ false → list_any is_run m.orders ≡ false
    → list_any is_run (fold (λ so_far letter. then_move (letter_move now letter) so_far) m letters).orders ≡ false
letters_run now [] m k h = h
letters_run now (letter ∷ letters) m k h =
    letters_run now letters (then_move (letter_move now letter) m) (neither_right (is_up_letter letter) _ k)
    (list_any-append is_run m.orders (letter_move now letter m.chart).orders
    ∙ neither_of (list_any is_run m.orders) _ h (letter_runs now letter m.chart (neither_left (is_up_letter letter) _ k)))

control_paces : (past : Past) (letters : List ControlLetter) (now : ℕ) (c : ChartState) → Paced past c
    → has_paused (now + 1000) past.last_death ≡ true → Paces past now (control_move letters now c)
control_paces past letters now c h bound = letters_pace past now letters (no_move c) (still_paces past now c h bound)

control_runs : (letters : List ControlLetter) (now : ℕ) (c : ChartState) → list_any is_up_letter letters ≡ false
    → list_any is_run (control_move letters now c).orders ≡ false
control_runs letters now c k = letters_run now letters (no_move c) k refl

changed_paces : (past : Past) (change : Change) (now : ℕ) (c : ChartState) → Paced past c → has_paused (now + 1000) past.last_death ≡ true
    → Paces past now (changed_by change now c)
changed_paces past (Report (Started _ generation pid)) now c h bound = started_paces past generation pid now c h bound
changed_paces past (Report (StartFailed _ generation)) now c h bound = (start_failed_paces past generation now c h bound).paces
changed_paces past (Report (Notify _ generation bytes)) now c h bound = notified_paces past generation bytes.items now c h bound
changed_paces past (Report (Death _ generation exit)) now c h bound = (death_paces past generation exit now c h bound).paces
changed_paces past (Report (FinishEnded _ generation exit)) now c h bound = (finish_ended_paces past generation exit now c h bound).paces
changed_paces past (Control letters) now c h bound = control_paces past letters.items now c h bound
changed_paces past Fire now c h bound = (fire_paces past now c h bound).paces
changed_paces past (SetConfig config) now c h bound = record { paced = record { timer = h.timer; death = h.death; ready = h.ready }; bound = bound }
changed_paces past (SetActive active) now c h bound = active_paces past active now c h bound

changed_runs : (past : Past) (change : Change) (now : ℕ) (c : ChartState) → wants_up (Some change) ≡ false → Paced past c
    → has_paused (now + 1000) past.last_death ≡ true
    → RunsLate past now (changed_by change now c)
changed_runs past (Report (Started _ generation pid)) now c k h bound =
    no_run past now (started_move generation pid now c) (started_runs generation pid now c)
changed_runs past (Report (StartFailed _ generation)) now c k h bound = (start_failed_paces past generation now c h bound).runs
changed_runs past (Report (Notify _ generation bytes)) now c k h bound =
    no_run past now (notify_move generation bytes.items now c) (notified_runs generation bytes.items now c)
changed_runs past (Report (Death _ generation exit)) now c k h bound = (death_paces past generation exit now c h bound).runs
changed_runs past (Report (FinishEnded _ generation exit)) now c k h bound = (finish_ended_paces past generation exit now c h bound).runs
changed_runs past (Control letters) now c k h bound = no_run past now (control_move letters.items now c) (control_runs letters.items now c k)
changed_runs past Fire now c k h bound = (fire_paces past now c h bound).runs
changed_runs past (SetConfig config) now c k h bound = no_run past now (no_move c) refl
changed_runs past (SetActive active) now c k h bound = no_run past now (no_move c) refl

commanded_paces : (past : Past) (order : ScanOrder) (now : ℕ) (c : ChartState) → Paced past c → has_paused (now + 1000) past.last_death ≡ true
    → Paces past now (command_move order now c)
commanded_paces past Nuke now c h bound = by c.active
  where
    by : (b : Bool) → Paces past now (cond b (no_move c) (control_move leave_letters now c))
    by true = still_paces past now c h bound
    by false = control_paces past leave_letters now c h bound
commanded_paces past Terminate now c h bound = let away =
    active_paces past false now c h bound in control_paces past leave_letters now (with_activity false now c) away.paced away.bound

commanded_runs : (order : ScanOrder) (now : ℕ) (c : ChartState) → list_any is_run (command_move order now c).orders ≡ false
commanded_runs Nuke now c = by c.active
  where
    by : (b : Bool) → list_any is_run (cond b (no_move c) (control_move leave_letters now c)).orders ≡ false
    by true = refl
    by false = control_runs leave_letters now c refl
commanded_runs Terminate now c = control_runs leave_letters now (with_activity false now c) refl

looked_paces : (past : Past) (listing : List Entry) (now : ℕ) (c : ChartState) → Paced past c → has_paused (now + 1000) past.last_death ≡ true
    → Paces past now (no_move (after_look listing now c))
looked_paces past listing now c h bound = by (listed_config listing c.name) (active_paces past (has_entry listing c.name) now c h bound)
  where
    by : (found : Option Config) → Paces past now (no_move (with_activity (has_entry listing c.name) now c))
        → Paces past now (no_move (with_read_config found (with_activity (has_entry listing c.name) now c)))
    by None away = away
    by (Some config) away = record {
      paced = record { timer = away.paced.timer; death = away.paced.death; ready = away.paced.ready };
      bound =
          away.bound;
    }

pub did_paces : (past : Past) (did : Did) (now : ℕ) (c : ChartState) → Paced past c → has_paused (now + 1000) past.last_death ≡ true
    → Paces past now (move_of did now c)
did_paces past (takes None) now c h bound = still_paces past now c h bound
did_paces past (takes (Some change)) now c h bound = changed_paces past change now c h bound
did_paces past (obeys order) now c h bound = commanded_paces past order now c h bound
did_paces past (looks listing) now c h bound = looked_paces past listing now c h bound

pub did_runs : (past : Past) (did : Did) (now : ℕ) (c : ChartState) → wants_up (told_of did) ≡ false → Paced past c
    → has_paused (now + 1000) past.last_death ≡ true
    → RunsLate past now (move_of did now c)
did_runs past (takes None) now c k h bound = no_run past now (no_move c) refl
did_runs past (takes (Some change)) now c k h bound = changed_runs past change now c k h bound
did_runs past (obeys order) now c k h bound = no_run past now (command_move order now c) (commanded_runs order now c)
did_runs past (looks listing) now c k h bound = no_run past now (no_move (after_look listing now c)) refl
