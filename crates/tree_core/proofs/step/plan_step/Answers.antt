use Rattle.std.proofs.Common.{◌≡◌, List, length, subst, arith, ◌+◌, ◌∙◌, ◌++◌, refl, sym, ap, map}
use Rattle.event_directory.specs.Changes.{DirectoryRequest, directory_request_of}
use Rattle.supervise_core.specs.Chart.{fire_move}
use Rattle.svscan_core.specs.Deaths.{deaths_given, KeepTallied}
use Rattle.svscan_core.specs.Moves.{moment_of, services_after}
use Rattle.svscan_core.specs.Registry.{result_of, registry_prepared, RegistryPrepared}
use Rattle.svscan_core.specs.Table.{Table, charts_of}
use Rattle.svscan_core.specs.Asked.{work_asked}
use Rattle.svscan_core.specs.Work.{Work, WorkResult, step_result}
use Rattle.svscan_core.proofs.Few.{step_next}
use Rattle.svscan_core.proofs.Marks.{step_events}
use Rattle.svscan_core.proofs.Growing.{Below, step_grows}
use Rattle.s6_events.specs.declared.moment.Moment.{Moment}
use Rattle.event_directory.specs.HeardStep.{HearsStep}
use Rattle.event_directory.specs.Pattern.{finds}
use Rattle.wait_conditions.specs.Stands.{waits_shown}
use Rattle.wait_conditions.specs.WaitsPlans.{MakesStep}
use Rattle.wait_conditions.specs.Steps.{WaitRequest, wait_request_of}
use Rattle.tree_core.specs.Choices.{chosen_of, chosen_change, chosen_ask}
use Rattle.tree_core.specs.Replies.{chosen_reply, released_by_answer, ListenersAnswer}
use Rattle.tree_core.specs.Plan.{present_state}
use Rattle.tree_core.specs.Step.{clock_moments}
use Rattle.tree_core.proofs.PlanMakes.{Listens, plans_all, not_ok, not_ok_and}
use Rattle.tree_core.proofs.TimersDue.{due_now, none_for_quiet}
use Rattle.svscan_core.specs.Timers.{TimersAgree}
use Rattle.deadlines.specs.Timers.{with_timer_changes}
use Rattle.tree_core.proofs.step.plan_step.Goals as goal

pub prepare-requires-clause-due : goal.prepare-requires-clause-due
prepare-requires-clause-due g c =
    due_now c.later-now.result c.args.registry.now.shown.next_sid _ c.args.deadlines.now.timers (charts_of c.args.registry.now.shown.services)
    c.later-now.ensures.bound (c.found.ensures ∙ c.in_ok-find_due.ensures.due) c.requires.0 c.len-count.ensures.sound.order

pub returns-in_err-find_due-clause-quiet : goal.returns-in_err-find_due-clause-quiet
returns-in_err-find_due-clause-quiet g c = λ q.
    not_ok c.find_due.result _ _ c.in_err-find_due.was
    (c.find_due.ensures.quiet (none_for_quiet c.args.input.now c.args.clock c.later-now.result _ c.args.deadlines.now.timers
    (charts_of c.args.registry.now.shown.services) c.later-now.ensures.later c.later-now.ensures.bound refl c.requires.0 q))

pub returns-in_err-services-clause-quiet : goal.returns-in_err-services-clause-quiet
returns-in_err-services-clause-quiet g c = λ q.
    let none = none_for_quiet c.args.input.now c.args.clock c.later-now.result c.found.result.now c.args.deadlines.now.timers
    (charts_of c.args.registry.now.shown.services) c.later-now.ensures.later c.later-now.ensures.bound
    (c.found.ensures ∙ c.in_ok-find_due.ensures.due) c.requires.0 q in
    let still = c.services.ensures ∙ (c.in_ok-choose.ensures.idle q.reading).work in
    not_ok c.prepare.result _ _ c.in_err-services.was (c.prepare.ensures.quiet none still)

pub returns-clause-step : goal.returns-clause-step
returns-clause-step g c = λ steps left m is later made.
    let services = c.args.registry.now.shown.services in
    let next = c.args.registry.now.shown.next_sid in
    let prepared = registry_prepared c.prepare.new.self.shown.services c.prepare.new.self.planned in
    let kept = waits_shown c.args.waits.now in
    let moments = c.in_ok-moments.moments.items in
    let heard = c.args.directories.now.shown in
    let hearing = c.prepare-3.new.self.prepared in
    let given = c.in_ok-waiters.waiters.released in
    let matches = c.in_ok-letters.letters.matches.items in
    let told : ListenersAnswer = record { waiters = c.in_ok-waiters.waiters.answer; directories = c.in_ok-letters.letters.answer } in
    let planned : c.in_ok-history.history ≡ moments = c.in_ok-history.ensures.ok in
    plans_all (present_state c.args.clock steps c.args.closing services next kept heard) c.later-now.result c.args.input.now _
    prepared later hearing c.fill_effect.new.effect (chosen_of c.choose.new.choice) left c.later-now.ensures.later
    (record {
      given = given;
      matches = matches;
      told = told;
      answered = refl;
      now_is = refl;
      closes = c.closing.ensures;
      works = c.in_ok-services.ensures.prepared.worked ∙ ap (λ w. step_result w c.later-now.result (charts_of services) next) c.services.ensures;
      chooses = λ n history fired. c.in_ok-choose.ensures.chosen n history fired;
      reply = c.in_ok-fill_effect.ensures.reply
          ∙ ap (λ (t : Table). chosen_reply (chosen_of c.choose.new.choice) t.services (result_of prepared) told) c.prepare.ensures.shown;
      events = c.in_ok-fill_effect.ensures.events;
      orders = c.in_ok-fill_effect.ensures.orders;
      matched = c.in_ok-fill_effect.ensures.matched;
      released = c.in_ok-fill_effect.ensures.released;
      moments = planned ∙ (c.in_ok-moments.ensures.moments
          ∙ ap (λ es. clock_moments c.args.clock c.args.input.now.at ++ map moment_of es) c.events.ensures);
      listens =
          subst (λ (x : List Moment). Listens kept later x (chosen_change c.later-now.result (chosen_of c.choose.new.choice)) given told.waiters)
          (sym planned)
          (subst (λ (x : WaitRequest). Listens kept later moments x given told.waiters) c.waiters.ensures
          (subst (λ (x : List Moment). Listens kept later x (wait_request_of c.waiters.result) given told.waiters)
          c.as_slice-joining.ensures.value
          (record {
            stands = λ w st. c.in_ok-waiters.ensures.change.stands w st later
                (subst (λ (x : List Moment). MakesStep x c.in_ok-waiters.waiters.change c.in_ok-waiters.waiters.next kept later)
                c.in_ok-waiters.ensures.moments made);
            released = c.in_ok-waiters.ensures.released;
            answer = c.in_ok-waiters.ensures.change.answer;
          })));
      hears_letters =
          subst (λ (x : List Moment). HearsStep finds heard x (chosen_ask (chosen_of c.choose.new.choice)) matches told.directories hearing)
          (sym planned)
          (subst (λ (x : DirectoryRequest). HearsStep finds heard moments x matches told.directories hearing) c.directories.ensures
          (subst (λ (x : List Moment). HearsStep finds heard x (directory_request_of c.directories.result) matches told.directories hearing)
          c.as_slice-joining.ensures.value c.in_ok-letters.ensures.hears));
      agrees = c.in_ok-services.ensures.prepared.agrees;
      tallies = subst (λ (w : Work). KeepTallied next services prepared.services
          (deaths_given w c.later-now.result (services_after (fire_move c.later-now.result) (charts_of services)))) c.services.ensures
          c.in_ok-services.ensures.prepared.tallies;
      sound = c.len-count.ensures.sound;
    }) m is

pub returns-clause-grows : goal.returns-clause-grows
returns-clause-grows g c =
    let works = c.in_ok-services.ensures.prepared.worked in
    let next = ap (λ (w : WorkResult). w.next_sid) works in
    let few = c.len-count.ensures.sound.few in
    let events = ap (λ (w : WorkResult). length w.events) works in
    let services = charts_of c.args.registry.now.shown.services in
    let before = c.args.registry.now.shown.next_sid in
    let asked = work_asked c.services.result in
    let now = c.later-now.result in
    let most = step_next asked now services before few in
    let marks = step_events asked now services before few in
    let seen = ap length c.events.ensures in
    let planned = ap length c.in_ok-history.ensures.ok in (
      (λ n below. subst (λ (w : WorkResult). Below (n + 2) w.services) (sym works) (step_grows asked now services before n below)),
      omega (arith, next, most),
      c.in_ok-waiters.ensures.change.serial,
      c.in_ok-letters.ensures.serials,
      omega (arith, events, marks, seen, planned, c.in_ok-moments.ensures.count),
      (λ timers agree.
          subst (λ cs. TimersAgree (with_timer_changes cs timers)
          (charts_of (registry_prepared c.prepare.new.self.shown.services c.prepare.new.self.planned).services))
          (sym (c.in_ok-timers.ensures.ok ∙ c.timers.ensures)) (c.in_ok-services.ensures.prepared.timers timers agree)),
    )

pub returns-in_err-waiters-clause-quiet : goal.returns-in_err-waiters-clause-quiet
returns-in_err-waiters-clause-quiet g c = λ q.
    let none = none_for_quiet c.args.input.now c.args.clock c.later-now.result c.found.result.now c.args.deadlines.now.timers
    (charts_of c.args.registry.now.shown.services) c.later-now.ensures.later c.later-now.ensures.bound
    (c.found.ensures ∙ c.in_ok-find_due.ensures.due) c.requires.0 q in
    let still = c.services.ensures ∙ (c.in_ok-choose.ensures.idle q.reading).work in
    let idle = c.in_ok-services.ensures.still none still in
    let nothing = ap (λ (p : RegistryPrepared). p.events) idle in
    let silent = c.as_slice-joining.ensures.value ∙ c.in_ok-moments.ensures.quiet q.early (c.events.ensures ∙ nothing) in
    not_ok_and c.prepare-2.result _ _ _ c.in_err-waiters.was
    (c.prepare-2.ensures.quiet silent (c.waiters.ensures ∙ (c.in_ok-choose.ensures.idle q.reading).waiters))

pub returns-in_err-letters-clause-quiet : goal.returns-in_err-letters-clause-quiet
returns-in_err-letters-clause-quiet g c = λ q.
    let none = none_for_quiet c.args.input.now c.args.clock c.later-now.result c.found.result.now c.args.deadlines.now.timers
    (charts_of c.args.registry.now.shown.services) c.later-now.ensures.later c.later-now.ensures.bound
    (c.found.ensures ∙ c.in_ok-find_due.ensures.due) c.requires.0 q in
    let still = c.services.ensures ∙ (c.in_ok-choose.ensures.idle q.reading).work in
    let idle = c.in_ok-services.ensures.still none still in
    let nothing = ap (λ (p : RegistryPrepared). p.events) idle in
    let silent = c.as_slice-joining.ensures.value ∙ c.in_ok-moments.ensures.quiet q.early (c.events.ensures ∙ nothing) in
    not_ok_and c.prepare-3.result _ _ _ c.in_err-letters.was
    (c.prepare-3.ensures.quiet silent (c.directories.ensures ∙ (c.in_ok-choose.ensures.idle q.reading).directories))

pub returns-in_err-history-clause-quiet : goal.returns-in_err-history-clause-quiet
returns-in_err-history-clause-quiet g c = λ q.
    let none = none_for_quiet c.args.input.now c.args.clock c.later-now.result c.found.result.now c.args.deadlines.now.timers
    (charts_of c.args.registry.now.shown.services) c.later-now.ensures.later c.later-now.ensures.bound
    (c.found.ensures ∙ c.in_ok-find_due.ensures.due) c.requires.0 q in
    let still = c.services.ensures ∙ (c.in_ok-choose.ensures.idle q.reading).work in
    let idle = c.in_ok-services.ensures.still none still in
    let nothing = ap (λ (p : RegistryPrepared). p.events) idle in
    let silent = c.in_ok-moments.ensures.quiet q.early (c.events.ensures ∙ nothing) in
    not_ok c.prepare-4.result _ _ c.in_err-history.was (c.prepare-4.ensures.quiet silent)

pub returns-in_err-timers-clause-quiet : goal.returns-in_err-timers-clause-quiet
returns-in_err-timers-clause-quiet g c = λ q.
    let none = none_for_quiet c.args.input.now c.args.clock c.later-now.result c.found.result.now c.args.deadlines.now.timers
    (charts_of c.args.registry.now.shown.services) c.later-now.ensures.later c.later-now.ensures.bound
    (c.found.ensures ∙ c.in_ok-find_due.ensures.due) c.requires.0 q in
    let still = c.services.ensures ∙ (c.in_ok-choose.ensures.idle q.reading).work in
    let idle = c.in_ok-services.ensures.still none still in
    let nothing = ap (λ (p : RegistryPrepared). p.events) idle in
    not_ok c.prepare-5.result _ _ c.in_err-timers.was
    (c.prepare-5.ensures.quiet (c.timers.ensures ∙ ap (λ (p : RegistryPrepared). p.timers) idle))

pub returns-in_err-moments-clause-quiet : goal.returns-in_err-moments-clause-quiet
returns-in_err-moments-clause-quiet g c = λ q.
    let none = none_for_quiet c.args.input.now c.args.clock c.later-now.result c.found.result.now c.args.deadlines.now.timers
    (charts_of c.args.registry.now.shown.services) c.later-now.ensures.later c.later-now.ensures.bound
    (c.found.ensures ∙ c.in_ok-find_due.ensures.due) c.requires.0 q in
    let still = c.services.ensures ∙ (c.in_ok-choose.ensures.idle q.reading).work in
    let idle = c.in_ok-services.ensures.still none still in
    let nothing = ap (λ (p : RegistryPrepared). p.events) idle in
    not_ok_and c.moments_of.result _ _ _ c.in_err-moments.was (c.moments_of.ensures.quiet q.early (c.events.ensures ∙ nothing))

pub returns-in_err-fill_effect-clause-quiet : goal.returns-in_err-fill_effect-clause-quiet
returns-in_err-fill_effect-clause-quiet g c = λ q.
    let none = none_for_quiet c.args.input.now c.args.clock c.later-now.result c.found.result.now c.args.deadlines.now.timers
    (charts_of c.args.registry.now.shown.services) c.later-now.ensures.later c.later-now.ensures.bound
    (c.found.ensures ∙ c.in_ok-find_due.ensures.due) c.requires.0 q in
    let asks = c.in_ok-choose.ensures.idle q.reading in
    let idle = c.in_ok-services.ensures.still none (c.services.ensures ∙ asks.work) in
    let nothing = ap (λ (p : RegistryPrepared). p.events) idle in
    let silent = c.as_slice-joining.ensures.value ∙ c.in_ok-moments.ensures.quiet q.early (c.events.ensures ∙ nothing) in
    let heard = c.in_ok-letters.ensures.quiet silent (c.directories.ensures ∙ asks.directories) in
    let told = c.in_ok-waiters.ensures.quiet silent (c.waiters.ensures ∙ asks.waiters) in
    not_ok c.fill_effect.result _ _ c.in_err-fill_effect.was
    (c.fill_effect.ensures.quiet asks.short nothing heard.0 told.0 (ap released_by_answer told.1))
