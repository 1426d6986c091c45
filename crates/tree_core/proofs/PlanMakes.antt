-- A plan with the parts of a step is the step.
use Rattle.std.proofs.Common.{rules, ◌≡◌, ℕ, ◌<◌, List, [], ◌∷◌, ◌++◌, Bool, true, false, cond, refl, sym, ◌∙◌, ap, map, max, subst, arith, nat_eq}
use Rattle.std.proofs.Common.{get_or, append-nil, append_assoc}
use Rattle.std.specs.Prelude.{nat_lt, Option, None, Some, Result, Ok, Err, IfOk, IsOk, IsOkAnd}
use Rattle.std.proofs.lemmas.Bool.Decides.{nat_tests}
use Rattle.std.proofs.lemmas.List.{map-append}
use Rattle.event_directory.specs.HeardStep.{HearsStep}
use Rattle.event_directory.specs.Changes.{DirectoryRequest, Offer, directories_after_change, directory_answer, directory_refusal, matches_of}
use Rattle.event_directory.specs.Changes.{refused_or, subscribed_to, unless}
use Rattle.event_directory.specs.Changes.DirectoryRequest.{no_directory_request, make_directory, send, subscribe, unsubscribe}
use Rattle.event_directory.specs.Directories.{WrittenDirectories, directories_after_moments, matches_by}
use Rattle.event_directory.specs.Pattern.{finds}
use Rattle.event_directory.specs.Remembered.{AreHeard, DirectoriesPrepared, DirectoriesShown, directories_after_commit}
use Rattle.event_directory.specs.declared.directory_change.DirectoryAnswer.{DirectoryAnswer}
use Rattle.event_directory.specs.declared.directory_change.DirectoryAnswer.TheVariants.{Subscribed}
use Rattle.event_directory.specs.declared.directory_change.DirectoryFault.{DirectoryFault}
use Rattle.event_directory.specs.declared.hit.Hit.{Hit}
use Rattle.s6_events.specs.Clock.{clock_of}
use Rattle.s6_events.specs.declared.moment.Moment.{Moment}
use Rattle.s6_events.specs.declared.moment.Moment.TheVariants.{Clock}
use Rattle.s6_events.specs.declared.order.Order.{Order}
use Rattle.supervise_core.specs.declared.row.Status.{Status}
use Rattle.supervise_core.specs.Chart.{fire_move}
use Rattle.supervise_core.specs.Service.{Supervised}
use Rattle.supervise_core.specs.Status.{Agrees}
use Rattle.supervise_core.proofs.Agreement.{agrees_clock}
use Rattle.svscan_core.specs.declared.event.Event.{Event}
use Rattle.svscan_core.specs.Deaths.{DeathOf, deaths_given, AllTallied, AllBefore, KeepTallied}
use Rattle.svscan_core.specs.Moves.{services_after, events_after, orders_after, moment_of}
use Rattle.svscan_core.specs.Registry.{RegistryPrepared, result_of}
use Rattle.svscan_core.specs.Sound.{AllAgree, IsSound}
use Rattle.svscan_core.specs.Table.{charts_of}
use Rattle.svscan_core.specs.Work.{WorkResult, work_result, step_result, with_earlier, closing_after}
use Rattle.svscan_core.proofs.Few.{fired_few}
use Rattle.svscan_core.proofs.SerialsRise.{fired_numbers}
use Rattle.svscan_core.proofs.Tallied.{joined_before}
use Rattle.tree_core.specs.declared.effect.Effect.{Effect}
use Rattle.tree_core.specs.declared.input.Input.{Input}
use Rattle.tree_core.specs.declared.step.StepPlan.{StepPlan}
use Rattle.wait_conditions.specs.declared.verdict.Verdict.{Verdict}
use Rattle.wait_conditions.specs.declared.wait_change.WaitAnswer.{WaitAnswer}
use Rattle.wait_conditions.specs.Stands.{WaitsShown, WaitsStandFor}
use Rattle.wait_conditions.specs.Steps.{WaitRequest, waits_after_moments, waits_after_change, wait_answer, releases_by}
use Rattle.wait_conditions.specs.Watch.{Watch}
use Rattle.tree_core.specs.Acts.{act_result, ask_of, directory_ask_of, offer_of, work_of}
use Rattle.tree_core.specs.Listening.{Ask, as_match, as_release, watch_after, released_at_once}
use Rattle.tree_core.specs.Machine.{Machine, directories_at, directories_of, watch_at, watch_of}
use Rattle.tree_core.specs.Choices.{Chosen, chosen_work, chosen_change, chosen_ask}
use Rattle.tree_core.specs.Replies.{ListenersAnswer}
use Rattle.tree_core.specs.Plan.{PresentState, IsNow, Plans, HasFired, Chooses}
use Rattle.tree_core.specs.Replies.{chosen_reply, is_subscribed, released_by_answer}
use Rattle.tree_core.specs.Plan.{answers_at}
use Rattle.tree_core.specs.Choices.Chosen.{refuse, nothing, report, letters, listing, order, show, tally, failure, wait, cancel, ask_directories}
use Rattle.tree_core.specs.Step.{StepResult, step, timed_step, with_listeners, with_clock, with_act, with_moves, step_limit, clock_moments}
use Rattle.tree_core.proofs.Listened.{directories_join, directories_stay, history_stays, moments_join}
use Rattle.tree_core.proofs.Reading.{reading-clocked}

-- a machine that is not spent takes the step
opened : {A : Type 0} (m : Machine) (input : Input A) → m.steps < step_limit
    → step m input ≡ with_listeners m input.at (timed_step input.act (with_clock input.at m))
opened m input left = let open_step : nat_eq m.steps step_limit ≡ false = grind (arith, nat_tests) in rw open_step

-- the moments of a step behind the history, the clock reading and the marks of timers and act
regrouped : (history reading : List Moment) (timers acts : List Event)
    → history ++ (reading ++ map moment_of (timers ++ acts)) ≡ ((history ++ reading) ++ map moment_of timers) ++ map moment_of acts
regrouped history reading timers acts =
    ap (λ t. history ++ (reading ++ t)) (map-append moment_of timers acts)
    ∙ (sym (append_assoc history reading (map moment_of timers ++ map moment_of acts))
    ∙ sym (append_assoc (history ++ reading) (map moment_of timers) (map moment_of acts)))

-- a clock reading joins a history that agrees
clock_agrees : (sid clock at : ℕ) (s : Status) (h : List Moment) → Agrees sid s h → Agrees sid s (h ++ clock_moments clock at)
clock_agrees sid clock at s h a = by (nat_lt clock at)
  where
    by : (b : Bool) → Agrees sid s (h ++ cond b (Clock at ∷ []) [])
    by true = agrees_clock sid at s h a
    by false = subst (λ (x : List Moment). Agrees sid s x) (sym (append-nil h)) a

all_clocked : (services : List Supervised) (clock at : ℕ) (h : List Moment) → AllAgree services h → AllAgree services (h ++ clock_moments clock at)
all_clocked services clock at h all = λ k d lt. clock_agrees (get_or services k d).chart.sid clock at (get_or services k d).status h (all k d lt)

-- what was given before changes no reply
reply_alone : {A : Type 0} (choice : Chosen) (services : List Supervised) (events : List Event) (orders : List Order) (w : WorkResult)
    (told : ListenersAnswer)
    → chosen_reply {A = A} choice services (with_earlier events orders w) told ≡ chosen_reply choice services w told
reply_alone (refuse why) services events orders w told = refl
reply_alone nothing services events orders w told = refl
reply_alone (report sid change) services events orders w told = refl
reply_alone (letters sid change) services events orders w told = refl
reply_alone (listing entries) services events orders w told = refl
reply_alone (order which) services events orders w told = refl
reply_alone (show row) services events orders w told = refl
reply_alone (tally name) services events orders w told = refl
reply_alone (failure fails) services events orders w told = refl
reply_alone (wait condition mode timeout sids) services events orders w told = refl
reply_alone (cancel id) services events orders w told = refl
reply_alone (ask_directories ask) services events orders w told = refl

-- what the waiters tell of a step, and what is kept of them then
pub record Listens (old new : WaitsShown) (ms : List Moment) (change : WaitRequest) (given : List (ℕ × Verdict)) (told : WaitAnswer) : Type 0 where
  pub stands : (w : Watch) → WaitsStandFor old w → WaitsStandFor new (waits_after_change (waits_after_moments w ms) change)
  pub released : (w : Watch) → WaitsStandFor old w → given ≡ releases_by w ms
  pub answer : (w : Watch) → WaitsStandFor old w → told ≡ wait_answer (waits_after_moments w ms) change

-- the parts of a step at this moment
pub record Makes {A : Type 0} (now : ℕ) (pr : PresentState) (input : Input A) (plan : StepPlan A) (prepared : RegistryPrepared) (later : WaitsShown)
    (directories : DirectoriesPrepared) (effect : Effect A) (choice : Chosen) : Type 0 where
  pub given : List (ℕ × Verdict)
  pub matches : List (ℕ × Hit)
  pub told : ListenersAnswer
  pub answered : plan.letters.answer ≡ told.directories
  pub now_is : plan.now ≡ now
  pub closes : plan.closing ≡ closing_after (chosen_work choice) pr.closing
  pub works : result_of prepared ≡ step_result (chosen_work choice) now (charts_of pr.services) pr.next_sid
  pub chooses : (m : Machine) (history : List Moment) → HasFired pr.closing now pr.services history m → Chooses input.act m pr.services choice
  pub reply : effect.reply ≡ chosen_reply choice pr.services (result_of prepared) told
  pub events : effect.events.items ≡ prepared.events
  pub orders : effect.orders.items ≡ prepared.orders
  pub matched : effect.matched.items ≡ map as_match matches
  pub released : effect.released.items ≡ map as_release given ++ map as_release (released_by_answer told.waiters)
  pub moments : plan.history ≡ clock_moments pr.clock input.at ++ map moment_of prepared.events
  pub listens : Listens pr.waits later plan.history (chosen_change now choice) given told.waiters
  pub hears_letters : HearsStep finds pr.directories plan.history (chosen_ask choice) matches told.directories directories
  pub agrees : (history : List Moment) → clock_of history ≡ now → AllAgree pr.services history
      → AllAgree prepared.services (history ++ map moment_of prepared.events)
  pub tallies : KeepTallied pr.next_sid pr.services prepared.services
      (deaths_given (chosen_work choice) now (services_after (fire_move now) (charts_of pr.services)))
  pub sound : IsSound pr.next_sid (charts_of pr.services)

-- where no subscription was made, what is offered does not matter
offered_alike : (ask : DirectoryRequest) (d : WrittenDirectories) (told : DirectoryAnswer) (x y : Offer) → told ≡ directory_answer ask d
    → (is_subscribed told ≡ true → x ≡ y) → directories_after_change ask x d ≡ directories_after_change ask y d
offered_alike no_directory_request d told x y is same = refl
offered_alike (make_directory name) d told x y is same = refl
offered_alike (send name text) d told x y is same = refl
offered_alike (unsubscribe id) d told x y is same = refl
offered_alike (subscribe source) d told x y is same = by_refusal (directory_refusal (subscribe source) d) is
  where
    by_refusal : (f : Option DirectoryFault) → told ≡ refused_or f (Subscribed d.next)
        → unless f (subscribed_to source x d) d ≡ unless f (subscribed_to source y d) d
    by_refusal None e = ap (λ o. subscribed_to source o d) (same (ap is_subscribed e))
    by_refusal (Some fault) e = refl

-- a machine with what is there now
abbrev pub now_in : PresentState → Machine → Machine
now_in pr m = record m { clock = pr.clock; steps = pr.steps; closing = pr.closing; services = charts_of pr.services; next_sid = pr.next_sid }

plan_makes : {A : Type 0} (pr : PresentState) (input : Input A) (plan : StepPlan A) (prepared : RegistryPrepared) (later : WaitsShown)
    (directories : DirectoriesPrepared) (effect : Effect A) (choice : Chosen)
    → pr.steps < step_limit → Makes (max pr.clock input.at) pr input plan prepared later directories effect choice
    → (old : Machine) → AllAgree pr.services old.history → AllTallied pr.services old.deaths → AllBefore pr.next_sid old.deaths
    → pr.clock ≡ clock_of old.history
    → WaitsStandFor pr.waits (watch_of old) → AreHeard finds pr.directories (directories_of old)
    → Plans (now_in pr old) input plan prepared later directories effect
plan_makes {A} pr input plan prepared later directories effect choice left p old agrees tallied numbered reading kept heard =
    let m : Machine = now_in pr old in
    let now : ℕ = max pr.clock input.at in
    let fired : Machine = with_moves (fire_move now) (with_clock input.at m) in
    let done : Machine = with_act input.act fired in
    let before : List Moment = old.history ++ clock_moments pr.clock input.at in
    let t = opened m input left in
    let seen : clock_of before ≡ now = sym (reading-clocked old.history pr.clock input.at reading) in
    let all : AllAgree pr.services before = all_clocked pr.services pr.clock input.at old.history agrees in
    let chosen : Chooses input.act fired pr.services choice =
    p.chooses fired before (record {
      clock = refl;
      closing_is = refl;
      services_are = refl;
      past = refl;
      agrees = all;
      tallies = tallied;
      order =
          p.sound.order;
      reading = seen;
    }) in
    let cs = charts_of pr.services in
    let given = with_earlier (events_after (fire_move now) cs) (orders_after (fire_move now) cs) in
    let work : result_of prepared ≡ given (act_result input.act fired).work =
    p.works ∙ ap given (ap (λ w. work_result w now (services_after (fire_move now) cs) pr.next_sid) (sym chosen.work)) in
    let died : old.deaths ++ deaths_given (chosen_work choice) now (services_after (fire_move now) cs)
    ≡ old.deaths ++ deaths_given (work_of input.act fired) now (services_after (fire_move now) cs) =
    ap (λ w. old.deaths ++ deaths_given w now (services_after (fire_move now) cs)) (sym chosen.work) in
    let marks : prepared.events ≡ events_after (fire_move now) cs ++ (act_result input.act fired).work.events =
    ap (λ (w : WorkResult). w.events) work in
    let joined : plan.history ≡ clock_moments pr.clock input.at
    ++ map moment_of (events_after (fire_move now) cs ++ (act_result input.act fired).work.events) =
    p.moments ∙ ap (λ e. clock_moments pr.clock input.at ++ map moment_of e) marks in
    let past : old.history ++ plan.history ≡ done.history =
    ap (λ ms. old.history ++ ms) joined ∙ regrouped old.history (clock_moments pr.clock input.at) (events_after (fire_move now) cs) _ in
    let at : watch_at (old.history ++ plan.history) fired ≡ watch_of done = ap (λ h. watch_at h fired) past in
    let there : directories_after_moments (directories_of m) plan.history ≡ directories_of done =
    directories_join (directories_of m) plan.history ∙ ap (λ h. directories_at h fired) past in
    let ask : Ask = ask_of input.act fired in
    let change : WaitRequest = chosen_change now choice in
    let told : p.told ≡ answers_at (old.history ++ plan.history) fired choice =
    λ i. record {
      waiters = (p.listens.answer (watch_of m) kept ∙ ap (λ w. wait_answer w change) (moments_join (watch_of m) plan.history)) i;
      directories = (p.hears_letters.answer (directories_of m) heard
          ∙ ap (directory_answer (chosen_ask choice)) (directories_join (directories_of m) plan.history)) i;
    } in
    record {
      clock = p.now_is ∙ sym (ap (λ s. s.machine.clock) t);
      steps = sym (ap (λ s. s.machine.steps) t);
      closing = p.closes ∙ (ap (λ w. closing_after w pr.closing) (sym chosen.work) ∙ sym (ap (λ s. s.machine.closing) t));
      services = ap (λ (w : WorkResult). w.services) work ∙ sym (ap (λ s. s.machine.services) t);
      next_sid = ap (λ (w : WorkResult). w.next_sid) work ∙ sym (ap (λ s. s.machine.next_sid) t);
      history = past ∙ sym (ap (λ s. s.machine.history) t);
      outcome =
          (λ i. record {
            reply =
                (p.reply
                ∙ (ap (λ w. chosen_reply choice pr.services w p.told) work
                ∙ (reply_alone choice pr.services (events_after (fire_move now) cs) (orders_after (fire_move now) cs)
                (act_result input.act fired).work p.told
                ∙ (ap (chosen_reply choice pr.services (act_result input.act fired).work) told
                ∙ sym (chosen.reply (old.history ++ plan.history)))))) i;
            events = (p.events ∙ marks) i;
            orders = (p.orders ∙ ap (λ (w : WorkResult). w.orders) work) i;
            matched =
                (p.matched
                ∙ (ap (map as_match) (p.hears_letters.matched (directories_of m) heard)
                ∙ (map-append as_match (matches_by finds (directories_of m) plan.history)
                (matches_of finds (chosen_ask choice) (directories_after_moments (directories_of m) plan.history))
                ∙ λ j. map as_match (matches_by finds (directories_of m) (joined j))
                ++ map as_match (matches_of finds (sym chosen.asks j) (there j))))) i;
            released =
                (p.released
                ∙ λ j. map as_release ((p.listens.released (watch_of m) kept ∙ ap (releases_by (watch_of m)) joined) j)
                ++ map as_release ((ap (λ (x : ListenersAnswer). released_by_answer x.waiters) told
                ∙ (chosen.hears.at_once (old.history ++ plan.history) ∙ ap (released_at_once ask) at)) j)) i;
          })
          ∙ sym (ap (λ s. s.outcome) t);
      agrees =
          subst (λ (h : List Moment). AllAgree prepared.services h)
          (append_assoc old.history (clock_moments pr.clock input.at) (map moment_of prepared.events)
          ∙ ap (λ ms. old.history ++ ms) (sym p.moments))
          (p.agrees before seen all);
      tallies =
          subst (λ (ds : List DeathOf). AllTallied prepared.services ds) (died ∙ sym (ap (λ s. s.machine.deaths) t))
          (p.tallies old.deaths numbered tallied);
      numbered =
          subst (λ (s : StepResult A). AllBefore prepared.next_sid s.machine.deaths) (sym t)
          (subst (λ (n : ℕ). AllBefore n (old.deaths ++ deaths_given (work_of input.act fired) now (services_after (fire_move now) cs)))
          (sym (ap (λ (w : WorkResult). w.next_sid) work))
          (joined_before (work_of input.act fired) now pr.next_sid (services_after (fire_move now) cs) old.deaths (fired_few now cs p.sound.few)
          (fired_numbers now pr.next_sid cs p.sound.order) numbered));
      waiting =
          subst (WaitsStandFor later)
          (ap (λ w. waits_after_change w change) (moments_join (watch_of m) plan.history)
          ∙ (chosen.hears.after (old.history ++ plan.history)
          ∙ (ap (watch_after ask) at
          ∙ ((λ i. record {
            history = history_stays ask (watch_of done) i;
            waiters = (watch_after ask (watch_of done)).waiters;
            next =
                (watch_after ask (watch_of done)).next;
          })
          ∙ sym (ap (λ s. watch_of s.machine) t)))))
          (p.listens.stands (watch_of m) kept);
      hearing = λ offer same.
          subst (AreHeard finds (directories_after_commit directories offer))
          (offered_alike (chosen_ask choice) (directories_after_moments (directories_of m) plan.history) p.told.directories offer
          (offer_of input.act) (p.hears_letters.answer (directories_of m) heard) (λ made. same (ap is_subscribed p.answered ∙ made))
          ∙ ((λ i. directories_after_change (sym chosen.asks i) (offer_of input.act) (there i))
          ∙ (directories_stay (directory_ask_of input.act fired) (offer_of input.act) (directories_of done)
          ∙ sym (ap (λ s. directories_of s.machine) t))))
          (p.hears_letters.stands offer (directories_of m) heard);
    }

-- and it is the step of each machine that has now what a tree has
pub plans_all : {A : Type 0} (pr : PresentState) (now : ℕ) (input : Input A) (plan : StepPlan A) (prepared : RegistryPrepared) (later : WaitsShown)
    (directories : DirectoriesPrepared) (effect : Effect A) (choice : Chosen)
    → pr.steps < step_limit → now ≡ max pr.clock input.at → Makes now pr input plan prepared later directories effect choice
    → (m : Machine) → IsNow pr m → Plans m input plan prepared later directories effect
plans_all {A} pr now input plan prepared later directories effect choice left latest p m is =
    subst (λ (x : Machine). Plans x input plan prepared later directories effect)
    (sym (λ i. record m { clock = is.clock i; steps = is.steps i; closing = is.closing i; services = is.services i; next_sid = is.next_sid i }))
    (plan_makes pr input plan prepared later directories effect choice left
    (subst (λ (n : ℕ). Makes n pr input plan prepared later directories effect choice) latest p)
    m is.agrees is.tallies is.numbered (sym is.clock ∙ is.reading) is.waiting is.hearing)

-- what was refused was not done
pub not_ok : {X E : Type 0} (r : Result X E) (e : E) (P : Type 0) → r ≡ Err e → IsOk r → P
not_ok (Ok x) e P h ok = search rules
not_ok (Err y) e P h ok = search rules

pub not_ok_and : {X E : Type 0} (r : Result X E) (e : E) (Is : X → Type 0) (P : Type 0) → r ≡ Err e → IsOkAnd r Is → P
not_ok_and (Ok x) e Is P h ok = search rules
not_ok_and (Err y) e Is P h ok = absurd ok

-- what holds of each value holds of the one that was given
pub if_ok : {X E : Type 0} (r : Result X E) (P Q : X → Type 0) → ((x : X) → P x → Q x) → IfOk r P → IfOk r Q
if_ok (Ok x) P Q gives p = gives x p
if_ok (Err e) P Q gives p = p
