-- What an act does, found in the table.
use Rattle.std.proofs.Common.{◌≡◌, ◌∙◌, ℕ, List, [], ◌∷◌, ◌++◌, Bool, true, false, ◌||◌, ◌==◌, cond, refl, sym, ap, find, subst, map, arith}
use Rattle.std.specs.Prelude.{Option, Some, None, is_some}
use Rattle.std.specs.List.{list_any}
use Rattle.death_tally.specs.LastDeaths.{last_deaths}
use Rattle.death_tally.specs.PermanentFailure.{are_permanent_failure}
use Rattle.death_tally.specs.declared.exit_list.DeathItem.{DeathItem}
use Rattle.supervise_core.specs.declared.chart_state.ChartState.{ChartState}
use Rattle.supervise_core.specs.Service.{Supervised}
use Rattle.std.specs.Prelude.{option_map, bytes_eq}
use Rattle.event_directory.specs.Changes.DirectoryRequest.{no_directory_request}
use Rattle.s6_events.specs.declared.moment.Moment.{Moment}
use Rattle.supervise_core.specs.declared.change.Change.{Change}
use Rattle.supervise_core.specs.declared.change.Change.TheVariants.{Control}
use Rattle.supervise_core.specs.declared.row.Row.{Row}
use Rattle.supervise_core.specs.ChartState.{is_gone}
use Rattle.supervise_core.specs.Chart.{fire_move}
use Rattle.supervise_core.specs.StatusRow.{status_row}
use Rattle.supervise_core.proofs.Identity.{keeps_fire}
use Rattle.svscan_core.specs.Deaths.{deaths_of, IsTallied, AllTallied}
use Rattle.svscan_core.specs.Moves.{moment_of, services_after, events_after}
use Rattle.svscan_core.specs.Table.{charts_of, serials_of}
use Rattle.svscan_core.specs.Work.{WorkResult}
use Rattle.svscan_core.specs.Work.Work.{do_nothing, change_one}
use Rattle.svscan_core.proofs.Agreeing.{all_later}
use Rattle.svscan_core.proofs.SerialsRise.{fired_serials}
use Rattle.tree_core.specs.declared.input.Act.{Act}
use Rattle.tree_core.specs.declared.input.Act.TheVariants.{Svc, Status, Tally, Permafailon}
use Rattle.tree_core.specs.declared.reply.Refusal.TheVariants.{NoService, Ended}
use Rattle.tree_core.specs.declared.reply.Reply.TheVariants.{Done}
use Rattle.wait_conditions.specs.Steps.{WaitRequest}
use Rattle.wait_conditions.specs.Steps.WaitRequest.{no_wait_request}
use Rattle.tree_core.specs.Acts.{asked_work, ask_of, directory_ask_of, act_reply, work_unless, reply_unless}
use Rattle.tree_core.specs.ActRefusals.{act_refusal, serial_refusal}
use Rattle.tree_core.specs.Acts.{change_found, report_reply, row_reply, tally_reply, failure_reply, work_done}
use Rattle.tree_core.specs.ActRefusals.{letters_refusal, service_named}
use Rattle.tree_core.specs.Listening.{Ask}
use Rattle.tree_core.specs.Listening.Ask.{same}
use Rattle.tree_core.specs.Machine.{Machine}
use Rattle.tree_core.specs.Tallies.{tally_of, tally_named, failure_named}
use Rattle.tree_core.specs.Choices.Chosen.{refuse, report, letters, tally}
use Rattle.tree_core.specs.Choices.{Chosen, chosen_work, chosen_change, chosen_ask}
use Rattle.tree_core.specs.Replies.{ListenersAnswer, chosen_reply}
use Rattle.tree_core.specs.Plan.{Chooses, DoesAsk, HasFired}
use Rattle.tree_core.specs.Choices.{report_choice, letters_choice, row_choice, failure_choice}
use Rattle.tree_core.specs.Replies.{tally_in}

-- a serial is found where a service has it
pub any_of : (sid : ℕ) (services : List Supervised)
    → is_some (find (λ s. s.chart.sid == sid) services) ≡ list_any (λ c. c.sid == sid) (charts_of services)
any_of sid [] = refl
any_of sid (s ∷ services) = by (s.chart.sid == sid) (any_of sid services)
  where
    by : (b : Bool) → is_some (find (λ t. t.chart.sid == sid) services) ≡ list_any (λ c. c.sid == sid) (charts_of services)
        → is_some (cond b (Some s) (find (λ t. t.chart.sid == sid) services)) ≡ (b || list_any (λ c. c.sid == sid) (charts_of services))
    by true e = refl
    by false e = e

-- the timers leave the serials
any_serial : (sid : ℕ) (cs : List ChartState) → list_any (λ c. c.sid == sid) cs ≡ list_any (λ n. n == sid) (serials_of cs)
any_serial sid [] = refl
any_serial sid (c ∷ cs) = ap (λ b. (c.sid == sid) || b) (any_serial sid cs)

pub still_known : (sid now : ℕ) (cs : List ChartState)
    → list_any (λ c. c.sid == sid) (services_after (fire_move now) cs) ≡ list_any (λ c. c.sid == sid) cs
still_known sid now cs = any_serial sid (services_after (fire_move now) cs)
    ∙ (ap (λ ns. list_any (λ n. n == sid) ns) (fired_serials now cs) ∙ sym (any_serial sid cs))

-- an act that is this one, and what was chosen, where it is this
pub chooses_act : {A : Type 0} (act this : Act A) (m : Machine) (services : List Supervised) (chosen : Chosen) → act ≡ this
    → Chooses this m services chosen → Chooses act m services chosen
chooses_act {A} act this m services chosen is c = subst (λ (a : Act A). Chooses a m services chosen) (sym is) c

pub chooses_this : {A : Type 0} (act : Act A) (m : Machine) (services : List Supervised) (chosen this : Chosen) → chosen ≡ this
    → Chooses act m services this → Chooses act m services chosen
chooses_this act m services chosen this is c = subst (λ (x : Chosen). Chooses act m services x) (sym is) c

-- nothing is asked of the waiters
pub hears_nothing : (m : Machine) (ask : Ask) (change : WaitRequest) → ask ≡ same → change ≡ no_wait_request → DoesAsk ask change m
hears_nothing m ask change a c =
    subst (λ (x : Ask). DoesAsk x change m) (sym a)
    (subst (λ (x : WaitRequest). DoesAsk same x m) (sym c) (record { after = λ h. refl; at_once = λ h. refl }))

-- a report
pub chooses_report : {A : Type 0} (act : Act A) (m : Machine) (sid : ℕ) (change : Change) (closing : Bool) (now : ℕ) (services : List Supervised)
    (history : List Moment) (chosen : Chosen)
    → act_refusal act m ≡ serial_refusal sid m.services → asked_work act m ≡ change_one sid change → ask_of act m ≡ same
    → directory_ask_of act m ≡ no_directory_request → ((w : WorkResult) → act_reply act m w ≡ report_reply w)
    → chosen ≡ report_choice (list_any (λ c. c.sid == sid) (charts_of services)) sid change → HasFired closing now services history m
    → Chooses act m services chosen
chooses_report {A} act m sid change closing now services history chosen r a q d w is fired =
    by (list_any (λ c. c.sid == sid) (charts_of services)) known is
  where
    known : list_any (λ c. c.sid == sid) m.services ≡ list_any (λ c. c.sid == sid) (charts_of services)
    known = ap (λ cs. list_any (λ c. c.sid == sid) cs) fired.services_are ∙ still_known sid now (charts_of services)

    by : (b : Bool) → list_any (λ c. c.sid == sid) m.services ≡ b → chosen ≡ report_choice b sid change → Chooses act m services chosen
    by true k e =
        let none : act_refusal act m ≡ None = r ∙ ap (λ b. cond b None (Some NoService)) k in
        chooses_this act m services chosen (report sid change) e (record {
          work = λ i. work_unless (none i) (a i);
          hears = hears_nothing m (ask_of act m) no_wait_request q refl;
          asks = d;
          reply = λ h i. reply_unless (none i) (w (work_done act m) i);
        })
    by false k e =
        let some : act_refusal act m ≡ Some NoService = r ∙ ap (λ b. cond b None (Some NoService)) k in
        chooses_this act m services chosen (refuse NoService) e (record {
          work = ap (λ o. work_unless o (asked_work act m)) some;
          hears = hears_nothing m (ask_of act m) no_wait_request q refl;
          asks = d;
          reply = λ h. ap (λ o. reply_unless o (act_reply act m (work_done act m))) some;
        })

-- letters
letters_work : (o : Option ChartState) (change : Change)
    → work_unless (letters_refusal o) (change_found o change) ≡ chosen_work (letters_choice o change)
letters_work None change = refl
letters_work (Some c) change = by (is_gone c.phase)
  where
    by : (b : Bool) → work_unless (cond b (Some Ended) None) (change_one c.sid change) ≡ chosen_work (cond b (refuse Ended) (letters c.sid change))
    by true = refl
    by false = refl

letters_reply : {A : Type 0} (o : Option ChartState) (change : Change) (services : List Supervised) (w : WorkResult) (told : ListenersAnswer)
    → reply_unless {A = A} (letters_refusal o) Done ≡ chosen_reply (letters_choice o change) services w told
letters_reply None change services w told = refl
letters_reply {A} (Some c) change services w told = by (is_gone c.phase)
  where
    by : (b : Bool) → reply_unless {A = A} (cond b (Some Ended) None) Done
        ≡ chosen_reply (cond b (refuse Ended) (letters c.sid change)) services w told
    by true = refl
    by false = refl

letters_change : (now : ℕ) (o : Option ChartState) (change : Change) → chosen_change now (letters_choice o change) ≡ no_wait_request
letters_change now None change = refl
letters_change now (Some c) change = by (is_gone c.phase)
  where
    by : (b : Bool) → chosen_change now (cond b (refuse Ended) (letters c.sid change)) ≡ no_wait_request
    by true = refl
    by false = refl

letters_asks : (o : Option ChartState) (change : Change) → no_directory_request ≡ chosen_ask (letters_choice o change)
letters_asks None change = refl
letters_asks (Some c) change = by (is_gone c.phase)
  where
    by : (b : Bool) → no_directory_request ≡ chosen_ask (cond b (refuse Ended) (letters c.sid change))
    by true = refl
    by false = refl

pub chooses_letters : {A : Type 0} (name : List ℕ) (sent : _) (m : Machine) (closing : Bool) (now : ℕ) (services : List Supervised)
    (history : List Moment) (chosen : Chosen)
    → chosen ≡ letters_choice (find (λ c. bytes_eq name c.name) (services_after (fire_move now) (charts_of services))) (Control sent)
    → HasFired closing now services history m
    → Chooses {A = A} (Svc name sent) m services chosen
chooses_letters {A} name sent m closing now services history chosen is fired =
    let seen : chosen ≡ letters_choice (service_named name m.services) (Control sent) =
    is ∙ sym (ap (λ cs. letters_choice (service_named name cs) (Control sent)) fired.services_are) in
    chooses_this (Svc name sent) m services chosen (letters_choice (service_named name m.services) (Control sent)) seen (record {
      work = letters_work (service_named name m.services) (Control sent);
      hears = hears_nothing m same _ refl (letters_change m.clock (service_named name m.services) (Control sent));
      asks = letters_asks (service_named name m.services) (Control sent);
      reply = λ h. letters_reply (service_named name m.services) (Control sent) services (work_done {A = A} (Svc name sent) m) _;
    })

-- a row
pub row_works : (o : Option Row) → chosen_work (row_choice o) ≡ do_nothing
row_works None = refl
row_works (Some row) = refl

row_change : (now : ℕ) (o : Option Row) → chosen_change now (row_choice o) ≡ no_wait_request
row_change now None = refl
row_change now (Some row) = refl

pub row_asks : (o : Option Row) → chosen_ask (row_choice o) ≡ no_directory_request
row_asks None = refl
row_asks (Some row) = refl

row_replied : {A : Type 0} (o : Option Row) (services : List Supervised) (w : WorkResult) (told : ListenersAnswer)
    → row_reply {A = A} o ≡ chosen_reply (row_choice o) services w told
row_replied None services w told = refl
row_replied (Some row) services w told = refl

pub chooses_row : {A : Type 0} (name : List ℕ) (m : Machine) (closing : Bool) (now : ℕ) (services : List Supervised) (history : List Moment)
    (chosen : Chosen)
    → chosen ≡ row_choice (option_map (status_row (history ++ map moment_of (events_after (fire_move now) (charts_of services))) now)
    (find (λ c. bytes_eq name c.name) (services_after (fire_move now) (charts_of services))))
    → HasFired closing now services history m → Chooses {A = A} (Status name) m services chosen
chooses_row {A} name m closing now services history chosen is fired =
    let o = option_map (status_row m.history m.clock) (find (λ c. bytes_eq name c.name) m.services) in
    let seen : chosen ≡ row_choice o =
    is ∙ sym (λ i. row_choice (option_map (status_row (fired.past i) (fired.clock i)) (find (λ c. bytes_eq name c.name) (fired.services_are i)))) in
    chooses_this (Status name) m services chosen (row_choice o) seen (record {
      work = sym (row_works o);
      hears = hears_nothing m same _ refl (row_change m.clock o);
      asks = sym (row_asks o);
      reply = λ h. row_replied o services (work_done {A = A} (Status name) m) _;
    })

-- the tally of a service has its last deaths, also once its timer went off
tallied_so : (m : Machine) (now : ℕ) (s : Supervised) → IsTallied s m.deaths → tally_of m (fire_move now s.chart).chart ≡ s.tally.kept
tallied_so m now s t =
    let keeps = keeps_fire now s.chart in
    (λ i. last_deaths (keeps.most i) (deaths_of (keeps.sid i) m.deaths))
    ∙ (ap (λ n. last_deaths n (deaths_of s.chart.sid m.deaths)) (sym t.most) ∙ sym t.kept)

tallies_found : (m : Machine) (now : ℕ) (name : List ℕ) (services : List Supervised) → AllTallied services m.deaths
    → option_map (tally_of m) (find (λ c. bytes_eq name c.name) (services_after (fire_move now) (charts_of services))) ≡ tally_in name services
tallies_found m now name [] all = refl
tallies_found m now name (s ∷ services) all =
    ap (λ n. option_map (tally_of m) (cond (bytes_eq name n) (Some (fire_move now s.chart).chart)
    (find (λ c. bytes_eq name c.name) (services_after (fire_move now) (charts_of services))))) (keeps_fire now s.chart).name
    ∙ by (bytes_eq name s.chart.name) (tallies_found m now name services (all_later (λ (x : Supervised). IsTallied x m.deaths) s services all))
  where
    by : (b : Bool) → option_map (tally_of m) (find (λ c. bytes_eq name c.name) (services_after (fire_move now) (charts_of services)))
        ≡ tally_in name services
        → option_map (tally_of m) (cond b (Some (fire_move now s.chart).chart)
        (find (λ c. bytes_eq name c.name) (services_after (fire_move now) (charts_of services))))
        ≡ option_map (λ t. t.tally.kept) (cond b (Some s) (find (λ t. bytes_eq name t.chart.name) services))
    by true e = ap Some (tallied_so m now s (all 0 s (omega arith)))
    by false e = e

tallies_seen : (name : List ℕ) (m : Machine) (closing : Bool) (now : ℕ) (services : List Supervised) (history : List Moment)
    → HasFired closing now services history m
    → tally_named name m ≡ tally_in name services
tallies_seen name m closing now services history fired =
    ap (λ cs. option_map (tally_of m) (find (λ c. bytes_eq name c.name) cs)) fired.services_are ∙ tallies_found m now name services fired.tallies

pub chooses_tally : {A : Type 0} (name : List ℕ) (m : Machine) (closing : Bool) (now : ℕ) (services : List Supervised) (history : List Moment)
    (chosen : Chosen)
    → chosen ≡ tally name → HasFired closing now services history m → Chooses {A = A} (Tally name) m services chosen
chooses_tally name m closing now services history chosen is fired =
    chooses_this (Tally name) m services chosen (tally name) is
    (record {
      work = refl;
      hears = hears_nothing m same no_wait_request refl refl;
      asks = refl;
      reply =
          λ h. ap tally_reply (tallies_seen name m closing now services history fired);
    })

failure_works : (o : Option Bool) → chosen_work (failure_choice o) ≡ do_nothing
failure_works None = refl
failure_works (Some fails) = refl

failure_change : (now : ℕ) (o : Option Bool) → chosen_change now (failure_choice o) ≡ no_wait_request
failure_change now None = refl
failure_change now (Some fails) = refl

failure_asks : (o : Option Bool) → chosen_ask (failure_choice o) ≡ no_directory_request
failure_asks None = refl
failure_asks (Some fails) = refl

failure_replied : {A : Type 0} (o : Option Bool) (services : List Supervised) (w : WorkResult) (told : ListenersAnswer)
    → failure_reply {A = A} o ≡ chosen_reply (failure_choice o) services w told
failure_replied None services w told = refl
failure_replied (Some fails) services w told = refl

pub chooses_failure : {A : Type 0} (name : List ℕ) (seconds count : ℕ) (items : List DeathItem) (m : Machine) (closing : Bool) (now : ℕ)
    (services : List Supervised) (history : List Moment) (chosen : Chosen)
    → chosen ≡ failure_choice (option_map (are_permanent_failure now seconds count items) (tally_in name services))
    → HasFired closing now services history m
    → Chooses {A = A} (Permafailon name seconds count items) m services chosen
chooses_failure {A} name seconds count items m closing now services history chosen is fired =
    let o = failure_named name seconds count items m in
    let seen : chosen ≡ failure_choice o =
    is ∙ sym (λ i. failure_choice (option_map (are_permanent_failure (fired.clock i) seconds count items)
    (tallies_seen name m closing now services history fired i))) in
    chooses_this (Permafailon name seconds count items) m services chosen (failure_choice o) seen (record {
      work = sym (failure_works o);
      hears = hears_nothing m same _ refl (failure_change m.clock o);
      asks = sym (failure_asks o);
      reply = λ h. failure_replied o services (work_done {A = A} (Permafailon name seconds count items) m) _;
    })

-- whether a serial was found
pub known_by : {X : Type 0} (f : X → Supervised) (sid : ℕ) (services : List Supervised) (o : Option X) (b : Bool)
    → option_map f o ≡ find (λ s. s.chart.sid == sid) services → is_some o ≡ b
    → list_any (λ c. c.sid == sid) (charts_of services) ≡ b
known_by {X} f sid services o b found is = sym (any_of sid services) ∙ (sym (ap is_some found) ∙ (mapped o ∙ is))
  where
    mapped : (x : Option X) → is_some (option_map f x) ≡ is_some x
    mapped None = refl
    mapped (Some y) = refl
