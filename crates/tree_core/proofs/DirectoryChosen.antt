-- What is done for an act that asks something of the event directories.
use Rattle.std.proofs.Common.{◌≡◌, ◌∙◌, ℕ, List, Bool, refl, sym, ap}
use Rattle.std.specs.Prelude.{Option, Some, None, option_map}
use Rattle.event_directory.specs.Changes.{directory_refusal, refused_or}
use Rattle.event_directory.specs.Changes.DirectoryRequest.{subscribe}
use Rattle.event_directory.specs.declared.directory_change.DirectoryAnswer.TheVariants as answer
use Rattle.event_directory.specs.declared.directory_change.DirectoryFault.{DirectoryFault}
use Rattle.event_directory.specs.declared.source.Source.{Source}
use Rattle.event_directory.specs.declared.source.Source.TheVariants as source
use Rattle.s6_events.specs.declared.moment.Moment.{Moment}
use Rattle.supervise_core.specs.Service.{Supervised}
use Rattle.svscan_core.specs.Table.{charts_of}
use Rattle.svscan_core.specs.Work.Work.{do_nothing}
use Rattle.tree_core.specs.declared.input.Act.TheVariants.{Subscribe}
use Rattle.tree_core.specs.declared.input.Target.{Target}
use Rattle.tree_core.specs.declared.input.Target.TheVariants as target
use Rattle.tree_core.specs.declared.reply.Refusal.{Refusal}
use Rattle.tree_core.specs.declared.reply.Reply.TheVariants as answers
use Rattle.tree_core.specs.Acts.{reply_unless, work_unless}
use Rattle.tree_core.specs.ActRefusals.{serial_of, source_named}
use Rattle.tree_core.specs.Listening.{as_refusal}
use Rattle.tree_core.specs.Machine.{Machine, directories_of}
use Rattle.tree_core.specs.Choices.{Chosen, subscribe_choice}
use Rattle.tree_core.specs.Replies.{directory_reply}
use Rattle.tree_core.specs.Plan.{Chooses, HasFired}
use Rattle.tree_core.proofs.Choosing.{chooses_this}
use Rattle.tree_core.proofs.WaitChosen.{still_named}

-- nothing is asked of the services, refused or not
no_work : (why : Option Refusal) → work_unless why do_nothing ≡ do_nothing
no_work None = refl
no_work (Some why) = refl

-- a refusal of the directories is the tree's
made_told : {A : Type 0} (o : Option DirectoryFault) (id : ℕ)
    → reply_unless {A = A} (option_map as_refusal o) (answers.Subscription id) ≡ directory_reply (refused_or o (answer.Subscribed id))
made_told None id = refl
made_told (Some fault) id = refl

-- a subscription
subscribes : {A : Type 0} (to : Target) (pattern : List ℕ) (repeats : Bool) (m : Machine) (services : List Supervised) (o : Option Source)
    → source_named to m.services ≡ o
    → Chooses {A = A} (Subscribe to pattern repeats) m services (subscribe_choice o)
subscribes to pattern repeats m services None e = record {
  work = rw e refl;
  hears = record { after = λ h. refl; at_once = λ h. refl };
  asks = rw e refl;
  reply = λ h. rw e refl;
}
subscribes to pattern repeats m services (Some (source.Service sid)) e = record {
  work = no_work _;
  hears = record { after = λ h. refl; at_once = λ h. refl };
  asks = rw e refl;
  reply = λ h. rw e (made_told (directory_refusal (subscribe (source.Service sid)) (directories_of m)) m.next_subscription);
}
subscribes to pattern repeats m services (Some (source.Directory name)) e = record {
  work = no_work _;
  hears = record { after = λ h. refl; at_once = λ h. refl };
  asks = rw e refl;
  reply = λ h. rw e (made_told (directory_refusal (subscribe (source.Directory name)) (directories_of m)) m.next_subscription);
}

-- the timers leave what was found
still_found : (to : Target) (m : Machine) (closing : Bool) (now : ℕ) (services : List Supervised) (history : List Moment)
    → HasFired closing now services history m
    → source_named to m.services ≡ source_named to (charts_of services)
still_found (target.Service name) m closing now services history fired =
    ap (option_map source.Service) (ap (serial_of name) fired.services_are ∙ still_named name now (charts_of services))
still_found (target.Directory name) m closing now services history fired = refl

pub chooses_subscribe : {A : Type 0} (to : Target) (pattern : List ℕ) (repeats : Bool) (m : Machine) (closing : Bool) (now : ℕ)
    (services : List Supervised) (history : List Moment) (chosen : Chosen)
    → chosen ≡ subscribe_choice (source_named to (charts_of services)) → HasFired closing now services history m
    → Chooses {A = A} (Subscribe to pattern repeats) m services chosen
chooses_subscribe to pattern repeats m closing now services history chosen is fired =
    chooses_this (Subscribe to pattern repeats) m services chosen (subscribe_choice (source_named to m.services))
    (is ∙ sym (ap subscribe_choice (still_found to m closing now services history fired)))
    (subscribes to pattern repeats m services (source_named to m.services) refl)
