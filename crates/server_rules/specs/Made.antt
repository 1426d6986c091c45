-- What a connection made, and what a request of it may make.
use Rattle.std.specs.Prelude.{ℕ, ◌+◌, ◌==◌, ◌&&◌, ◌||◌, List, [], ◌∷◌, ◌++◌, Bool, true, false, filter, length, not, nat_lt, Option, Some, None, if◌then◌else◌}
use Rattle.std.specs.List.{list_any}
use Rattle.std.specs.Str.{bytes_eq}
use Rattle.std.specs.declared.alloc.Global.{Global}
use Rattle.tree_core.specs.declared.input.Act.{Act}
use Rattle.tree_core.specs.declared.input.Act.TheVariants.{Cancel, Subscribe, Unsubscribe, Wait}
use Rattle.tree_core.specs.declared.reply.Reply.{Reply}
use Rattle.tree_core.specs.declared.reply.Reply.TheVariants as reply
use Rattle.server_rules.specs.declared.following.Following.{Following}
use Rattle.server_rules.specs.declared.following.Following.TheVariants as following
use Rattle.server_rules.specs.declared.made_things.Admission.{Admission}
use Rattle.server_rules.specs.declared.made_things.Admission.TheVariants as admission
use Rattle.server_rules.specs.declared.made_things.MadeChange.{MadeChange}
use Rattle.server_rules.specs.declared.made_things.MadeChange.TheVariants as change

-- what a connection made: the waiters that wait and the subscriptions, each in the order made; the waiters whose release was told, in
-- the order told; the services whose letters it follows; and the wait that is put off until a released waiter has ended
pub record Made : Type 0 where
  pub waiters : List ℕ
  pub released : List ℕ
  pub subscriptions : List ℕ
  pub follows : Following
  pub put_off : Option (Act Global)

-- nothing was made, and nothing is followed
abbrev pub nothing_made : Made
nothing_made = record { waiters = []; released = []; subscriptions = []; follows = following.Nobody; put_off = None }

-- nothing is followed, and nothing put off
abbrev pub let_go : Made → Made
let_go made = record made { follows = following.Nobody; put_off = None }

-- it follows the service of this name
abbrev pub is_followed : List ℕ → Following → Bool
is_followed name following.Nobody = false
is_followed name following.All = true
is_followed name (following.One followed) = bytes_eq followed name

abbrev pub follows_any : Following → Bool
follows_any following.Nobody = false
follows_any following.All = true
follows_any (following.One followed) = true

-- something may still be told
abbrev pub is_told_more : Made → Bool
is_told_more made = not ((length made.waiters == 0) && (length made.subscriptions == 0)) || follows_any made.follows

-- the most waiters, and the most subscriptions, of one connection
abbrev pub waiter_limit : ℕ
waiter_limit = 64

abbrev pub subscription_limit : ℕ
subscription_limit = 32

-- there is a place for one more waiter, or for one more subscription
abbrev pub has_place : Made → Bool
has_place made = nat_lt (length made.waiters + length made.released) waiter_limit

abbrev pub has_subscription_place : Made → Bool
has_subscription_place made = nat_lt (length made.subscriptions) subscription_limit

-- a waiter gets a free place, or that of a released one, or is refused
abbrev pub waiter_admission : Made → Admission
waiter_admission made =
    if has_place made then admission.Admitted else
    if length made.released == 0 then admission.Refused else admission.AfterReleased

-- whether an act is done
abbrev pub admission_of : Act Global → Made → Admission
admission_of (Wait condition mode timeout names) made = waiter_admission made
admission_of (Subscribe target pattern repeats) made = if has_subscription_place made then admission.Admitted else admission.Refused
admission_of act made = admission.Admitted

-- what an act makes or ends, once it is done
abbrev pub change_of : Act Global → MadeChange
change_of (Wait condition mode timeout names) = change.MakesWaiter
change_of (Subscribe target pattern repeats) = change.MakesSubscription
change_of (Cancel id) = change.EndsWaiter id
change_of (Unsubscribe id) = change.EndsSubscription id
change_of act = change.Other

-- all but this one
abbrev pub without : ℕ → List ℕ → List ℕ
without id ids = filter (λ other. not (other == id)) ids

-- what it made, after this reply to an act with this change
abbrev pub after_reply : MadeChange → Reply Global → Made → Made
after_reply change.MakesWaiter (reply.Waiter id) made = record made { waiters = made.waiters ++ id ∷ [] }
after_reply change.MakesSubscription (reply.Subscription id) made = record made { subscriptions = made.subscriptions ++ id ∷ [] }
after_reply (change.EndsWaiter id) reply.Done made = record made { waiters = without id made.waiters; released = without id made.released }
after_reply (change.EndsSubscription id) reply.Done made = record made { subscriptions = without id made.subscriptions }
after_reply a r made = made

-- what it made, once the release of this waiter was told: it waits no more
abbrev pub after_release : ℕ → Made → Made
after_release id made = record made { waiters = without id made.waiters; released = made.released ++ id ∷ [] }

-- whether it is one of these
abbrev pub is_among : ℕ → List ℕ → Bool
is_among id ids = list_any (λ other. other == id) ids

-- there is a place for what an act with this change makes
abbrev pub has_room_for : MadeChange → Made → Bool
has_room_for change.MakesWaiter made = has_place made
has_room_for change.MakesSubscription made = has_subscription_place made
has_room_for c made = true

-- the act that ends what is ended next, and what is left then: the released waiters go first, then the others, then the subscriptions
pub record Ended : Type 0 where
  pub act : Act Global
  pub made : Made

abbrev pub next_ended : (released waiters subscriptions : List ℕ) → Made → Option Ended
next_ended (id ∷ released) waiters subscriptions made = Some (record { act = Cancel id; made = record made { released = released } })
next_ended [] (id ∷ waiters) subscriptions made = Some (record { act = Cancel id; made = record made { waiters = waiters } })
next_ended [] [] (id ∷ subscriptions) made =
    Some (record { act = Unsubscribe id; made = record made { subscriptions = subscriptions } })
next_ended [] [] [] made = None

abbrev pub next_end : Made → Option Ended
next_end made = next_ended made.released made.waiters made.subscriptions made
