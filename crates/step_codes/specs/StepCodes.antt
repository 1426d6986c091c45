-- How a step is coded.
use Rattle.std.specs.Prelude.{◌≡◌, ℕ, ◌<◌, ◌≤◌, ◌^◌, ◌&&◌, Bool, List, [], ◌∷◌, length, nat_eq}
use Rattle.std.specs.declared.alloc.Global.{Global}
use Rattle.s6_events.specs.At.{last_moment}
use Rattle.tree_core.specs.Limits.{order_limit}
use Rattle.tree_core.specs.Machine.{Outcome}
use Rattle.tree_core.specs.declared.input.Input.{Input}
use Rattle.step_codes.specs.NumberCodes.{number_onto}
use Rattle.step_codes.specs.ListCodes.{list_onto, AllFit}
use Rattle.step_codes.specs.ToldCodes.{event_onto, release_onto, FitsEvent, FitsRelease}
use Rattle.step_codes.specs.OrderCodes.{order_onto, FitsOrder}
use Rattle.step_codes.specs.ReplyCodes.{reply_onto, has_reply_code, FitsReply}
use Rattle.step_codes.specs.ActCodes.{act_onto, has_act_code, FitsAct}

-- what a step gave: its reply, its events, its orders and its releases
abbrev pub outcome_onto : Outcome Global → List ℕ → List ℕ
outcome_onto o rest =
    reply_onto o.reply (list_onto event_onto o.events (list_onto order_onto o.orders (list_onto release_onto o.released rest)))

-- its actor, its moment, what it gave, and its act
abbrev pub step_onto : Input Global → Outcome Global → List ℕ → List ℕ
step_onto i o rest = i.actor ∷ number_onto i.at (outcome_onto o (act_onto i.act rest))

-- its act and its reply have a code, and nothing matched
abbrev pub has_step_code : Input Global → Outcome Global → Bool
has_step_code i o = has_act_code i.act && (has_reply_code o.reply && nat_eq (length o.matched) 0)

pub record FitsOutcome (o : Outcome Global) : Type 0 where
  pub reply : FitsReply o.reply
  pub events : AllFit FitsEvent o.events
  pub few_events : length o.events < 2 ^ 64
  pub orders : AllFit FitsOrder o.orders
  pub few_orders : length o.orders ≤ order_limit
  pub released : AllFit FitsRelease o.released
  pub few_released : length o.released < 2 ^ 64
  pub none_matched : o.matched ≡ []

pub record FitsStep (i : Input Global) (o : Outcome Global) : Type 0 where
  pub actor : i.actor ≤ 15
  pub at : i.at ≤ last_moment
  pub outcome : FitsOutcome o
  pub act : FitsAct i.act
