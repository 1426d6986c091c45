-- A run as contracts see it: each input with what the machine gave.
use Rattle.std.specs.Prelude.{◌≡◌, ℕ, Bool, true, false, zero, suc, ◌<◌, ◌≤◌, ◌^◌, ◌==◌, List, [], ◌∷◌, ◌++◌, map, filter, length, slice_get, option_map, Option, None, Some, if◌then◌else◌}
use Rattle.std.specs.declared.alloc.Global.{Global}
use Rattle.tree_core.specs.declared.input.Input.{Input}
use Rattle.tree_core.specs.declared.reply.Reply.{Reply}
use Rattle.tree_core.specs.Limits.{order_limit}
use Rattle.tree_core.specs.Machine.{Machine, Outcome}
use Rattle.tree_core.specs.Run.{after_all, outcomes}

-- an input, and all that its step gave
pub record RunStep : Type 0 where
  pub input : Input Global
  pub outcome : Outcome Global

-- where the steps of one actor stand, and how many more it has room for
pub record PlaceList : Type 0 where
  pub places : List ℕ
  pub room : ℕ

-- steps that are kept as they are, and the room that is left: for steps, and for their orders
pub record WholeView : Type 0 where
  pub steps : List RunStep
  pub room : ℕ
  pub order_room : ℕ

-- there is room for a step, whatever it gives
pub record WholeHasRoom (whole : WholeView) : Type 0 where
  pub record_fits : 1 ≤ whole.room
  pub orders_fit : order_limit ≤ whole.order_room

-- the steps of a log, the room that is left, and those of them that are kept as they are
pub record LogView : Type 0 where
  pub steps : List RunStep
  pub room : ℕ
  pub whole : WholeView

-- there is room for a step, whatever it gives
pub record LogHasRoom (log : LogView) : Type 0 where
  pub step_fits : 1 ≤ log.room
  pub whole_fits : WholeHasRoom log.whole
  pub few : length log.whole.steps < 2 ^ 32

-- a run: its steps, the log that has them, and how many places each actor has room for
pub record RunView : Type 0 where
  pub steps : List RunStep
  pub log : LogView
  pub place_room : List ℕ

-- there is room for a step of this actor, whatever it gives
pub record HasRoom (actor : ℕ) (run : RunView) : Type 0 where
  pub log_fits : LogHasRoom run.log
  pub place_fits : (free : ℕ) → slice_get run.place_room actor ≡ Some free → 1 ≤ free

abbrev pub inputs_of : List RunStep → List (Input Global)
inputs_of steps = map (λ s. s.input) steps

abbrev pub outcomes_of : List RunStep → List (Outcome Global)
outcomes_of steps = map (λ s. s.outcome) steps

-- each step gave what the machine gives at its place
abbrev pub IsLegal : Machine → List RunStep → Type 0
IsLegal m steps = outcomes_of steps ≡ outcomes m (inputs_of steps)

-- the machine after these steps
abbrev pub end_of : Machine → List RunStep → Machine
end_of m steps = after_all m (inputs_of steps)

-- what the step of this number gave, from 1, if there is one
abbrev pub outcome_at : ℕ → List RunStep → Option (Outcome Global)
outcome_at zero steps = None
outcome_at (suc n) steps = option_map (λ s. s.outcome) (slice_get steps n)

-- what is filled in is what the step of this number gave; where there is no such step, nothing is
abbrev pub IsFilled : Bool → Outcome Global → ℕ → List RunStep → Type 0
IsFilled true o n steps = outcome_at n steps ≡ Some o
IsFilled false o n steps = outcome_at n steps ≡ None

-- whose input the step of this number took, from 1, if there is one
abbrev pub actor_at : ℕ → List RunStep → Option ℕ
actor_at zero steps = None
actor_at (suc n) steps = option_map (λ s. s.input.actor) (slice_get steps n)

-- at which moment the input of the step of this number was handed in, from 1, if there is one
abbrev pub moment_at : ℕ → List RunStep → Option ℕ
moment_at zero steps = None
moment_at (suc n) steps = option_map (λ s. s.input.at) (slice_get steps n)

-- this actor's steps, in order
abbrev pub steps_of : ℕ → List RunStep → List RunStep
steps_of actor steps = filter (λ s. s.input.actor == actor) steps

-- the reply to this actor's input of this number, from 1, if there is one
abbrev pub reply_at : ℕ → ℕ → List RunStep → Option (Reply Global)
reply_at actor zero steps = None
reply_at actor (suc n) steps = option_map (λ s. s.outcome.reply) (slice_get (steps_of actor steps) n)

-- the places of this actor's steps, of which the first stands at this place
abbrev pub places_from : ℕ → ℕ → List RunStep → List ℕ
places_from place actor [] = []
places_from place actor (s ∷ steps) = (if s.input.actor == actor then place ∷ [] else []) ++ places_from (suc place) actor steps

-- at each actor's place stand the places of that actor's steps
abbrev pub ArePlaced : List PlaceList → List RunStep → Type 0
ArePlaced all steps = (actor : ℕ) (one : PlaceList) → slice_get all actor ≡ Some one → one.places ≡ places_from 0 actor steps

-- no actor has a step
abbrev pub AreEmpty : List PlaceList → Type 0
AreEmpty all = (actor : ℕ) (one : PlaceList) → slice_get all actor ≡ Some one → one.places ≡ []
