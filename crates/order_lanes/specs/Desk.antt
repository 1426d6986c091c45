-- What a contract sees of a desk, and what one call there does.
use Rattle.std.specs.Prelude.{◌≡◌, ℕ, List, [], ◌∷◌, ◌++◌, Option, Some, None}
use Rattle.s6_events.specs.declared.order.Order.{Order}
use Rattle.s6_events.specs.declared.report.Report.{Report}

-- its lane, what its backend took and gave, the order that is held, what was taken from the ring, and what is seen in the ring beyond that
pub record DeskView : Type 0 where
  pub lane : ℕ
  pub asked : List Order
  pub given : List Report
  pub held : Option Order
  pub taken : List Order
  pub seen : List Order

-- the held order, as a list
abbrev pub held_list : Option Order → List Order
held_list None = []
held_list (Some order) = order ∷ []

-- the order is the next one: it was held, or else is taken from the ring now; and it is held from now on
pub record HoldsNext (order : Order) (old new : DeskView) : Type 0 where
  pub more : List Order
  pub taken : new.taken ≡ old.taken ++ more
  pub next : held_list old.held ++ more ≡ order ∷ []
  pub held : new.held ≡ Some order
  pub asked : new.asked ≡ old.asked

-- the order is the next one, and the backend takes it; none is held from now on
pub record AsksNext (order : Order) (old new : DeskView) : Type 0 where
  pub more : List Order
  pub taken : new.taken ≡ old.taken ++ more
  pub next : held_list old.held ++ more ≡ order ∷ []
  pub held : new.held ≡ None
  pub asked : new.asked ≡ old.asked ++ order ∷ []

-- none was held, and the ring gave none
pub record HasNothing (old new : DeskView) : Type 0 where
  pub taken : new.taken ≡ old.taken
  pub seen : new.seen ≡ []
  pub held : (old.held ≡ None) × (new.held ≡ None)
  pub asked : new.asked ≡ old.asked
