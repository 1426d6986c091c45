-- A scan, as one service sees it: it looks at its directory and stays or leaves, or it is new.
use Rattle.std.proofs.Common.{◌≡◌, ◌∙◌, ℕ, ◌≤◌, ◌<◌, List, [], ◌∷◌, ◌++◌, ◌==◌, Bool, true, false, cond, rules, arith, append-nil}
use Rattle.std.specs.Prelude.{nat_lt, length, Option, Some, None}
use Rattle.std.proofs.lemmas.Bool.{cases_lt}
use Rattle.std.proofs.Common.{inl, inr}
use Rattle.servicedir.specs.declared.config.Config.{Config}
use Rattle.supervise_core.specs.declared.chart_state.ChartState.{ChartState}
use Rattle.supervise_core.specs.ChartState.{Moved, new_service}
use Rattle.supervise_core.specs.Moves.{begin_move}
use Rattle.supervise_core.proofs.Identity.{keeps_begin}
use Rattle.svscan_core.specs.declared.entry.Entry.{Entry}
use Rattle.svscan_core.specs.declared.entry.Listed.{Listed}
use Rattle.svscan_core.specs.declared.entry.Listed.TheVariants.{Full, Unread}
use Rattle.svscan_core.specs.Listing.{listed_config}
use Rattle.svscan_core.specs.Scan.{ScanState, stands, service_limit, with_service, with_new_name, with_name, with_names}
use Rattle.tree_core.specs.Taken.{services_of, marks_of, orders_of}
use Rattle.tree_core.proofs.Owners.{for_begin}
use Rattle.tree_core.proofs.OwnMoves.{own_behind, marks_behind, orders_behind, marks_kept, orders_kept}

-- a service that has just begun
abbrev pub begins : ℕ → List ℕ → Config → Moved
begins sid name config = begin_move (new_service sid name config)

-- of the services that stayed, those of the serial, and what the additions show of them so far
pub record Same (sid : ℕ) (xs : List ChartState) (g : ScanState) : Type 0 where
  pub services : services_of sid g.services ≡ xs
  pub marks : marks_of sid g.events ≡ []
  pub orders : orders_of sid g.orders ≡ []

pub record IsNew (sid : ℕ) (g : ScanState) (name : List ℕ) (config : Config) : Type 0 where
  pub services : services_of sid g.services ≡ (begins sid name config).chart ∷ []
  pub marks : marks_of sid g.events ≡ (begins sid name config).marks
  pub orders : orders_of sid g.orders ≡ (begins sid name config).orders

-- its serial has come before these additions
pub record Old (sid : ℕ) (xs : List ChartState) (g : ScanState) : Type 0 where
  pub later : sid < g.next_sid
  pub same : Same sid xs g

-- its serial is yet to come, or it came with these additions
pub data Added (sid : ℕ) (g : ScanState) : Type 0 where
  yet_to_come : g.next_sid ≤ sid → Same sid [] g → Added sid g
  came : sid < g.next_sid → (name : List ℕ) (config : Config) → IsNew sid g name config → Added sid g

same_serial : (n m : ℕ) → n ≡ m → (n == m) ≡ true
same_serial n m h = search rules

other_serial : (n m : ℕ) → m < n → (n == m) ≡ false
other_serial n m h = search rules

lower_serial : (n m : ℕ) → n < m → (n == m) ≡ false
lower_serial n m h = search rules

-- one service more, of another serial
one_other : (sid : ℕ) (xs : List ChartState) (config : Config) (g : ScanState) (name : List ℕ) → (g.next_sid == sid) ≡ false → Same sid xs g
    → Same sid xs (with_service config g name)
one_other sid xs config g name other h = record {
  services =
      own_behind sid g.services ((begins g.next_sid name config).chart ∷ [])
      ∙ ((λ i. services_of sid g.services ++ cond (((keeps_begin g.next_sid name config).sid i) == sid)
      ((begins g.next_sid name config).chart ∷ []) [])
      ∙ ((λ i. services_of sid g.services ++ cond (other i) ((begins g.next_sid name config).chart ∷ []) [])
      ∙ (append-nil (services_of sid g.services) ∙ h.services)));
  marks = marks_behind sid g.events _ ∙ ((λ i. h.marks i ++ marks_kept sid g.next_sid false (begins g.next_sid name config).marks other i));
  orders = orders_behind sid g.orders _ ∙ ((λ i.
      h.orders i ++ orders_kept sid g.next_sid false (begins g.next_sid name config).orders other (for_begin g.next_sid name config) i));
}

one_own : (sid : ℕ) (config : Config) (g : ScanState) (name : List ℕ) → g.next_sid ≡ sid → Same sid [] g
    → IsNew sid (with_service config g name) name config
one_own sid config g name e h =
    let own_one : (g.next_sid == sid) ≡ true = same_serial g.next_sid sid e in
    record {
      services =
          own_behind sid g.services ((begins g.next_sid name config).chart ∷ [])
          ∙ ((λ i. h.services i ++ cond (((keeps_begin g.next_sid name config).sid i) == sid) ((begins g.next_sid name config).chart ∷ []) [])
          ∙ ((λ i. cond (own_one i) ((begins g.next_sid name config).chart ∷ []) []) ∙ (λ i. (begins (e i) name config).chart ∷ [])));
      marks = marks_behind sid g.events _ ∙ ((λ i. h.marks i ++ marks_kept sid g.next_sid true (begins g.next_sid name config).marks own_one i)
          ∙ (λ i. (begins (e i) name config).marks));
      orders =
          orders_behind sid g.orders _
          ∙ ((λ i. h.orders i ++ orders_kept sid g.next_sid true (begins g.next_sid name config).orders own_one
          (for_begin g.next_sid name config) i) ∙ (λ i. (begins (e i) name config).orders));
    }

one_more_new : (sid : ℕ) (config : Config) (g : ScanState) (name of_name : List ℕ) (of : Config) → (g.next_sid == sid) ≡ false
    → IsNew sid g of_name of
    → IsNew sid (with_service config g name) of_name of
one_more_new sid config g name of_name of other h = record {
  services =
      own_behind sid g.services ((begins g.next_sid name config).chart ∷ [])
      ∙ ((λ i. services_of sid g.services ++ cond (((keeps_begin g.next_sid name config).sid i) == sid)
      ((begins g.next_sid name config).chart ∷ []) [])
      ∙ ((λ i. services_of sid g.services ++ cond (other i) ((begins g.next_sid name config).chart ∷ []) [])
      ∙ (append-nil (services_of sid g.services) ∙ h.services)));
  marks = marks_behind sid g.events _ ∙ ((λ i. h.marks i ++ marks_kept sid g.next_sid false (begins g.next_sid name config).marks other i)
      ∙ append-nil (begins sid of_name of).marks);
  orders = orders_behind sid g.orders _ ∙ ((λ i.
      h.orders i ++ orders_kept sid g.next_sid false (begins g.next_sid name config).orders other (for_begin g.next_sid name config) i)
      ∙ append-nil (begins sid of_name of).orders);
}

with_own : (sid : ℕ) (config : Config) (g : ScanState) (name : List ℕ) → Added sid g → Added sid (with_service config g name)
with_own sid config g name (yet_to_come before h) = elim (cases_lt g.next_sid sid) [
  | inl lower ↦ yet_to_come (omega arith) (one_other sid [] config g name (lower_serial g.next_sid sid lower) h)
  | inr not_lower ↦
      let e : g.next_sid ≡ sid = omega arith in
      came (omega arith) name config (one_own sid config g name e h)
]
with_own sid config g name (came before of_name of h) =
    came (omega arith) of_name of (one_more_new sid config g name of_name of (other_serial g.next_sid sid before) h)

-- what is told of a name joins what was told, and the rest stays
abbrev with_told : ScanState → Listed → ScanState
with_told g told = record g { listed = g.listed ++ told ∷ [] }

told_added : (sid : ℕ) (g : ScanState) (told : Listed) → Added sid g → Added sid (with_told g told)
told_added sid g told (yet_to_come before h) = yet_to_come before (record { services = h.services; marks = h.marks; orders = h.orders })
told_added sid g told (came before name config h) = came before name config (record { services = h.services; marks = h.marks; orders = h.orders })

with_new_own : (sid : ℕ) (found : Option Config) (g : ScanState) (name : List ℕ) → Added sid g → Added sid (with_new_name found g name)
with_new_own sid None g name h = told_added sid g (Unread name) h
with_new_own sid (Some config) g name h = by (nat_lt (length g.services) service_limit)
  where
    by : (b : Bool) → Added sid (cond b (with_service config g name) (with_told g (Full name)))
    by true = with_own sid config g name h
    by false = told_added sid g (Full name) h

-- a name that stands is passed over
with_name_own : (listing : List Entry) (sid : ℕ) (g : ScanState) (name : List ℕ) → Added sid g → Added sid (with_name listing g name)
with_name_own listing sid g name h = by (stands name g.services)
  where
    by : (b : Bool) → Added sid (cond b g (with_new_name (listed_config listing name) g name))
    by true = h
    by false = with_new_own sid (listed_config listing name) g name h

-- one name after the other
pub with_names_own : (listing : List Entry) (sid : ℕ) (g : ScanState) (names : List (List ℕ)) → Added sid g → Added sid (with_names listing g names)
with_names_own listing sid g [] h = h
with_names_own listing sid g (name ∷ names) h = with_names_own listing sid (with_name listing g name) names (with_name_own listing sid g name h)

-- the same for a serial that has come
old_new : (sid : ℕ) (xs : List ChartState) (found : Option Config) (g : ScanState) (name : List ℕ) → Old sid xs g
    → Old sid xs (with_new_name found g name)
old_new sid xs None g name h = record {
  later = h.later;
  same =
      record { services = h.same.services; marks = h.same.marks; orders = h.same.orders };
}
old_new sid xs (Some config) g name h = by (nat_lt (length g.services) service_limit)
  where
    by : (b : Bool) → Old sid xs (cond b (with_service config g name) (with_told g (Full name)))
    by true = let later = h.later in record {
      later = omega (arith, later);
      same =
          one_other sid xs config g name (other_serial g.next_sid sid h.later) h.same;
    }
    by false = record { later = h.later; same = record { services = h.same.services; marks = h.same.marks; orders = h.same.orders } }

old_name : (listing : List Entry) (sid : ℕ) (xs : List ChartState) (g : ScanState) (name : List ℕ) → Old sid xs g
    → Old sid xs (with_name listing g name)
old_name listing sid xs g name h = by (stands name g.services)
  where
    by : (b : Bool) → Old sid xs (cond b g (with_new_name (listed_config listing name) g name))
    by true = h
    by false = old_new sid xs (listed_config listing name) g name h

pub old_names : (listing : List Entry) (sid : ℕ) (xs : List ChartState) (g : ScanState) (names : List (List ℕ)) → Old sid xs g
    → Old sid xs (with_names listing g names)
old_names listing sid xs g [] h = h
old_names listing sid xs g (name ∷ names) h = old_names listing sid xs (with_name listing g name) names (old_name listing sid xs g name h)
