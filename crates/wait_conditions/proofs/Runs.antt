-- Runs that are put into the list of them, and taken out.
use Rattle.std.proofs.Common.{◌≡◌, ◌≤◌, ◌<◌, ◌+◌, ◌-◌, ℕ, zero, suc, List, [], ◌∷◌, ◌++◌, Bool, true, false, ◌&&◌, ◌||◌, arith, length, take, drop, get_or, refl, sym, ap, ◌∙◌, append_assoc, if◌then◌else◌}
use Rattle.std.specs.Prelude.{◌==◌, nat_le, nat_lt, IfSome, slice_get, slice_set}
use Rattle.std.specs.List.{list_all, list_any, remove}
use Rattle.std.proofs.lemmas.Bool.Decides.{nat_tests}
use Rattle.std.proofs.lemmas.List.{take-append-drop, drop_more, take_more, take_at, drop_at, length-take-le}
use Rattle.wait_conditions.specs.declared.service_states.StateRun.{StateRun}
use Rattle.wait_conditions.specs.declared.supervisor_state.SupervisorState.{SupervisorState}
use Rattle.wait_conditions.specs.States.{state_in}

-- one of the runs reaches up to the serial
abbrev covers : List StateRun → ℕ → Bool
covers runs sid = list_any (λ r. nat_le sid r.last) runs

one_more : (b c : Bool) (x y z w : SupervisorState) → y ≡ (if c then z else w)
    → (if b then x else y) ≡ (if b || c then (if b then x else z) else w)
one_more true c x y z w h = refl
one_more false c x y z w h = h

-- two lists in a row
pub state_in-append : (xs ys : List StateRun) (q : ℕ) → state_in (xs ++ ys) q ≡ (if covers xs q then state_in xs q else state_in ys q)
state_in-append [] ys q = refl
state_in-append (x ∷ xs) ys q =
    one_more (nat_le q x.last) (covers xs q) x.state (state_in (xs ++ ys) q) (state_in xs q) (state_in ys q) (state_in-append xs ys q)

-- what follows some runs may be exchanged for what says the same
pub state_in-behind : (xs ys zs : List StateRun) (q : ℕ) → state_in ys q ≡ state_in zs q → state_in (xs ++ ys) q ≡ state_in (xs ++ zs) q
state_in-behind xs ys zs q h =
    state_in-append xs ys q ∙ (ap (λ s. if covers xs q then state_in xs q else s) h ∙ sym (state_in-append xs zs q))

shadow : (a b : Bool) (x y z : SupervisorState) → (b ≡ true → a ≡ true) → (if a then x else (if b then y else z)) ≡ (if a then x else z)
shadow true b x y z h = refl
shadow false true x y z h = let bad : false ≡ true = h refl in cc
shadow false false x y z h = refl

no_further : (q n m : ℕ) → n ≤ m → nat_le q n ≡ true → nat_le q m ≡ true
no_further q n m le h = grind (arith, nat_tests)

-- a run that reaches no further than the one before it says nothing
pub covered_run : (x y : StateRun) (ys : List StateRun) (q : ℕ) → y.last ≤ x.last → state_in (x ∷ y ∷ ys) q ≡ state_in (x ∷ ys) q
covered_run x y ys q le =
    shadow (nat_le q x.last) (nat_le q y.last) x.state y.state (state_in ys q) (no_further q y.last x.last le)

same_twice : (a b : Bool) (x y z : SupervisorState) → x ≡ y → (a ≡ true → b ≡ true)
    → (if a then x else (if b then y else z)) ≡ (if b then y else z)
same_twice true true x y z e h = e
same_twice true false x y z e h = let bad : false ≡ true = h refl in cc
same_twice false b x y z e h = refl

-- nor does one that says the same as the one after it, which reaches as far
pub repeated_run : (x y : StateRun) (ys : List StateRun) (q : ℕ) → x.last ≤ y.last → x.state ≡ y.state
    → state_in (x ∷ y ∷ ys) q ≡ state_in (y ∷ ys) q
repeated_run x y ys q le same =
    same_twice (nat_le q x.last) (nat_le q y.last) x.state y.state (state_in ys q) same (no_further q x.last y.last le)

-- a list round two neighbours
round_two : (xs : List StateRun) (j : ℕ) (x y : StateRun) → j + 1 < length xs → x ≡ get_or xs j x → y ≡ get_or xs (j + 1) y
    → xs ≡ take j xs ++ x ∷ y ∷ drop (j + 1 + 1) xs
round_two xs j x y lt ex ey =
    sym (take-append-drop j xs)
    ∙ ap (λ t. take j xs ++ t)
    (drop_more xs j x (omega arith) ∙ (ap (λ r. r ∷ drop (j + 1) xs) (sym ex)
    ∙ ap (λ t. x ∷ t) (drop_more xs (j + 1) y lt ∙ ap (λ r. r ∷ drop (j + 1 + 1) xs) (sym ey))))

removed : (xs : List StateRun) (i : ℕ) → remove xs i ≡ take i xs ++ drop (i + 1) xs
removed xs i = let next : suc i ≡ i + 1 = omega arith in ap (λ n. take i xs ++ drop n xs) next

pub drops_covered : (xs : List StateRun) (i j : ℕ) (x y : StateRun) → i ≡ j + 1 → i < length xs → x ≡ get_or xs j x → y ≡ get_or xs i y
    → y.last ≤ x.last → (q : ℕ) → state_in (remove xs i) q ≡ state_in xs q
drops_covered xs i j x y same lt ex ey le q =
    let inside : j + 1 < length xs = omega (arith, same, lt) in
    let here : y ≡ get_or xs (j + 1) y = ey ∙ ap (λ n. get_or xs n y) same in
    let front : take (j + 1) xs ≡ take j xs ++ x ∷ [] = take_more xs j x (omega arith) ∙ ap (λ r. take j xs ++ r ∷ []) (sym ex) in
    ap (λ n. state_in (remove xs n) q) same
    ∙ (ap (λ t. state_in t q) (removed xs (j + 1))
    ∙ (ap (λ t. state_in (t ++ drop (j + 1 + 1) xs) q) front
    ∙ (ap (λ t. state_in t q) (append_assoc (take j xs) (x ∷ []) (drop (j + 1 + 1) xs))
    ∙ (state_in-behind (take j xs) (x ∷ drop (j + 1 + 1) xs) (x ∷ y ∷ drop (j + 1 + 1) xs) q
    (sym (covered_run x y (drop (j + 1 + 1) xs) q le))
    ∙ ap (λ t. state_in t q) (sym (round_two xs j x y inside ex here))))))

pub drops_repeated : (xs : List StateRun) (j : ℕ) (x y : StateRun) → j + 1 < length xs → x ≡ get_or xs j x → y ≡ get_or xs (j + 1) y
    → x.last ≤ y.last → x.state ≡ y.state → (q : ℕ) → state_in (remove xs j) q ≡ state_in xs q
drops_repeated xs j x y lt ex ey le same q =
    ap (λ t. state_in t q) (removed xs j)
    ∙ (ap (λ t. state_in (take j xs ++ t) q) (drop_more xs (j + 1) y lt ∙ ap (λ r. r ∷ drop (j + 1 + 1) xs) (sym ey))
    ∙ (state_in-behind (take j xs) (y ∷ drop (j + 1 + 1) xs) (x ∷ y ∷ drop (j + 1 + 1) xs) q
    (sym (repeated_run x y (drop (j + 1 + 1) xs) q le same))
    ∙ ap (λ t. state_in t q) (sym (round_two xs j x y lt ex ey))))

first_on : (a b : Bool) → (a && b) ≡ true → a ≡ true
first_on true b h = refl
first_on false b h = cc

rest_on : (a b : Bool) → (a && b) ≡ true → b ≡ true
rest_on true b h = h
rest_on false b h = cc

-- runs that end below a serial don't reach up to it
not_covered : (xs : List StateRun) (sid q : ℕ) → sid ≤ q → list_all (λ r. nat_lt r.last sid) xs ≡ true → covers xs q ≡ false
not_covered [] sid q le h = refl
not_covered (x ∷ xs) sid q le h =
    let first : nat_lt x.last sid ≡ true = first_on (nat_lt x.last sid) (list_all (λ r. nat_lt r.last sid) xs) h in
    let off : nat_le q x.last ≡ false = grind (arith, nat_tests) in
    ap (λ b. b || covers xs q) off ∙ not_covered xs sid q le (rest_on (nat_lt x.last sid) (list_all (λ r. nat_lt r.last sid) xs) h)

-- the first of the runs reaches up to a serial, if there is one: up to there they say one thing
same_up_to : (ys : List StateRun) (sid q : ℕ) → q ≤ sid → IfSome (slice_get ys 0) (λ r. nat_lt r.last sid ≡ false)
    → state_in ys q ≡ state_in ys sid
same_up_to [] sid q le h = refl
same_up_to (y ∷ ys) sid q le h =
    let far : nat_le sid y.last ≡ true = grind (arith, nat_tests) in
    let near : nat_le q y.last ≡ true = grind (arith, nat_tests) in
    ap (λ b. if b then y.state else state_in ys q) near ∙ ap (λ b. if b then y.state else state_in ys sid) (sym far)

abbrev pub with_run : ℕ → SupervisorState → List StateRun → List StateRun
with_run last state runs = record { last = last; state = state } ∷ runs

apart_below : (q sid : ℕ) → nat_lt q sid ≡ true → (q == sid) ≡ true → ⊥
apart_below q sid h k = grind (arith, nat_tests)

-- what the runs say, in two parts
parts : (xs : List StateRun) (place q : ℕ)
    → state_in xs q ≡ (if covers (take place xs) q then state_in (take place xs) q else state_in (drop place xs) q)
parts xs place q = ap (λ t. state_in t q) (sym (take-append-drop place xs)) ∙ state_in-append (take place xs) (drop place xs) q

-- what is said of a serial is said by the first run that reaches up to it
said_after : (xs : List StateRun) (place sid : ℕ) → list_all (λ r. nat_lt r.last sid) (take place xs) ≡ true
    → state_in xs sid ≡ state_in (drop place xs) sid
said_after xs place sid all =
    parts xs place sid
    ∙ ap (λ b. if b then state_in (take place xs) sid else state_in (drop place xs) sid)
    (not_covered (take place xs) sid sid (omega arith) all)

-- a run that is put, after one that keeps what was said of the serials below
pub put_found : (xs : List StateRun) (place sid q : ℕ) (state : SupervisorState) (lt eq : Bool)
    → list_all (λ r. nat_lt r.last sid) (take place xs) ≡ true
    → IfSome (slice_get (drop place xs) 0) (λ r. nat_lt r.last sid ≡ false) → 0 < sid → nat_lt q sid ≡ lt → (q == sid) ≡ eq
    → state_in (take place xs ++ with_run (sid - 1) (state_in xs sid) (with_run sid state (drop place xs))) q
    ≡ (if eq then state else state_in xs q)
put_found xs place sid q state true true all stop pos l e = absurd (apart_below q sid l e)
put_found xs place sid q state true false all stop pos l e =
    let D = drop place xs in
    let near : nat_le q (sid - 1) ≡ true = grind (arith, nat_tests) in
    let below : q ≤ sid = grind (arith, nat_tests) in
    state_in-behind (take place xs) (with_run (sid - 1) (state_in xs sid) (with_run sid state D)) D q
    (ap (λ b. if b then state_in xs sid else state_in (with_run sid state D) q) near
    ∙ (said_after xs place sid all ∙ sym (same_up_to D sid q below stop)))
    ∙ ap (λ t. state_in t q) (take-append-drop place xs)
put_found xs place sid q state false true all stop pos l e =
    let D = drop place xs in
    let far : nat_le q (sid - 1) ≡ false = grind (arith, nat_tests) in
    let here : nat_le q sid ≡ true = grind (arith, nat_tests) in
    let reach : sid ≤ q = grind (arith, nat_tests) in
    state_in-append (take place xs) (with_run (sid - 1) (state_in xs sid) (with_run sid state D)) q
    ∙ (ap (λ b. if b then state_in (take place xs) q else state_in (with_run (sid - 1) (state_in xs sid) (with_run sid state D)) q)
    (not_covered (take place xs) sid q reach all)
    ∙ (ap (λ b. if b then state_in xs sid else state_in (with_run sid state D) q) far ∙ ap (λ b. if b then state else state_in D q) here))
put_found xs place sid q state false false all stop pos l e =
    let D = drop place xs in
    let far : nat_le q (sid - 1) ≡ false = grind (arith, nat_tests) in
    let past : nat_le q sid ≡ false = grind (arith, nat_tests) in
    state_in-behind (take place xs) (with_run (sid - 1) (state_in xs sid) (with_run sid state D)) D q
    (ap (λ b. if b then state_in xs sid else state_in (with_run sid state D) q) far ∙ ap (λ b. if b then state else state_in D q) past)
    ∙ ap (λ t. state_in t q) (take-append-drop place xs)

-- below the serial 0 there is nothing to keep
pub put_first : (xs : List StateRun) (place sid q : ℕ) (state : SupervisorState) (eq : Bool)
    → list_all (λ r. nat_lt r.last sid) (take place xs) ≡ true → sid ≡ 0 → (q == sid) ≡ eq
    → state_in (take place xs ++ with_run sid state (drop place xs)) q ≡ (if eq then state else state_in xs q)
put_first xs place sid q state true all none e =
    let here : nat_le q sid ≡ true = grind (arith, nat_tests) in
    let reach : sid ≤ q = grind (arith, nat_tests) in
    state_in-append (take place xs) (with_run sid state (drop place xs)) q
    ∙ (ap (λ b. if b then state_in (take place xs) q else state_in (with_run sid state (drop place xs)) q)
    (not_covered (take place xs) sid q reach all) ∙ ap (λ b. if b then state else state_in (drop place xs) q) here)
put_first xs place sid q state false all none e =
    let past : nat_le q sid ≡ false = grind (arith, nat_tests) in
    state_in-behind (take place xs) (with_run sid state (drop place xs)) (drop place xs) q
    (ap (λ b. if b then state else state_in (drop place xs) q) past)
    ∙ ap (λ t. state_in t q) (take-append-drop place xs)

stop_there : (P : StateRun → Type 0) (xs : List StateRun) (n : ℕ) → IfSome (slice_get xs n) P → IfSome (slice_get (drop n xs) 0) P
stop_there P [] zero h = h
stop_there P [] (suc n) h = h
stop_there P (x ∷ xs) zero h = h
stop_there P (x ∷ xs) (suc n) h = stop_there P xs n h

by_zero : (xs one two : List StateRun) (place sid q : ℕ) (state : SupervisorState) (b : Bool) → nat_lt 0 sid ≡ b → place ≤ length xs
    → list_all (λ r. nat_lt r.last sid) (take place xs) ≡ true → IfSome (slice_get xs place) (λ r. nat_lt r.last sid ≡ false)
    → one ≡ take place xs ++ with_run sid state (drop place xs)
    → two ≡ (if b then take place one ++ with_run (sid - 1) (state_in xs sid) (drop place one) else one)
    → state_in two q ≡ (if q == sid then state else state_in xs q)
by_zero xs one two place sid q state true pos within all stop e f =
    let front : length (take place xs) ≡ place = length-take-le place xs within in
    let before : take place one ≡ take place xs = ap (take place) e ∙ take_at (take place xs) (with_run sid state (drop place xs)) place front in
    let behind : drop place one ≡ with_run sid state (drop place xs) =
    ap (drop place) e ∙ drop_at (take place xs) (with_run sid state (drop place xs)) place front in
    let positive : 0 < sid = grind (arith, nat_tests) in
    ap (λ t. state_in t q) (f ∙ (ap (λ t. t ++ with_run (sid - 1) (state_in xs sid) (drop place one)) before
    ∙ ap (λ t. take place xs ++ with_run (sid - 1) (state_in xs sid) t) behind))
    ∙ put_found xs place sid q state _ _ all (stop_there (λ r. nat_lt r.last sid ≡ false) xs place stop) positive refl refl
by_zero xs one two place sid q state false pos within all stop e f =
    let none : sid ≡ 0 = grind (arith, nat_tests) in
    ap (λ t. state_in t q) (f ∙ e) ∙ put_first xs place sid q state _ all none refl

-- a run that is put, after one for the serials below it, if there are any
pub put_is : (xs one two : List StateRun) (place sid q : ℕ) (state was : SupervisorState) → place ≤ length xs
    → list_all (λ r. nat_lt r.last sid) (take place xs) ≡ true → IfSome (slice_get xs place) (λ r. nat_lt r.last sid ≡ false)
    → was ≡ state_in xs sid → one ≡ take place xs ++ with_run sid state (drop place xs)
    → two ≡ (if nat_lt 0 sid then take place one ++ with_run (sid - 1) was (drop place one) else one)
    → state_in two q ≡ (if q == sid then state else state_in xs q)
put_is xs one two place sid q state was within all stop is e f =
    by_zero xs one two place sid q state _ refl within all stop e
    (f ∙ ap (λ s. if nat_lt 0 sid then take place one ++ with_run (sid - 1) s (drop place one) else one) is)

set_first : (sid last q : ℕ) (state was rest : SupervisorState) (lt eq : Bool) → last ≡ sid → (q < sid → ⊥) → nat_lt q sid ≡ lt → (q == sid) ≡ eq
    → (if nat_le q sid then state else rest) ≡ (if eq then state else (if nat_le q last then was else rest))
set_first sid last q state was rest lt true same none l e =
    let here : nat_le q sid ≡ true = grind (arith, nat_tests) in ap (λ b. if b then state else rest) here
set_first sid last q state was rest true false same none l e = absurd (none (grind (arith, nat_tests)))
set_first sid last q state was rest false false same none l e =
    let past : nat_le q sid ≡ false = grind (arith, nat_tests) in
    let beyond : nat_le q last ≡ false = grind (arith, nat_tests) in
    ap (λ b. if b then state else rest) past ∙ sym (ap (λ b. if b then was else rest) beyond)

set_later : (b eq : Bool) (x y z state : SupervisorState) → (b ≡ true → eq ≡ false) → (b ≡ false → y ≡ (if eq then state else z))
    → (if b then x else y) ≡ (if eq then state else (if b then x else z))
set_later true true x y z state off rest = let bad : true ≡ false = off refl in cc
set_later true false x y z state off rest = refl
set_later false eq x y z state off rest = rest refl

-- the run of one service alone says something else
pub set_one : (xs : List StateRun) (place sid q : ℕ) (state : SupervisorState) → place < length xs
    → list_all (λ r. nat_lt r.last sid) (take place xs) ≡ true → IfSome (slice_get xs place) (λ r. r.last ≡ sid)
    → (q < sid → covers (take place xs) q ≡ true)
    → state_in (slice_set xs place (record { last = sid; state = state })) q ≡ (if q == sid then state else state_in xs q)
set_one [] place sid q state within all is low = absurd (omega (arith, within))
set_one (x ∷ xs) zero sid q state within all is low =
    set_first sid x.last q state x.state (state_in xs q) _ _ is (λ lt. let bad : false ≡ true = low lt in cc) refl refl
set_one (x ∷ xs) (suc p) sid q state within all is low =
    let first : nat_lt x.last sid ≡ true = first_on (nat_lt x.last sid) (list_all (λ r. nat_lt r.last sid) (take p xs)) all in
    set_later (nat_le q x.last) (q == sid) x.state (state_in (slice_set xs p (record { last = sid; state = state })) q) (state_in xs q) state
    (λ near. grind (arith, nat_tests))
    (λ far. set_one xs p sid q state (omega (arith, within))
    (rest_on (nat_lt x.last sid) (list_all (λ r. nat_lt r.last sid) (take p xs)) all) is
    (λ lt. ap (λ b. b || covers (take p xs) q) (sym far) ∙ low lt))

grow_first : (sid last q : ℕ) (state was rest : SupervisorState) (le eq : Bool) → last + 1 ≡ sid → was ≡ state → nat_le q last ≡ le
    → (q == sid) ≡ eq
    → (if nat_le q sid then state else rest) ≡ (if eq then state else (if le then was else rest))
grow_first sid last q state was rest le true next same l e =
    let here : nat_le q sid ≡ true = grind (arith, nat_tests) in ap (λ b. if b then state else rest) here
grow_first sid last q state was rest true false next same l e =
    let here : nat_le q sid ≡ true = grind (arith, nat_tests) in ap (λ b. if b then state else rest) here ∙ sym same
grow_first sid last q state was rest false false next same l e =
    let past : nat_le q sid ≡ false = grind (arith, nat_tests) in ap (λ b. if b then state else rest) past

-- a run that ends just below a serial, and says of it what is to be said, reaches up to it
pub grow_one : (xs : List StateRun) (p sid q : ℕ) (state : SupervisorState) → p < length xs
    → list_all (λ r. nat_lt r.last sid) (take (p + 1) xs) ≡ true → IfSome (slice_get xs p) (λ r. (r.last + 1 ≡ sid) × (r.state ≡ state))
    → state_in (slice_set xs p (record { last = sid; state = state })) q ≡ (if q == sid then state else state_in xs q)
grow_one [] p sid q state within all is = absurd (omega (arith, within))
grow_one (x ∷ xs) zero sid q state within all is = grow_first sid x.last q state x.state (state_in xs q) _ _ is.0 is.1 refl refl
grow_one (x ∷ xs) (suc p) sid q state within all is =
    let next : suc p + 1 ≡ suc (p + 1) = omega arith in
    let front = ap (λ n. list_all (λ r. nat_lt r.last sid) (take n (x ∷ xs))) (sym next) ∙ all in
    let first : nat_lt x.last sid ≡ true = first_on (nat_lt x.last sid) (list_all (λ r. nat_lt r.last sid) (take (p + 1) xs)) front in
    set_later (nat_le q x.last) (q == sid) x.state (state_in (slice_set xs p (record { last = sid; state = state })) q) (state_in xs q) state
    (λ near. grind (arith, nat_tests))
    (λ far. grow_one xs p sid q state (omega (arith, within))
    (rest_on (nat_lt x.last sid) (list_all (λ r. nat_lt r.last sid) (take (p + 1) xs)) front) is)
