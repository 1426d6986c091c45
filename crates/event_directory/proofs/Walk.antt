-- One step of a loop that goes over all subscriptions and changes each.
use Rattle.std.proofs.Common.{◌≡◌, ℕ, ◌+◌, ◌<◌, List, [], ◌∷◌, ◌++◌, Bool, length, take, drop, map, set, get_or, refl, sym, ap, ◌∙◌, arith, Option}
use Rattle.std.proofs.Common.{Some, None}
use Rattle.std.proofs.lemmas.List.{take_more, take_more_set, map-append, map-set, set-get_or, get_or-map, get_or-drop, drop-set-lt, drop-drop}
use Rattle.std.proofs.lemmas.List.{length-drop, append-nil}
use Rattle.std.proofs.lemmas.List.Elements.{filter_map-append}
use Rattle.std.specs.List.{filter_map}
use Rattle.event_directory.specs.SubscriberList.{hit_between}
use Rattle.event_directory.specs.Stored.{StoredSubscription, heard_in, hit_of_reader, next_reader, next_reading}
use Rattle.event_directory.specs.Stored.{planned_standing, prepared_standing, standing_of_stored}
use Rattle.event_directory.specs.declared.hit.Hit.{Hit}

-- the part of each element that does not change
pub walk_same : {X Y : Type 0} (f : X → Y) (xs ys : List X) (i : ℕ) (y d : X) → i < length xs → map f xs ≡ map f ys → f y ≡ f (get_or xs i d) →
    map f (set xs i y) ≡ map f ys
walk_same f xs ys i y d lt same e =
    let here : f (get_or xs i d) ≡ get_or (map f xs) i (f d) = sym (get_or-map f xs i d (f d) lt) in
    map-set f xs i y ∙ ap (set (map f xs) i) (e ∙ here) ∙ set-get_or (map f xs) i (f d) ∙ same

-- what is still to come is as it was
pub walk_rest : {X : Type 0} (xs ys : List X) (i : ℕ) (y : X) → drop i xs ≡ drop i ys → drop (i + 1) (set xs i y) ≡ drop (i + 1) ys
walk_rest xs ys i y rest = drop-set-lt (i + 1) xs i y (omega arith) ∙ sym (drop-drop 1 i xs) ∙ ap (drop 1) rest ∙ drop-drop 1 i ys

pub walk_now : {X : Type 0} (xs ys : List X) (i : ℕ) (d : X) → i < length xs → drop i xs ≡ drop i ys →
    take (i + 1) ys ≡ take i ys ++ get_or xs i d ∷ []
walk_now xs ys i d lt rest =
    let longer : i < length ys = omega (arith, sym (length-drop i xs) ∙ ap length rest ∙ length-drop i ys) in
    let there : i ≡ i + 0 = omega arith in
    let same : get_or ys i d ≡ get_or xs i d = ap (λ n. get_or ys n d) there ∙ sym (get_or-drop i ys 0 d) ∙ ap (λ zs. get_or zs 0 d) (sym rest)
    ∙ get_or-drop i xs 0 d ∙ ap (λ n. get_or xs n d) (sym there) in
    take_more ys i d longer ∙ ap (λ x. take i ys ++ x ∷ []) same

pub walk_done : {X Y : Type 0} (f g : X → Y) (xs ys : List X) (i : ℕ) (y d : X) → i < length xs → drop i xs ≡ drop i ys →
    map f (take i xs) ≡ map g (take i ys) → f y ≡ g (get_or xs i d) → map f (take (i + 1) (set xs i y)) ≡ map g (take (i + 1) ys)
walk_done f g xs ys i y d lt rest done e =
    ap (map f) (take_more_set xs i y lt) ∙ map-append f (take i xs) (y ∷ []) ∙ ap (λ l. l ++ f y ∷ []) done
    ∙ ap (λ z. map g (take i ys) ++ z ∷ []) e
    ∙ sym (map-append g (take i ys) (get_or xs i d ∷ [])) ∙ ap (map g) (sym (walk_now xs ys i d lt rest))

planned_same : (y item : StoredSubscription) → y.standing ≡ item.standing → y.planned ≡ item.planned → planned_standing y ≡ planned_standing item
planned_same y item e p = rw (e, p) refl

-- what is planned does not change
pub walk_planned : (xs ys : List StoredSubscription) (i : ℕ) (y d : StoredSubscription) → i < length xs
    → map planned_standing xs ≡ map planned_standing ys →
    y.standing ≡ (get_or xs i d).standing → y.planned ≡ (get_or xs i d).planned → map planned_standing (set xs i y) ≡ map planned_standing ys
walk_planned xs ys i y d lt same e p = walk_same planned_standing xs ys i y d lt same (planned_same y (get_or xs i d) e p)

map_twice : {X Y Z : Type 0} (f : X → Y) (g : Y → Z) (xs : List X) → map g (map f xs) ≡ map (λ x. g (f x)) xs
map_twice f g [] = refl
map_twice f g (x ∷ xs) = ap (λ l. g (f x) ∷ l) (map_twice f g xs)

one_next : (test : List ℕ → List ℕ → Bool) (x : ℕ) (text : List ℕ) (y item : StoredSubscription) → y.standing ≡ item.standing
    → y.prepared ≡ next_reading (test item.standing.pattern) item.standing.repeats x text item.prepared →
    prepared_standing y ≡ next_reader test x text (prepared_standing item)
one_next test x text y item e p = rw (e, p) refl

pub walk_next : (test : List ℕ → List ℕ → Bool) (x : ℕ) (text : List ℕ) (xs ys : List StoredSubscription) (i : ℕ) (y d : StoredSubscription)
    → i < length xs → drop i xs ≡ drop i ys →
    map prepared_standing (take i xs) ≡ map (next_reader test x text) (map prepared_standing (take i ys)) →
    y.standing ≡ (get_or xs i d).standing → y.prepared
    ≡ next_reading (test (get_or xs i d).standing.pattern) (get_or xs i d).standing.repeats x text (get_or xs i d).prepared →
    map prepared_standing (take (i + 1) (set xs i y)) ≡ map (next_reader test x text) (map prepared_standing (take (i + 1) ys))
walk_next test x text xs ys i y d lt rest done e p =
    walk_done prepared_standing (λ s. next_reader test x text (prepared_standing s)) xs ys i y d lt rest
    (done ∙ map_twice prepared_standing (next_reader test x text) (take i ys))
    (one_next test x text y (get_or xs i d) e p)
    ∙ sym (map_twice prepared_standing (next_reader test x text) (take (i + 1) ys))

module _ (test : List ℕ → List ℕ → Bool) (x : ℕ) (text : List ℕ) where
  -- what the letter x, the last of the text, gives to these
  abbrev given : List StoredSubscription → List (ℕ × Hit)
  given ys = filter_map (hit_of_reader test x text) (map prepared_standing ys)

  -- what it gives to one
  abbrev one_given : StoredSubscription → Option Hit
  one_given item = hit_between x (heard_in [] item.prepared)
      (heard_in [] (next_reading (test item.standing.pattern) item.standing.repeats x text item.prepared))

  hits-one : (ys : List StoredSubscription) (i : ℕ) (item : StoredSubscription) → take (i + 1) ys ≡ take i ys ++ item ∷ [] →
      given (take (i + 1) ys) ≡ given (take i ys) ++ given (item ∷ [])
  hits-one ys i item e =
      ap given e ∙ ap (filter_map (hit_of_reader test x text)) (map-append prepared_standing (take i ys) (item ∷ []))
      ∙ filter_map-append (hit_of_reader test x text) (map prepared_standing (take i ys)) (prepared_standing item ∷ [])

  hit-some : (item : StoredSubscription) (h : Hit) → one_given item ≡ Some h → given (item ∷ []) ≡ (item.standing.id, h) ∷ []
  hit-some item h e = rw e refl

  hit-none : (item : StoredSubscription) → one_given item ≡ None → given (item ∷ []) ≡ []
  hit-none item e = rw e refl

  pub walk_hit : (xs ys : List StoredSubscription) (i : ℕ) (d : StoredSubscription)
      (hits more : List (ℕ × Hit)) (id : ℕ) (o : Option Hit) (h : Hit) → i < length xs → drop i xs ≡ drop i ys →
      hits ≡ given (take i ys) → o ≡ one_given (get_or xs i d) → o ≡ Some h →
      id ≡ (get_or xs i d).standing.id → more ≡ hits ++ (id, h) ∷ [] →
      more ≡ given (take (i + 1) ys)
  walk_hit xs ys i d hits more id o h lt rest done e p same m =
      m ∙ ap (λ l. l ++ (id, h) ∷ []) done ∙ ap (λ n. given (take i ys) ++ (n, h) ∷ []) same
      ∙ ap (λ l. given (take i ys) ++ l) (sym (hit-some (get_or xs i d) h (sym e ∙ p)))
      ∙ sym (hits-one ys i (get_or xs i d) (walk_now xs ys i d lt rest))

  pub walk_no_hit : (xs ys : List StoredSubscription) (i : ℕ) (d : StoredSubscription) (hits : List (ℕ × Hit))
      (o : Option Hit) → i < length xs → drop i xs ≡ drop i ys →
      hits ≡ given (take i ys) → o ≡ one_given (get_or xs i d) → o ≡ None →
      hits ≡ given (take (i + 1) ys)
  walk_no_hit xs ys i d hits o lt rest done e p =
      done ∙ sym (append-nil _) ∙ ap (λ l. given (take i ys) ++ l) (sym (hit-none (get_or xs i d) (sym e ∙ p)))
      ∙ sym (hits-one ys i (get_or xs i d) (walk_now xs ys i d lt rest))

prepared_is : (y item : StoredSubscription) → y.standing ≡ item.standing → y.prepared ≡ item.standing.reading
    → prepared_standing y ≡ standing_of_stored item
prepared_is y item e p = rw (e, p) refl

pub walk_begin : (xs ys : List StoredSubscription) (i : ℕ) (y d : StoredSubscription) → i < length xs → drop i xs ≡ drop i ys
    → map prepared_standing (take i xs) ≡ map standing_of_stored (take i ys) →
    y.standing ≡ (get_or xs i d).standing → y.prepared ≡ (get_or xs i d).standing.reading →
    map prepared_standing (take (i + 1) (set xs i y)) ≡ map standing_of_stored (take (i + 1) ys)
walk_begin xs ys i y d lt rest done e p = walk_done prepared_standing standing_of_stored xs ys i y d lt rest done
    (prepared_is y (get_or xs i d) e p)

now_prepared : (y item : StoredSubscription) → y.standing ≡ item.standing → y.prepared ≡ item.planned → prepared_standing y ≡ planned_standing item
now_prepared y item e p = rw (e, p) refl

now_planned : (y item : StoredSubscription) → y.standing ≡ item.standing → y.planned ≡ item.prepared → planned_standing y ≡ prepared_standing item
now_planned y item e p = rw (e, p) refl

-- what was planned is prepared, and what was prepared is planned
pub walk_prepared_now : (xs ys : List StoredSubscription) (i : ℕ) (y d : StoredSubscription) → i < length xs → drop i xs ≡ drop i ys →
    map prepared_standing (take i xs) ≡ map planned_standing (take i ys) → y.standing ≡ (get_or xs i d).standing
    → y.prepared ≡ (get_or xs i d).planned →
    map prepared_standing (take (i + 1) (set xs i y)) ≡ map planned_standing (take (i + 1) ys)
walk_prepared_now xs ys i y d lt rest done e p =
    walk_done prepared_standing planned_standing xs ys i y d lt rest done (now_prepared y (get_or xs i d) e p)

pub walk_planned_now : (xs ys : List StoredSubscription) (i : ℕ) (y d : StoredSubscription) → i < length xs → drop i xs ≡ drop i ys →
    map planned_standing (take i xs) ≡ map prepared_standing (take i ys) → y.standing ≡ (get_or xs i d).standing
    → y.planned ≡ (get_or xs i d).prepared →
    map planned_standing (take (i + 1) (set xs i y)) ≡ map prepared_standing (take (i + 1) ys)
walk_planned_now xs ys i y d lt rest done e p =
    walk_done planned_standing prepared_standing xs ys i y d lt rest done (now_planned y (get_or xs i d) e p)

heard_same : (y item : StoredSubscription) → y.standing ≡ prepared_standing item → y.prepared ≡ item.prepared
    → prepared_standing y ≡ prepared_standing item
heard_same y item e p = rw (e, p) refl

-- what was prepared is heard, and is prepared still
pub walk_heard : (xs ys : List StoredSubscription) (i : ℕ) (y d : StoredSubscription) → i < length xs
    → map prepared_standing xs ≡ map prepared_standing ys → y.standing ≡ prepared_standing (get_or xs i d)
    → y.prepared ≡ (get_or xs i d).prepared → map prepared_standing (set xs i y) ≡ map prepared_standing ys
walk_heard xs ys i y d lt same e p = walk_same prepared_standing xs ys i y d lt same (heard_same y (get_or xs i d) e p)
