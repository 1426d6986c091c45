-- The one text of a directory: what a letter more, and less of its front, do to what is heard in it.
use Rattle.std.proofs.Common.{◌≡◌, ℕ, ◌+◌, ◌-◌, ◌≤◌, ◌<◌, List, [], ◌∷◌, ◌++◌, Bool, true, false, cond, length, drop, map, max, set, get_or}
use Rattle.std.proofs.Common.{None, nat_le, nat_lt, refl, sym, ap, ◌∙◌, ◌==◌, arith, length-append, option_map, subst, suc, zero}
use Rattle.std.specs.List.{filter_map, list_any}
use Rattle.std.proofs.Math.Nat.{le-max_left, le-max_right, lt_irrefl, max-zero}
use Rattle.std.proofs.lemmas.Bool.{false_from_ne_true, ltb-true, or_parts}
use Rattle.std.proofs.lemmas.List.{drop-append-le, drop_all, drop-drop, get_or-drop, length-drop}
use Rattle.event_directory.specs.SubscriberList.{Heard, hit_between, is_live, list_with_letter, text_limit}
use Rattle.event_directory.specs.Sending.{after_letter, hit_from, hits_from, kept_with_letter}
use Rattle.event_directory.specs.Stored.{Reading, Reader, StoredSubscription, greatest_offset, heard_in, hit_of_reader, kept_in, last_letters}
use Rattle.event_directory.specs.Stored.{live_offset, next_reader, next_reading, prepared_standing, stored_without}
use Rattle.event_directory.specs.declared.sub_view.State.{State}
use Rattle.event_directory.specs.declared.sub_view.State.TheVariants as state

last-more : (n : ℕ) (text : List ℕ) (x : ℕ) → n ≤ length text → last_letters (n + 1) (text ++ x ∷ []) ≡ last_letters n text ++ x ∷ []
last-more n text x le =
    let same : length (text ++ x ∷ []) - (n + 1) ≡ length text - n = omega (arith, length-append text (x ∷ [])) in
    ap (λ k. drop k (text ++ x ∷ [])) same ∙ drop-append-le (length text - n) text (x ∷ []) (omega arith)

pub last-length : (n : ℕ) (text : List ℕ) → n ≤ length text → length (last_letters n text) ≡ n
last-length n text le = length-drop (length text - n) text ∙ omega (arith, le)

last-none : (text : List ℕ) → last_letters 0 text ≡ []
last-none text = drop_all (length text - 0) text (omega arith)

again : (repeats : Bool) (letters text : List ℕ)
    → heard_in text (record { letters = letters; state = cond repeats state.Live state.Done; offset = 0 })
    ≡ record { letters = letters; state = cond repeats state.Live state.Done; text = [] }
again true letters text = ap (λ t. record { letters = letters; state = state.Live; text = t }) (last-none text)
again false letters text = refl

reading-cases : (find : List ℕ → Bool) (repeats : Bool) (x : ℕ) (text letters : List ℕ) (s : State) (n : ℕ) (b c : Bool)
    → live_offset (record { letters = letters; state = s; offset = n }) ≤ length text →
    nat_le text_limit n ≡ b → find (last_letters n text ++ x ∷ []) ≡ c →
    heard_in (text ++ x ∷ []) (next_reading find repeats x (text ++ x ∷ []) (record { letters = letters; state = s; offset = n }))
    ≡ list_with_letter find repeats x (heard_in text (record { letters = letters; state = s; offset = n }))
reading-cases find repeats x text letters state.Done n b c within eb ec = refl
reading-cases find repeats x text letters state.Overlong n b c within eb ec = refl
reading-cases find repeats x text letters state.Live n true c within eb ec = rw (last-length n text within, eb) refl
reading-cases find repeats x text letters state.Live n false true within eb ec =
    rw (last-length n text within, eb, last-more n text x within, ec) (again repeats (letters ++ x ∷ []) (text ++ x ∷ []))
reading-cases find repeats x text letters state.Live n false false within eb ec =
    rw (last-length n text within, eb, last-more n text x within, ec)
    (ap (λ t. record { letters = letters; state = state.Live; text = t }) (last-more n text x within))

-- growing the one text is one letter more for each subscription
reading-next : (find : List ℕ → Bool) (repeats : Bool) (x : ℕ) (text : List ℕ) (r : Reading) → live_offset r ≤ length text →
    heard_in (text ++ x ∷ []) (next_reading find repeats x (text ++ x ∷ []) r) ≡ list_with_letter find repeats x (heard_in text r)
reading-next find repeats x text r within = reading-cases find repeats x text r.letters r.state r.offset _ _ within refl refl

first_within : (r : Reader) (rs : List Reader) (n : ℕ) → greatest_offset (r ∷ rs) ≤ n → live_offset r.reading ≤ n
first_within r rs n le = omega (arith, le, le-max_left (live_offset r.reading) (greatest_offset rs))

others_within : (r : Reader) (rs : List Reader) (n : ℕ) → greatest_offset (r ∷ rs) ≤ n → greatest_offset rs ≤ n
others_within r rs n le = omega (arith, le, le-max_right (live_offset r.reading) (greatest_offset rs))

both_within : (a b n : ℕ) → a ≤ n → b ≤ n → max a b ≤ n
both_within a b n la lb = omega (arith, la, lb)

ltb_same : (n : ℕ) → nat_lt n n ≡ false
ltb_same n = false_from_ne_true (nat_lt n n) (λ e. lt_irrefl n (ltb-true n n e))

module _ (test : List ℕ → List ℕ → Bool) (x : ℕ) (text : List ℕ) where
  pub readers-next : (rs : List Reader) → greatest_offset rs ≤ length text →
      map (kept_in (text ++ x ∷ [])) (map (next_reader test x (text ++ x ∷ [])) rs) ≡ after_letter test x (map (kept_in text) rs)
  readers-next [] le = refl
  readers-next (r ∷ rs) le =
      ap (λ h. record { id = r.id; pattern = r.pattern; repeats = r.repeats; heard = h }
      ∷ map (kept_in (text ++ x ∷ [])) (map (next_reader test x (text ++ x ∷ [])) rs))
      (reading-next (test r.pattern) r.repeats x text r.reading (first_within r rs (length text) le))
      ∙ ap (λ l. kept_with_letter test x (kept_in text r) ∷ l) (readers-next rs (others_within r rs (length text) le))

  hit-next : (r : Reader) → live_offset r.reading ≤ length text → hit_of_reader test x (text ++ x ∷ []) r ≡ hit_from test x (kept_in text r)
  hit-next r le =
      ap (λ h. option_map (λ k. (r.id, k)) (hit_between x (heard_in text r.reading) h))
      (reading-next (test r.pattern) r.repeats x text r.reading le)

  pub hits-next : (rs : List Reader) → greatest_offset rs ≤ length text →
      filter_map (hit_of_reader test x (text ++ x ∷ [])) rs ≡ hits_from test x (map (kept_in text) rs)
  hits-next [] le = refl
  hits-next (r ∷ rs) le =
      rw (hit-next r (first_within r rs (length text) le), hits-next rs (others_within r rs (length text) le)) refl

  deaf : (s : StoredSubscription) → is_live s.prepared.state ≡ false →
      kept_with_letter test x (kept_in text (prepared_standing s)) ≡ kept_in text (prepared_standing s)
  deaf s e = rw e refl

  pub readers-deaf : (ss : List StoredSubscription) → list_any (λ s. is_live s.prepared.state) ss ≡ false →
      map (kept_in text) (map prepared_standing ss) ≡ after_letter test x (map (kept_in text) (map prepared_standing ss))
  readers-deaf [] e = refl
  readers-deaf (s ∷ ss) e =
      ap (λ k. k ∷ map (kept_in text) (map prepared_standing ss)) (sym (deaf s (or_parts (is_live s.prepared.state) _ e).0))
      ∙ ap (λ l. kept_with_letter test x (kept_in text (prepared_standing s)) ∷ l) (readers-deaf ss (or_parts (is_live s.prepared.state) _ e).1)

  no_hit : (h : Heard) → is_live h.state ≡ false → hit_between x h h ≡ None
  no_hit h e = rw (ltb_same (length h.letters), e) refl

  deaf_hit : (s : StoredSubscription) → is_live s.prepared.state ≡ false → hit_from test x (kept_in text (prepared_standing s)) ≡ None
  deaf_hit s e =
      ap (λ k. option_map (λ h. (s.standing.id, h)) (hit_between x (heard_in text s.prepared) k.heard)) (deaf s e)
      ∙ ap (option_map (λ h. (s.standing.id, h))) (no_hit (heard_in text s.prepared) e)

  pub hits-deaf : (ss : List StoredSubscription) → list_any (λ s. is_live s.prepared.state) ss ≡ false →
      [] ≡ hits_from test x (map (kept_in text) (map prepared_standing ss))
  hits-deaf [] e = refl
  hits-deaf (s ∷ ss) e =
      rw (deaf_hit s (or_parts (is_live s.prepared.state) _ e).0) (hits-deaf ss (or_parts (is_live s.prepared.state) _ e).1)

-- dropping what lies before each live offset changes nothing that is heard
heard-last : (m : ℕ) (text letters : List ℕ) (s : State) (n : ℕ) → live_offset (record { letters = letters; state = s; offset = n }) ≤ m
    → m ≤ length text →
    heard_in (last_letters m text) (record { letters = letters; state = s; offset = n })
    ≡ heard_in text (record { letters = letters; state = s; offset = n })
heard-last m text letters state.Done n le there = refl
heard-last m text letters state.Overlong n le there = refl
heard-last m text letters state.Live n le there =
    let back : length text - m + (length (last_letters m text) - n) ≡ length text - n = omega (arith, last-length m text there, le, there) in
    ap (λ t. record { letters = letters; state = state.Live; text = t })
    (drop-drop (length (last_letters m text) - n) (length text - m) text ∙ ap (λ k. drop k text) back)

pub readers-last : (m : ℕ) (text : List ℕ) (rs : List Reader) → greatest_offset rs ≤ m → m ≤ length text →
    map (kept_in (last_letters m text)) rs ≡ map (kept_in text) rs
readers-last m text [] le there = refl
readers-last m text (r ∷ rs) le there =
    ap (λ h. record { id = r.id; pattern = r.pattern; repeats = r.repeats; heard = h } ∷ map (kept_in (last_letters m text)) rs)
    (heard-last m text r.reading.letters r.reading.state r.reading.offset (first_within r rs m le) there)
    ∙ ap (λ l. kept_in text r ∷ l) (readers-last m text rs (others_within r rs m le) there)

pub greatest-joined : (rs : List Reader) (r : Reader) → live_offset r.reading ≡ 0 → greatest_offset (rs ++ r ∷ []) ≡ greatest_offset rs
greatest-joined [] r e = max-zero (live_offset r.reading) ∙ e
greatest-joined (q ∷ rs) r e = ap (max (live_offset q.reading)) (greatest-joined rs r e)

left_by : (f : StoredSubscription → Reader) (s : StoredSubscription) (ss rest : List StoredSubscription) (b : Bool)
    → greatest_offset (map f rest) ≤ greatest_offset (map f ss) →
    greatest_offset (map f (cond b ss (s ∷ rest))) ≤ greatest_offset (map f (s ∷ ss))
left_by f s ss rest true le = le-max_right (live_offset (f s).reading) (greatest_offset (map f ss))
left_by f s ss rest false le = both_within _ _ _ (le-max_left (live_offset (f s).reading) (greatest_offset (map f ss)))
    (omega (arith, le, le-max_right (live_offset (f s).reading) (greatest_offset (map f ss))))

pub greatest-left : (f : StoredSubscription → Reader) (id : ℕ) (ss : List StoredSubscription) →
    greatest_offset (map f (stored_without id ss)) ≤ greatest_offset (map f ss)
greatest-left f id [] = omega arith
greatest-left f id (s ∷ ss) = left_by f s ss (stored_without id ss) (s.standing.id == id) (greatest-left f id ss)

pub greatest-set : (f : StoredSubscription → Reader) (xs : List StoredSubscription) (i : ℕ) (y : StoredSubscription) (n : ℕ)
    → greatest_offset (map f xs) ≤ n → live_offset (f y).reading ≤ n → greatest_offset (map f (set xs i y)) ≤ n
greatest-set f [] i y n le one = le
greatest-set f (x ∷ xs) zero y n le one = both_within _ _ _ one (others_within (f x) (map f xs) n le)
greatest-set f (x ∷ xs) (suc i) y n le one =
    both_within _ _ _ (first_within (f x) (map f xs) n le) (greatest-set f xs i y n (others_within (f x) (map f xs) n le) one)

pub offset-at : (f : StoredSubscription → Reader) (xs : List StoredSubscription) (i : ℕ) (d : StoredSubscription) (n : ℕ)
    → i < length xs → greatest_offset (map f xs) ≤ n → live_offset (f (get_or xs i d)).reading ≤ n
offset-at f [] i d n lt le = absurd (omega (arith, lt))
offset-at f (x ∷ xs) zero d n lt le = first_within (f x) (map f xs) n le
offset-at f (x ∷ xs) (suc i) d n lt le = offset-at f xs i d n (omega (arith, lt)) (others_within (f x) (map f xs) n le)

-- the same, where the first i have changed
pub offset-next : (f : StoredSubscription → Reader) (xs ys : List StoredSubscription) (i : ℕ) (d : StoredSubscription) (n : ℕ)
    → i < length xs → drop i xs ≡ drop i ys → greatest_offset (map f ys) ≤ n → live_offset (f (get_or xs i d)).reading ≤ n
offset-next f xs ys i d n lt rest le =
    let longer : i < length ys = omega (arith, lt, sym (length-drop i xs) ∙ ap length rest ∙ length-drop i ys) in
    let there : i ≡ i + 0 = omega arith in
    let same : get_or xs i d ≡ get_or ys i d = ap (λ k. get_or xs k d) there ∙ sym (get_or-drop i xs 0 d) ∙ ap (λ zs. get_or zs 0 d) rest
    ∙ get_or-drop i ys 0 d ∙ ap (λ k. get_or ys k d) (sym there) in
    subst (λ s. live_offset (f s).reading ≤ n) (sym same) (offset-at f ys i d n longer le)

pub offset-below : (f : StoredSubscription → Reader) (xs ys : List StoredSubscription) (i : ℕ) (d : StoredSubscription) (n : ℕ)
    → i < length xs → drop i xs ≡ drop i ys → greatest_offset (map f ys) < n → live_offset (f (get_or xs i d)).reading < n
offset-below f xs ys i d n lt rest le = omega (arith, offset-next f xs ys i d (greatest_offset (map f ys)) lt rest (omega arith), le)
