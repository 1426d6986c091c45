-- The one text is so again after what a directory does.
use Rattle.std.proofs.Common.{◌≡◌, ℕ, ◌+◌, ◌-◌, ◌≤◌, List, [], ◌∷◌, ◌++◌, Bool, true, false, length, drop, take, map, refl, sym, ap, ◌∙◌, arith}
use Rattle.std.proofs.Common.{length-append}
use Rattle.std.proofs.lemmas.Bool.{false≢true}
use Rattle.std.proofs.lemmas.List.{append-nil, drop_all, length-drop, length-map, length-take-le, map-append}
use Rattle.std.proofs.lemmas.List.{take-append-drop, take-append-le, take_all}
use Rattle.event_directory.specs.Stored.{Reader, StoredSubscription, IsOneText, all_prepared, all_standing, greatest_offset, kept_in, last_letters}
use Rattle.event_directory.specs.Stored.{live_offset, new_reader, new_reading, planned_of, planned_standing, prepared_standing, standing_of_stored, stored_without}
use Rattle.std.specs.List.{filter_map}
use Rattle.event_directory.specs.Sending.{after_letter, hits_from, new_kept_subscription}
use Rattle.event_directory.specs.Stored.{hit_of_reader, next_reader}
use Rattle.event_directory.specs.declared.hit.Hit.{Hit}
use Rattle.event_directory.specs.declared.sub_view.State.TheVariants as state
use Rattle.event_directory.proofs.OneText.{greatest-joined, greatest-left, hits-next, last-length, readers-last, readers-next}

-- a slice that is written back whole
slice_back_by : (f g : StoredSubscription → Reader) (new old slice : List StoredSubscription) (n : ℕ) → slice ≡ old → length slice ≡ n →
    map f new ≡ map g slice → take n (new ++ drop (length new) old) ≡ new
slice_back_by f g new old slice n is len same =
    let long : length new ≡ n = sym (length-map new f) ∙ ap length same ∙ length-map slice g ∙ len in
    let short : length old ≤ length new = omega (arith, long, len, ap length is) in
    ap (λ xs. take n (new ++ xs)) (drop_all (length new) old short) ∙ ap (take n) (append-nil new) ∙ take_all n new (omega (arith, long))

pub slice_back : (new old slice : List StoredSubscription) (n : ℕ) → slice ≡ old → length slice ≡ n →
    map standing_of_stored new ≡ map standing_of_stored slice → take n (new ++ drop (length new) old) ≡ new
slice_back new old slice n is len same = slice_back_by standing_of_stored standing_of_stored new old slice n is len same

pub slice_back_prepared : (new old slice : List StoredSubscription) (n : ℕ) → slice ≡ old → length slice ≡ n →
    map prepared_standing new ≡ map prepared_standing slice → take n (new ++ drop (length new) old) ≡ new
slice_back_prepared new old slice n is len same = slice_back_by prepared_standing prepared_standing new old slice n is len same

pub slice_back_planned : (new old slice : List StoredSubscription) (n : ℕ) → slice ≡ old → length slice ≡ n →
    map standing_of_stored new ≡ map planned_standing slice → take n (new ++ drop (length new) old) ≡ new
slice_back_planned new old slice n is len same = slice_back_by standing_of_stored planned_standing new old slice n is len same

pub take_again : (n : ℕ) (text : List ℕ) → n ≤ length text → take n (take n text) ≡ take n text
take_again n text le = take_all n (take n text) (omega (arith, length-take-le n text le))

pub same_planned : (b : Bool) (text old_text letters : List ℕ) (new old : List StoredSubscription) → text ≡ old_text
    → map standing_of_stored new ≡ map standing_of_stored old → map planned_standing new ≡ map planned_standing old →
    planned_of b text letters new ≡ planned_of b old_text letters old
same_planned true text old_text letters new old et es ep = ap (λ t. map (kept_in (t ++ letters)) (map planned_standing new)) et
    ∙ ap (map (kept_in (old_text ++ letters))) ep
same_planned false text old_text letters new old et es ep = ap (λ t. map (kept_in t) (map standing_of_stored new)) et ∙ ap (map (kept_in old_text)) es

-- nothing is prepared
pub begun : (text : List ℕ) (heard : ℕ) (b : Bool) (letters : List ℕ) (capacity : ℕ) (new old : List StoredSubscription)
    → IsOneText text heard b letters capacity old → map standing_of_stored new ≡ map standing_of_stored old
    → map planned_standing new ≡ map planned_standing old → map prepared_standing new ≡ map standing_of_stored old →
    IsOneText (take heard text) heard b letters capacity new
begun text heard b letters capacity new old k es ep eb = record {
  there = omega (arith, length-take-le heard text k.there);
  standing = omega (arith, ap greatest_offset es, k.standing);
  least = λ e. k.least e ∙ ap greatest_offset (sym es);
  prepared = omega (arith, ap greatest_offset eb, k.standing, length-take-le heard text k.there);
  planned = λ e. omega (arith, ap greatest_offset ep, k.planned e);
  room = k.room;
}

-- letters that are being prepared
pub grown : (text more : List ℕ) (heard : ℕ) (b : Bool) (letters : List ℕ) (capacity wider : ℕ) (new old : List StoredSubscription)
    → IsOneText text heard b letters capacity old → capacity ≤ wider → map standing_of_stored new ≡ map standing_of_stored old
    → map planned_standing new ≡ map planned_standing old → greatest_offset (map prepared_standing new) ≤ length (text ++ more) →
    IsOneText (text ++ more) heard b letters wider new
grown text more heard b letters capacity wider new old k wide es ep within = record {
  there = omega (arith, k.there, length-append text more);
  standing = omega (arith, ap greatest_offset es, k.standing);
  least = λ e. k.least e ∙ ap greatest_offset (sym es);
  prepared = within;
  planned = λ e. omega (arith, ap greatest_offset ep, k.planned e);
  room = λ e. omega (arith, k.room e, wide);
}

-- all is heard, and what nobody looks at is dropped
pub forgotten : (text : List ℕ) (letters : List ℕ) (capacity : ℕ) (new : List StoredSubscription)
    → greatest_offset (map standing_of_stored new) ≤ length text → map prepared_standing new ≡ map standing_of_stored new →
    (left : ℕ) → left ≡ greatest_offset (map standing_of_stored new) →
    IsOneText (last_letters left text) left false letters capacity new
forgotten text letters capacity new within same left is = record {
  there = omega (arith, last-length left text (omega (arith, is, within)));
  standing = omega (arith, is);
  least = λ e. is;
  prepared = omega (arith, is, ap greatest_offset same, last-length left text (omega (arith, is, within)));
  planned = λ e. absurd (false≢true e);
  room = λ e. absurd (false≢true e);
}

-- what is heard then
pub forgotten_standing : (text : List ℕ) (rs : List Reader) → greatest_offset rs ≤ length text → (left : ℕ) → left ≡ greatest_offset rs →
    map (kept_in (take left (last_letters left text))) rs ≡ map (kept_in text) rs
forgotten_standing text rs within left is =
    ap (λ t. map (kept_in t) rs) (take_all left (last_letters left text)
    (omega (arith, is, within, last-length left text (omega (arith, is, within)))))
    ∙ readers-last left text rs (omega (arith, is)) (omega (arith, is, within))

-- one more, which has heard nothing
pub joined : (text : List ℕ) (heard : ℕ) (b : Bool) (letters : List ℕ) (capacity : ℕ) (old : List StoredSubscription) (s : StoredSubscription)
    → IsOneText text heard b letters capacity old → live_offset s.standing.reading ≡ 0 → live_offset s.prepared ≡ 0 → live_offset s.planned ≡ 0 →
    IsOneText text heard b letters capacity (old ++ s ∷ [])
joined text heard b letters capacity old s k es eb ep = record {
  there = k.there;
  standing = omega (arith, standing_same, k.standing);
  least = λ e. k.least e ∙ sym standing_same;
  prepared = omega (
    arith,
    ap greatest_offset (map-append prepared_standing old (s ∷ []))
        ∙ greatest-joined (map prepared_standing old) (prepared_standing s) eb,
    k.prepared,
  );
  planned = λ e. omega (
    arith,
    ap greatest_offset (map-append planned_standing old (s ∷ []))
        ∙ greatest-joined (map planned_standing old) (planned_standing s) ep,
    k.planned e,
  );
  room = k.room;
}
  where
    standing_same : greatest_offset (map standing_of_stored (old ++ s ∷ [])) ≡ greatest_offset (map standing_of_stored old)
    standing_same = ap greatest_offset (map-append standing_of_stored old (s ∷ []))
        ∙ greatest-joined (map standing_of_stored old) (standing_of_stored s) es

nothing_heard : (text : List ℕ) → last_letters 0 text ≡ []
nothing_heard text = drop_all (length text - 0) text (omega arith)

-- one less, while a plan stands
pub left_planned : (text : List ℕ) (heard : ℕ) (b : Bool) (letters : List ℕ) (capacity : ℕ) (old : List StoredSubscription) (id : ℕ)
    → IsOneText text heard b letters capacity old → b ≡ true → IsOneText text heard b letters capacity (stored_without id old)
left_planned text heard b letters capacity old id k is = record {
  there = k.there;
  standing = omega (arith, greatest-left standing_of_stored id old, k.standing);
  least = λ e. absurd (false≢true (sym e ∙ is));
  prepared = omega (arith, greatest-left prepared_standing id old, k.prepared);
  planned = λ e. omega (arith, greatest-left planned_standing id old, k.planned e);
  room = k.room;
}

new_kept : (text : List ℕ) (id : ℕ) (pattern : List ℕ) (repeats : Bool)
    → kept_in text (new_reader id pattern repeats) ≡ new_kept_subscription id pattern repeats
new_kept text id pattern repeats =
    ap (λ t. record { id = id; pattern = pattern; repeats = repeats; heard = record { letters = []; state = state.Live; text = t } })
    (nothing_heard text)

module _ (id : ℕ) (pattern : List ℕ) (repeats : Bool) where
  joined_by : (f : StoredSubscription → Reader) (text : List ℕ) (old : List StoredSubscription) (s : StoredSubscription)
      → f s ≡ new_reader id pattern repeats →
      map (kept_in text) (map f (old ++ s ∷ [])) ≡ map (kept_in text) (map f old) ++ new_kept_subscription id pattern repeats ∷ []
  joined_by f text old s e =
      ap (map (kept_in text)) (map-append f old (s ∷ [])) ∙ map-append (kept_in text) (map f old) (f s ∷ [])
      ∙ ap (λ r. map (kept_in text) (map f old) ++ kept_in text r ∷ []) e
      ∙ ap (λ k. map (kept_in text) (map f old) ++ k ∷ []) (new_kept text id pattern repeats)

  pub joined_standing : (text : List ℕ) (old : List StoredSubscription) (s : StoredSubscription) → s.standing ≡ new_reader id pattern repeats →
      all_standing text (old ++ s ∷ []) ≡ all_standing text old ++ new_kept_subscription id pattern repeats ∷ []
  joined_standing text old s e = joined_by standing_of_stored text old s e

  planned_new : (s : StoredSubscription) → s.standing ≡ new_reader id pattern repeats → s.planned ≡ new_reading
      → planned_standing s ≡ new_reader id pattern repeats
  planned_new s e p = rw (e, p) refl

  pub joined_planned : (b : Bool) (text letters : List ℕ) (old : List StoredSubscription) (s : StoredSubscription)
      → s.standing ≡ new_reader id pattern repeats
      → s.planned ≡ new_reading →
      planned_of b text letters (old ++ s ∷ []) ≡ planned_of b text letters old ++ new_kept_subscription id pattern repeats ∷ []
  joined_planned true text letters old s e p = joined_by planned_standing (text ++ letters) old s (planned_new s e p)
  joined_planned false text letters old s e p = joined_standing text old s e

-- one less, where no plan stands
pub left_within : (text : List ℕ) (heard : ℕ) (b : Bool) (letters : List ℕ) (capacity : ℕ) (new old : List StoredSubscription) (id : ℕ)
    → IsOneText text heard b letters capacity old → map standing_of_stored new ≡ map standing_of_stored (stored_without id old) →
    greatest_offset (map standing_of_stored new) ≤ length (take heard text)
left_within text heard b letters capacity new old id k e =
    omega (arith, ap greatest_offset e, greatest-left standing_of_stored id old, k.standing, length-take-le heard text k.there)

-- what is prepared, what is heard of it
pub prepared_within : (new old : List StoredSubscription) (n : ℕ) → map standing_of_stored new ≡ map prepared_standing old
    → greatest_offset (map prepared_standing old) ≤ n → greatest_offset (map standing_of_stored new) ≤ n
prepared_within new old n e le = omega (arith, ap greatest_offset e, le)

-- a plan is made
pub planned_now : (text : List ℕ) (heard : ℕ) (b : Bool) (before letters : List ℕ) (capacity wide : ℕ) (new old : List StoredSubscription)
    → IsOneText text heard b before capacity old → letters ≡ drop heard text → length text ≤ wide →
    map standing_of_stored new ≡ map standing_of_stored old → map planned_standing new ≡ map prepared_standing old
    → map prepared_standing new ≡ map standing_of_stored old → IsOneText (take heard text) heard true letters wide new
planned_now text heard b before letters capacity wide new old k el fits es ep eb =
    let long : heard + length letters ≡ length text = omega (arith, ap length el ∙ length-drop heard text, k.there) in
    record {
      there = omega (arith, length-take-le heard text k.there);
      standing = omega (arith, ap greatest_offset es, k.standing);
      least = λ e. absurd (false≢true (sym e));
      prepared = omega (arith, ap greatest_offset eb, k.standing, length-take-le heard text k.there);
      planned = λ e. omega (arith, ap greatest_offset ep, k.prepared, long);
      room = λ e. omega (arith, long, fits);
    }

pub planned_text : (text : List ℕ) (heard : ℕ) (letters : List ℕ) (new old : List StoredSubscription) → heard ≤ length text
    → letters ≡ drop heard text
    → map planned_standing new ≡ map prepared_standing old →
    planned_of true (take heard (take heard text)) letters new ≡ all_prepared text old
planned_text text heard letters new old there el ep =
    ap (λ t. map (kept_in (t ++ letters)) (map planned_standing new)) (take_again heard text there)
    ∙ ap (λ l. map (kept_in (take heard text ++ l)) (map planned_standing new)) el
    ∙ ap (λ t. map (kept_in t) (map planned_standing new)) (take-append-drop heard text) ∙ ap (map (kept_in text)) ep

-- the plan is heard
pub plan_within : (text : List ℕ) (heard : ℕ) (b : Bool) (letters : List ℕ) (capacity : ℕ) (new old : List StoredSubscription)
    → IsOneText text heard b letters capacity old → b ≡ true → map standing_of_stored new ≡ map planned_standing old →
    greatest_offset (map standing_of_stored new) ≤ length (take heard text ++ letters)
plan_within text heard b letters capacity new old k is e =
    omega (arith, ap greatest_offset e, k.planned is, length-append (take heard text) letters, length-take-le heard text k.there)

-- a letter that nobody kept: more room, the same text
pub wider : (text : List ℕ) (heard : ℕ) (b : Bool) (letters : List ℕ) (capacity wide : ℕ) (old : List StoredSubscription)
    → IsOneText text heard b letters capacity old → capacity ≤ wide → IsOneText text heard b letters wide old
wider text heard b letters capacity wide old k le = record {
  there = k.there;
  standing = k.standing;
  least = k.least;
  prepared = k.prepared;
  planned = k.planned;
  room = λ e. omega (arith, k.room e, le);
}

pub heard_still : (heard : ℕ) (text more : List ℕ) → heard ≤ length text → take heard (text ++ more) ≡ take heard text
heard_still heard text more le = take-append-le heard text more le

-- the next letter, as the subscriptions hear it and as a slice of them did
module _ (test : List ℕ → List ℕ → Bool) (x : ℕ) (text more slice_text : List ℕ) (old slice : List StoredSubscription) (em : more ≡ text ++ x ∷ [])
    (et : slice_text ≡ more) (es : slice ≡ old) (within : greatest_offset (map prepared_standing old) ≤ length text) where
  pub prepared_next : (new : List StoredSubscription)
      → map prepared_standing new ≡ map (next_reader test x slice_text) (map prepared_standing slice) →
      all_prepared more new ≡ after_letter test x (all_prepared text old)
  prepared_next new e =
      ap (λ t. map (kept_in t) (map prepared_standing new)) em
      ∙ ap (map (kept_in (text ++ x ∷ []))) (e ∙ ap (λ t. map (next_reader test x t) (map prepared_standing slice)) (et ∙ em)
      ∙ ap (λ l. map (next_reader test x (text ++ x ∷ [])) (map prepared_standing l)) es)
      ∙ readers-next test x text (map prepared_standing old) within

  pub given_next : (hits : List (ℕ × Hit)) → hits ≡ filter_map (hit_of_reader test x slice_text) (map prepared_standing slice) →
      hits ≡ hits_from test x (all_prepared text old)
  given_next hits e =
      e ∙ ap (λ t. filter_map (hit_of_reader test x t) (map prepared_standing slice)) (et ∙ em)
      ∙ ap (λ l. filter_map (hit_of_reader test x (text ++ x ∷ [])) (map prepared_standing l)) es
      ∙ hits-next test x text (map prepared_standing old) within
