-- Lists of exits are read back from their spelling.
use Rattle.std.proofs.Common.{◌≡◌, ◌∙◌, ap, sym, refl, subst, ℕ, zero, suc, ◌+◌, ◌-◌, ◌%◌, ◌^◌, ◌<◌, ◌≤◌, List, [], ◌∷◌, ◌++◌, Bool, true, false}
use Rattle.std.proofs.Common.{not, ◌&&◌, ◌==◌, cond, Option, Some, None, length, map, take, drop, fold, position, option_map, append_assoc}
use Rattle.std.proofs.Common.{append-nil, arith, rules}
use Rattle.std.specs.Prelude.{All, codes, decimal, nat_le, nat_lt, slice_get, unwrap_or, bytes_eq}
use Rattle.std.specs.Cmp.Lexicographic.{nat_list_eq_equiv}
use Rattle.std.specs.List.{slice_split, list_all, position_or_len}
use Rattle.std.proofs.Math.Seq.{take-append_seam, drop-append-add}
use Rattle.std.proofs.lemmas.Bool.{and_parts}
use Rattle.std.proofs.lemmas.Bool.Decides.{nat_tests}
use Rattle.std.proofs.lemmas.Fmt.{decimal_by_steps}
use Rattle.std.proofs.lemmas.List.{length-append, length-map}
use Rattle.std.proofs.lemmas.List.Elements.{All-head, All-tail, All-nil, All-push}
use Rattle.std.proofs.lemmas.List.Folds.{list_all-append}
use Rattle.std.proofs.lemmas.List.Splits.{length-slice_split}
use Rattle.std.proofs.lemmas.Option.{same_Some, none-some, slice_get_within, slice_get-get_or}
use Rattle.death_tally.specs.declared.exit_list.DeathItem.{DeathItem}
use Rattle.death_tally.specs.declared.exit_list.DeathItem.TheVariants.{Code, Range, Signal}
use Rattle.death_tally.specs.DeathList.{spelled_exit, spelled_range, item_with_dash, spelled_item, and_item, with_word, items_of, list_of}
use Rattle.death_tally.specs.DeathList.{death_list}
use Rattle.death_tally.proofs.Items.{none_stays}
use Rattle.servicedir.specs.Number.{are_digits, value_of_digits, number_up_to}
use Rattle.servicedir.specs.SignalName.{signal_names, signal_of_name, name_of_signal, signal_of_word}
use Rattle.servicedir.proofs.Decimals.{read_back}
use Rattle.svscan_core.specs.Names.{lists, repeats_name}
use Rattle.svscan_core.proofs.Truth.{neither_left, neither_right}
use Rattle.s6_script.specs.DeathList.{item_text, list_text, IsItem, IsDeathList}
use Rattle.s6_script.proofs.Joined.{is_no_space, has_no_space, lacks, split_joined}
use Rattle.s6_script.proofs.Plain.{is_plain_byte, is_plain, digits_plain, no_space_in}

-- the byte is no dash
abbrev is_no_dash : ℕ → Bool
is_no_dash b = not (b == 45)

-- decimal digits have no dash
digits_no_dash : (n : ℕ) → n < 2 ^ 64 → list_all is_no_dash (decimal n) ≡ true
digits_no_dash n small =
    decimal_by_steps (λ n ds. list_all is_no_dash ds ≡ true)
    (λ n h. digit n h)
    (λ n ds h so_far. list_all-append is_no_dash ds ((48 + n % 10) ∷ []) ∙ grind (arith, so_far, digit (n % 10) (omega arith)))
    n small
  where
    digit : (n : ℕ) → n < 10 → list_all is_no_dash ((48 + n) ∷ []) ≡ true
    digit n h = grind (arith, nat_tests)

-- what is plain has no comma
no_comma_in : (text : List ℕ) → is_plain text ≡ true → lacks (λ b. b == 44) text ≡ true
no_comma_in [] h = refl
no_comma_in (b ∷ text) h =
    let both = and_parts (is_plain_byte b) (is_plain text) h in
    rw (byte b both.0) (no_comma_in text both.1)
  where
    byte : (c : ℕ) → is_plain_byte c ≡ true → not (c == 44) ≡ true
    byte c h = grind (arith, nat_tests)

one_more : (n : ℕ) → 1 + n ≡ suc n
one_more n = omega arith

-- ---- names of signals

-- each name stands once, and is plain, with no dash
abbrev is_word_byte : ℕ → Bool
is_word_byte b = is_plain_byte b && is_no_dash b

names_once : repeats_name signal_names ≡ false
unfolding signal_names
names_once = refl

names_plain : list_all (list_all is_word_byte) signal_names ≡ true
unfolding signal_names
names_plain = refl

how_many : length signal_names ≡ 31
unfolding signal_names
how_many = refl

-- what is true of all is true of one
one_of : (p : List ℕ → Bool) (names : List (List ℕ)) (k : ℕ) (name : List ℕ) → list_all p names ≡ true → slice_get names k ≡ Some name
    → p name ≡ true
one_of p [] k name h e = search rules
one_of p (x ∷ names) zero name h e = ap p (sym (same_Some x name e)) ∙ (and_parts (p x) (list_all p names) h).0
one_of p (x ∷ names) (suc k) name h e = one_of p names k name (and_parts (p x) (list_all p names) h).1 e

-- a name that is not in a list is none of it
unlisted_at : (x : List ℕ) (names : List (List ℕ)) (k : ℕ) (name : List ℕ) → lists names x ≡ false → slice_get names k ≡ Some name
    → bytes_eq x name ≡ false
unlisted_at x [] k name h e = search rules
unlisted_at x (y ∷ names) zero name h e = ap (bytes_eq x) (sym (same_Some y name e)) ∙ neither_left (bytes_eq x y) (lists names x) h
unlisted_at x (y ∷ names) (suc k) name h e = unlisted_at x names k name (neither_right (bytes_eq x y) (lists names x) h) e

-- the first place of a name that stands once
place_of : (names : List (List ℕ)) (k : ℕ) (name : List ℕ) → repeats_name names ≡ false → slice_get names k ≡ Some name
    → position_or_len (λ known. bytes_eq known name) names ≡ k
place_of [] k name h e = search rules
place_of (x ∷ names) zero name h e =
    ap (λ b. cond (not b) (1 + position_or_len (λ known. bytes_eq known name) names) 0)
    (ap (λ y. bytes_eq y name) (same_Some x name e) ∙ nat_list_eq_equiv.refl name)
place_of (x ∷ names) (suc k) name h e =
    ap (λ b. cond (not b) (1 + position_or_len (λ known. bytes_eq known name) names) 0)
    (unlisted_at x names k name (neither_left (lists names x) (repeats_name names) h) e)
    ∙ (ap (λ n. 1 + n) (place_of names k name (neither_right (lists names x) (repeats_name names) h) e) ∙ one_more k)

is_less : (m n : ℕ) → m < n → nat_lt m n ≡ true
is_less m n h = grind (arith, nat_tests)

-- the signal of a number has a name, which names that number
named_signal : (number : ℕ) → 1 ≤ number → number ≤ 31
    → (name : List ℕ) × (name_of_signal number ≡ Some name) × (slice_get signal_names (number - 1) ≡ Some name)
named_signal number low high =
    let at : number - 1 < length signal_names = omega (arith, how_many, high, low) in
    let there = slice_get-get_or signal_names (number - 1) [] at in
    let from : nat_le 1 number ≡ true = is_from number low in
    (_, ap (λ b. cond b (slice_get signal_names (number - 1)) None) from ∙ there, there)
  where
    is_from : (n : ℕ) → 1 ≤ n → nat_le 1 n ≡ true
    is_from n h = grind (arith, nat_tests)

signal_back : (number : ℕ) (name : List ℕ) → 1 ≤ number → number ≤ 31 → slice_get signal_names (number - 1) ≡ Some name
    → signal_of_word (codes "SIG" ++ name) ≡ Some number
unfolding signal_of_name
signal_back number name low high there =
    let place = place_of signal_names (number - 1) name names_once there in
    let within = is_less (number - 1) (length signal_names) (slice_get_within signal_names (number - 1) name there) in
    let back : number - 1 + 1 ≡ number = omega (arith, low) in
    ap (λ k. option_map (λ p. p + 1) (cond (nat_lt k (length signal_names)) (Some k) None)) place
    ∙ (ap (λ b. option_map (λ p. p + 1) (cond b (Some (number - 1)) None)) within ∙ ap Some back)

-- ---- an item is read back from its text

-- no byte of a text is a dash, so it has none
no_place : (text : List ℕ) → list_all is_no_dash text ≡ true → position (λ b. b == 45) text ≡ None
no_place text h =
    ap (λ k. cond (nat_lt k (length text)) (Some k) None) (all_along text h) ∙ ap (λ b. cond b (Some (length text)) None) (not_less (length text))
  where
    all_along : (bytes : List ℕ) → list_all is_no_dash bytes ≡ true → position_or_len (λ b. b == 45) bytes ≡ length bytes
    all_along [] e = refl
    all_along (b ∷ bytes) e =
        let both = and_parts (is_no_dash b) (list_all is_no_dash bytes) e in
        ap (λ t. cond t (1 + position_or_len (λ c. c == 45) bytes) 0) both.0 ∙ (ap (λ n. 1 + n) (all_along bytes both.1) ∙ one_more (length bytes))

    not_less : (n : ℕ) → nat_lt n n ≡ false
    not_less n = grind (arith, nat_tests)

-- the dash behind digits
dash_behind : (front back : List ℕ) → list_all is_no_dash front ≡ true → position (λ b. b == 45) (front ++ 45 ∷ back) ≡ Some (length front)
dash_behind front back h =
    let long : length front < length (front ++ 45 ∷ back) = omega (arith, length-append front (45 ∷ back)) in
    ap (λ k. cond (nat_lt k (length (front ++ 45 ∷ back))) (Some k) None) (up_to front h)
    ∙ ap (λ b. cond b (Some (length front)) None) (is_less (length front) (length (front ++ 45 ∷ back)) long)
  where
    up_to : (bytes : List ℕ) → list_all is_no_dash bytes ≡ true → position_or_len (λ b. b == 45) (bytes ++ 45 ∷ back) ≡ length bytes
    up_to [] e = refl
    up_to (b ∷ bytes) e =
        let both = and_parts (is_no_dash b) (list_all is_no_dash bytes) e in
        ap (λ t. cond t (1 + position_or_len (λ c. c == 45) (bytes ++ 45 ∷ back)) 0) both.0
        ∙ (ap (λ n. 1 + n) (up_to bytes both.1) ∙ one_more (length bytes))

code_back : (n : ℕ) → n ≤ 255 → number_up_to 255 (decimal n) ≡ Some n
code_back n h = read_back 255 n (decimal n) h (omega (arith, h)) refl

-- letters are no number
no_number : (text : List ℕ) → number_up_to 255 (83 ∷ text) ≡ None
unfolding number_up_to
no_number text =
    ap (λ b. cond b (Some (value_of_digits (83 ∷ text))) None) (shut (nat_le 1 (length (83 ∷ text))) (nat_le (value_of_digits (83 ∷ text)) 255))
  where
    shut : (a c : Bool) → ((a && false) && c) ≡ false
    shut true c = refl
    shut false c = refl

item_back : (item : DeathItem) → IsItem item → spelled_item (item_text item) ≡ Some item
item_back (Code n) h =
    ap (λ o. item_with_dash o (decimal n)) (no_place (decimal n) (digits_no_dash n (omega (arith, h))))
    ∙ ap (λ o. spelled_exit o (signal_of_word (decimal n))) (code_back n h)
item_back (Range low high) h =
    let rises = h.0 in let bound = h.1 in
    let text = decimal low ++ 45 ∷ decimal high in
    let front : take (length (decimal low)) text ≡ decimal low = take-append_seam (decimal low) (45 ∷ decimal high) in
    let behind : drop (length (decimal low) + 1) text ≡ decimal high = drop-append-add (decimal low) (45 ∷ decimal high) 1 in
    ap (λ o. item_with_dash o text) (dash_behind (decimal low) (decimal high) (digits_no_dash low (omega (arith, rises, bound))))
    ∙ ((λ i. spelled_range ((ap (number_up_to 255) front ∙ code_back low (omega (arith, rises, bound))) i)
    ((ap (number_up_to 255) behind ∙ code_back high bound) i))
    ∙ ap (λ b. cond b (Some (Range low high)) None) (is_rising low high rises))
  where
    is_rising : (m n : ℕ) → m ≤ n → nat_le m n ≡ true
    is_rising m n h = grind (arith, nat_tests)
item_back (Signal number) h =
    let found = named_signal number h.0 h.1 in
    let name = found.0 in
    let plain : list_all is_word_byte name ≡ true = one_of (list_all is_word_byte) signal_names (number - 1) name names_plain found.2 in
    ap (λ o. spelled_item (codes "SIG" ++ unwrap_or o [])) found.1
    ∙ (ap (λ o. item_with_dash o (codes "SIG" ++ name)) (no_place (codes "SIG" ++ name) (dashless name plain))
    ∙ (ap (λ o. spelled_exit o (signal_of_word (codes "SIG" ++ name))) (no_number (73 ∷ 71 ∷ name))
    ∙ ap (option_map Signal) (signal_back number name h.0 h.1 found.2)))
  where
    dashless : (text : List ℕ) → list_all is_word_byte text ≡ true → list_all is_no_dash text ≡ true
    dashless [] e = refl
    dashless (b ∷ text) e =
        let both = and_parts (is_word_byte b) (list_all is_word_byte text) e in
        rw (and_parts (is_plain_byte b) (is_no_dash b) both.0).1 (dashless text both.1)

-- ---- so is a list

item_plain : (item : DeathItem) → IsItem item → is_plain (item_text item) ≡ true
item_plain (Code n) h = digits_plain n (omega (arith, h))
item_plain (Range low high) h =
    let rises = h.0 in let bound = h.1 in
    list_all-append is_plain_byte (decimal low) (45 ∷ decimal high)
    ∙ rw (digits_plain low (omega (arith, rises, bound)), digits_plain high (omega (arith, bound))) refl
item_plain (Signal number) h =
    let found = named_signal number h.0 h.1 in
    ap (λ o. is_plain (codes "SIG" ++ unwrap_or o [])) found.1
    ∙ wordy found.0 (one_of (list_all is_word_byte) signal_names (number - 1) found.0 names_plain found.2)
  where
    wordy : (text : List ℕ) → list_all is_word_byte text ≡ true → is_plain text ≡ true
    wordy [] e = refl
    wordy (b ∷ text) e =
        let both = and_parts (is_word_byte b) (list_all is_word_byte text) e in
        rw (and_parts (is_plain_byte b) (is_no_dash b) both.0).0 (wordy text both.1)

items_lack : (items : List DeathItem) → All IsItem items → list_all (lacks (λ b. b == 44)) (map item_text items) ≡ true
items_lack [] h = refl
items_lack (item ∷ items) h = rw (no_comma_in (item_text item) (item_plain item (All-head IsItem item items h)))
    (items_lack items (All-tail IsItem item items h))

pub list_no_space : (items : List DeathItem) → All IsItem items → has_no_space (list_text items) ≡ true
list_no_space [] h = refl
list_no_space (item ∷ []) h = no_space_in (item_text item) (item_plain item (All-head IsItem item [] h))
list_no_space (item ∷ next ∷ items) h =
    list_all-append is_no_space (item_text item) (44 ∷ list_text (next ∷ items))
    ∙ rw (no_space_in (item_text item) (item_plain item (All-head IsItem item (next ∷ items) h)))
    (list_no_space (next ∷ items) (All-tail IsItem item (next ∷ items) h))

items_back : (items so_far : List DeathItem) → All IsItem items → fold with_word (Some so_far) (map item_text items) ≡ Some (so_far ++ items)
items_back [] so_far h = ap Some (sym (append-nil so_far))
items_back (item ∷ items) so_far h =
    ap (λ o. fold with_word o (map item_text items)) (ap (and_item so_far) (item_back item (All-head IsItem item items h)))
    ∙ (items_back items (so_far ++ item ∷ []) (All-tail IsItem item items h) ∙ ap Some (append_assoc so_far (item ∷ []) items))

pub list_back : (items : List DeathItem) → IsDeathList items → death_list (list_text items) ≡ Some items
list_back [] h = let some = h.some in absurd (omega (arith, some))
list_back (item ∷ items) h =
    let cut : slice_split (λ b. b == 44) (list_text (item ∷ items)) ≡ map item_text (item ∷ items) =
    split_joined (λ b. b == 44) 44 refl (item_text item) (map item_text items) (items_lack (item ∷ items) h.fit) in
    let few : length (map item_text (item ∷ items)) ≤ 32 = let fits = h.few in omega (arith, length-map items item_text, fits) in
    ap list_of cut
    ∙ (ap (λ b. cond b (items_of (map item_text (item ∷ items))) None) (is_few (length (map item_text (item ∷ items))) few)
    ∙ items_back (item ∷ items) [] h.fit)
  where
    is_few : (n : ℕ) → n ≤ 32 → nat_le n 32 ≡ true
    is_few n h = grind (arith, nat_tests)

-- ---- whatever is read is a list

is_at_most : (m n : ℕ) → nat_le m n ≡ true → m ≤ n
is_at_most m n h = grind (arith, nat_tests)

number_bound : (most : ℕ) (text : List ℕ) (n : ℕ) → number_up_to most text ≡ Some n → n ≤ most
unfolding number_up_to
number_bound most text n = by (are_digits text && nat_le (value_of_digits text) most) refl
  where
    by : (b : Bool) → (are_digits text && nat_le (value_of_digits text) most) ≡ b → cond b (Some (value_of_digits text)) None ≡ Some n → n ≤ most
    by true e h = subst (λ k. k ≤ most) (same_Some (value_of_digits text) n h)
        (is_at_most (value_of_digits text) most (and_parts (are_digits text) (nat_le (value_of_digits text) most) e).1)
    by false e h = absurd (none-some n h)

signal_bound : (name : List ℕ) (n : ℕ) → signal_of_name name ≡ Some n → (1 ≤ n) × (n ≤ 31)
unfolding signal_of_name
signal_bound name n = by (nat_lt (position_or_len (λ known. bytes_eq known name) signal_names) (length signal_names)) refl
  where
    k : ℕ
    k = position_or_len (λ known. bytes_eq known name) signal_names

    below : (m l : ℕ) → nat_lt m l ≡ true → m < l
    below m l h = grind (arith, nat_tests)

    by : (b : Bool) → nat_lt k (length signal_names) ≡ b → option_map (λ p. p + 1) (cond b (Some k) None) ≡ Some n → (1 ≤ n) × (n ≤ 31)
    by true e h =
        let is : k + 1 ≡ n = same_Some (k + 1) n h in
        let lower : k < length signal_names = below k (length signal_names) e in
        (omega (arith, is), omega (arith, is, lower, how_many))
    by false e h = absurd (none-some n h)

item_fits : (word : List ℕ) (item : DeathItem) → spelled_item word ≡ Some item → IsItem item
item_fits word item = by_dash (position (λ b. b == 45) word)
  where
    by_signal : (o : Option ℕ) → signal_of_word word ≡ o → option_map Signal o ≡ Some item → IsItem item
    by_signal None e h = absurd (none-some item h)
    by_signal (Some n) e h = subst IsItem (same_Some (Signal n) item h) (signal_bound _ n e)

    by_number : (o : Option ℕ) → number_up_to 255 word ≡ o → spelled_exit o (signal_of_word word) ≡ Some item → IsItem item
    by_number None e h = by_signal (signal_of_word word) refl h
    by_number (Some n) e h = subst IsItem (same_Some (Code n) item h) (number_bound 255 word n e)

    by_test : (m n : ℕ) (b : Bool) → nat_le m n ≡ b → n ≤ 255 → cond b (Some (Range m n)) None ≡ Some item → IsItem item
    by_test m n true e bound h = subst IsItem (same_Some (Range m n) item h) (is_at_most m n e, bound)
    by_test m n false e bound h = absurd (none-some item h)

    by_range : (low high : List ℕ) (o u : Option ℕ) → number_up_to 255 high ≡ u → spelled_range o u ≡ Some item → IsItem item
    by_range low high None u e h = absurd (none-some item h)
    by_range low high (Some m) None e h = absurd (none-some item h)
    by_range low high (Some m) (Some n) e h = by_test m n (nat_le m n) refl (number_bound 255 high n e) h

    by_dash : (o : Option ℕ) → item_with_dash o word ≡ Some item → IsItem item
    by_dash None h = by_number (number_up_to 255 word) refl h
    by_dash (Some place) h = by_range (take place word) (drop (place + 1) word) (number_up_to 255 (take place word))
        (number_up_to 255 (drop (place + 1) word)) refl h

items_fit : (words : List (List ℕ)) (so_far items : List DeathItem) → All IsItem so_far → fold with_word (Some so_far) words ≡ Some items
    → (length items ≡ length so_far + length words) × All IsItem items
items_fit [] so_far items all h =
    let is : so_far ≡ items = same_Some so_far items h in
    let long : length so_far ≡ length items = ap length is in (omega (arith, long), subst (λ (ds : List DeathItem). All IsItem ds) is all)
items_fit (word ∷ words) so_far items all h = by (spelled_item word) refl (λ item. items_fit words (so_far ++ item ∷ []) items) h
  where
    by : (o : Option DeathItem) → spelled_item word ≡ o
        → ((item : DeathItem) → All IsItem (so_far ++ item ∷ []) → fold with_word (Some (so_far ++ item ∷ [])) words ≡ Some items
        → (length items ≡ length (so_far ++ item ∷ []) + length words) × All IsItem items)
        → fold with_word (and_item so_far o) words ≡ Some items → (length items ≡ length so_far + length (word ∷ words)) × All IsItem items
    by None e later h = absurd (none-some items (sym (none_stays words) ∙ h))
    by (Some item) e later h =
        let rest = later item (All-push IsItem so_far item all (item_fits word item e)) h in
        let count = rest.0 in
        let long : length (so_far ++ item ∷ []) ≡ length so_far + 1 = length-append so_far (item ∷ []) in
        (omega (arith, count, long), rest.1)

pub list_fits : (text : List ℕ) (items : List DeathItem) → death_list text ≡ Some items → IsDeathList items
list_fits text items = by (nat_le (length words) 32) refl
  where
    words : List (List ℕ)
    words = slice_split (λ b. b == 44) text

    by : (b : Bool) → nat_le (length words) 32 ≡ b → cond b (items_of words) None ≡ Some items → IsDeathList items
    by true e h =
        let fit = items_fit words [] items (All-nil IsItem) h in
        let count = fit.0 in
        let few = is_at_most (length words) 32 e in
        let some = length-slice_split (λ b. b == 44) text in
        record { some = omega (arith, count, some); few = omega (arith, count, few); fit = fit.1 }
    by false e h = absurd (none-some items h)
