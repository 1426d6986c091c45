-- What is found of a name in a sorted listing.
use Rattle.std.proofs.Common.{◌≡◌, ℕ, List, [], ◌∷◌, ◌++◌, Bool, true, false, ◌||◌, ◌+◌, ◌<◌, cond, length, take, get_or, map, refl, sym, ◌∙◌, ap}
use Rattle.std.specs.Prelude.{bytes_eq, find, is_some, option_and_then, Option, Some, None}
use Rattle.std.specs.List.{take-map}
use Rattle.std.specs.BTreeMap.{insert_entry, is_at}
use Rattle.std.specs.Map.{lookup}
use Rattle.std.specs.Ordering.{nat_cmp, match_ordering, is_eq}
use Rattle.std.specs.declared.cmp.Ordering.{Ordering}
use Rattle.std.specs.declared.cmp.Ordering.TheVariants.{Less, Equal, Greater}
use Rattle.std.specs.Cmp.Lexicographic.{slice_cmp, texts_ties, bytes_decides, nat_list_eq_equiv}
use Rattle.std.proofs.lemmas.List.{take_more}
use Rattle.std.specs.BTreeSet.{insert_key}
use Rattle.servicedir.specs.declared.config.Config.{Config}
use Rattle.svscan_core.specs.declared.entry.Entry.{Entry}
use Rattle.svscan_core.specs.Listing.{names_in, has_entry, listed_config, in_byte_order}
use Rattle.svscan_core.specs.Names.{lists, repeats_name}
use Rattle.svscan_core.specs.SortedListing.{entry_of, entries_in, AreAlike}
use Rattle.svscan_core.proofs.Additions.{new_at}
use Rattle.svscan_core.proofs.Entries.{name_within, name_at}
use Rattle.svscan_core.proofs.ListingOrder.{order_more, same_name, in_order-found}
use Rattle.svscan_core.proofs.Scanned.{is_in}
use Rattle.svscan_core.proofs.Truth.{neither_left, neither_right}

-- the map knows what its entries say
pub has_found : (q : List ℕ) (found : List (List ℕ × Option Config))
    → has_entry (entries_in found) q ≡ is_some (lookup (is_at (slice_cmp nat_cmp q)) found)
has_found q [] = refl
has_found q (p ∷ found) =
    (λ i. texts_ties q p.0 i || has_found q found i) ∙ by (is_eq (slice_cmp nat_cmp q p.0)) (lookup (is_at (slice_cmp nat_cmp q)) found)
  where
    by : (b : Bool) (rest : Option (Option Config)) → (b || is_some rest) ≡ is_some (cond b (Some p.1) rest)
    by true rest = refl
    by false rest = refl

-- the configuration that was found
abbrev pub read_of : Option (Option Config) → Option Config
read_of None = None
read_of (Some config) = config

abbrev config_of : Option Entry → Option Config
config_of found = option_and_then (λ e. e.config) found

pub read_found : (q : List ℕ) (found : List (List ℕ × Option Config))
    → listed_config (entries_in found) q ≡ read_of (lookup (is_at (slice_cmp nat_cmp q)) found)
read_found q [] = refl
read_found q (p ∷ found) =
    by (bytes_eq q p.0) (find (λ e. bytes_eq q e.name) (entries_in found)) (lookup (is_at (slice_cmp nat_cmp q)) found) (read_found q found)
    ∙ ap (λ b. read_of (cond b (Some p.1) (lookup (is_at (slice_cmp nat_cmp q)) found))) (texts_ties q p.0)
  where
    by : (b : Bool) (rest : Option Entry) (others : Option (Option Config)) → config_of rest ≡ read_of others
        → config_of (cond b (Some (entry_of p)) rest) ≡ read_of (cond b (Some p.1) others)
    by true rest others h = refl
    by false rest others h = h

-- its names are those of the map
pub names_found : (found : List (List ℕ × Option Config)) → names_in (entries_in found) ≡ map (λ p. p.0) found
names_found [] = refl
names_found (p ∷ found) = ap (λ ns. p.0 ∷ ns) (names_found found)

-- an entry that goes to its place is found, and every other name as before
names_inserted : (k : List ℕ) (v : Option Config) (found : List (List ℕ × Option Config))
    → names_in (entries_in (insert_entry (slice_cmp nat_cmp) found k v)) ≡ insert_key (slice_cmp nat_cmp) (names_in (entries_in found)) k
names_inserted k v [] = refl
names_inserted k v (p ∷ found) = by (slice_cmp nat_cmp k p.0) (names_inserted k v found)
  where
    by : (o : Ordering)
        → names_in (entries_in (insert_entry (slice_cmp nat_cmp) found k v)) ≡ insert_key (slice_cmp nat_cmp) (names_in (entries_in found)) k
        → names_in (entries_in (match_ordering o ((k, v) ∷ p ∷ found) ((p.0, v) ∷ found) (p ∷ insert_entry (slice_cmp nat_cmp) found k v)))
        ≡ match_ordering o (k ∷ p.0 ∷ names_in (entries_in found)) (p.0 ∷ names_in (entries_in found))
        (p.0 ∷ insert_key (slice_cmp nat_cmp) (names_in (entries_in found)) k)
    by Less rest = refl
    by Equal rest = refl
    by Greater rest = ap (λ ns. p.0 ∷ ns) rest

has_inserted : (q k : List ℕ) (v : Option Config) (found : List (List ℕ × Option Config))
    → has_entry (entries_in (insert_entry (slice_cmp nat_cmp) found k v)) q ≡ (bytes_eq q k || has_entry (entries_in found) q)
has_inserted q k v found =
    sym (is_in (entries_in (insert_entry (slice_cmp nat_cmp) found k v)) q)
    ∙ (ap (λ ns. lists ns q) (names_inserted k v found)
    ∙ (in_order-found q k (names_in (entries_in found))
    ∙ ap (λ b. bytes_eq q k || b) (is_in (entries_in found) q)))

read_inserted : (q k : List ℕ) (v : Option Config) (found : List (List ℕ × Option Config))
    → listed_config (entries_in (insert_entry (slice_cmp nat_cmp) found k v)) q
    ≡ cond (bytes_eq q k) v (listed_config (entries_in found) q)
read_inserted q k v [] = by (bytes_eq q k)
  where
    by : (b : Bool) → config_of (cond b (Some (entry_of (k, v))) None) ≡ cond b v None
    by true = refl
    by false = refl
read_inserted q k v (p ∷ found) = by (slice_cmp nat_cmp k p.0) refl (read_inserted q k v found)
  where
    first : (b : Bool) (rest : Option Entry) → config_of (cond b (Some (entry_of (k, v))) rest) ≡ cond b v (config_of rest)
    first true rest = refl
    first false rest = refl

    second : (b : Bool) (rest : Option Entry)
        → config_of (cond b (Some (entry_of (p.0, v))) rest) ≡ cond b v (config_of (cond b (Some (entry_of p)) rest))
    second true rest = refl
    second false rest = refl

    third : (b other : Bool) (rest before : Option Entry) → (b ≡ true → other ≡ false) → config_of rest ≡ cond other v (config_of before)
        → config_of (cond b (Some (entry_of p)) rest) ≡ cond other v (config_of (cond b (Some (entry_of p)) before))
    third true other rest before apart h = sym (ap (λ b. cond b v p.1) (apart refl))
    third false other rest before apart h = h

    by : (o : Ordering) → slice_cmp nat_cmp k p.0 ≡ o
        → listed_config (entries_in (insert_entry (slice_cmp nat_cmp) found k v)) q ≡ cond (bytes_eq q k) v (listed_config (entries_in found) q)
        → listed_config (entries_in (match_ordering o ((k, v) ∷ p ∷ found) ((p.0, v) ∷ found) (p ∷ insert_entry (slice_cmp nat_cmp) found k v))) q
        ≡ cond (bytes_eq q k) v (listed_config (entries_in (p ∷ found)) q)
    by Less e rest = first (bytes_eq q k) (find (λ e. bytes_eq q e.name) (entries_in (p ∷ found)))
    by Equal e rest =
        second (bytes_eq q p.0) (find (λ e. bytes_eq q e.name) (entries_in found))
        ∙ ap (λ n. cond (bytes_eq q n) v (listed_config (entries_in (p ∷ found)) q)) (sym (same_name k p.0 e))
    by Greater e rest =
        third (bytes_eq q p.0) (bytes_eq q k) (find (λ e. bytes_eq q e.name) (entries_in (insert_entry (slice_cmp nat_cmp) found k v)))
        (find (λ e. bytes_eq q e.name) (entries_in found))
        (λ same. ap (λ n. bytes_eq n k) ((bytes_decides q p.0).0 same) ∙ (nat_list_eq_equiv.symm p.0 k ∙ (texts_ties k p.0 ∙ ap is_eq e))) rest

-- one more entry, of a name that is not there yet
has_last : (q : List ℕ) (listing : List Entry) (e : Entry) → has_entry (listing ++ e ∷ []) q ≡ (bytes_eq q e.name || has_entry listing q)
has_last q [] e = refl
has_last q (x ∷ listing) e =
    ap (λ b. bytes_eq q x.name || b) (has_last q listing e) ∙ swap (bytes_eq q x.name) (bytes_eq q e.name) (has_entry listing q)
  where
    swap : (a b c : Bool) → (a || (b || c)) ≡ (b || (a || c))
    swap true true c = refl
    swap true false c = refl
    swap false b c = refl

read_last : (q : List ℕ) (listing : List Entry) (e : Entry) → has_entry listing e.name ≡ false
    → listed_config (listing ++ e ∷ []) q ≡ cond (bytes_eq q e.name) e.config (listed_config listing q)
read_last q [] e new = by (bytes_eq q e.name)
  where
    by : (b : Bool) → config_of (cond b (Some e) None) ≡ cond b e.config None
    by true = refl
    by false = refl
read_last q (x ∷ listing) e new =
    by (bytes_eq q x.name) (bytes_eq q e.name) (find (λ e. bytes_eq q e.name) (listing ++ e ∷ [])) (find (λ e. bytes_eq q e.name) listing)
    (λ same. ap (λ n. bytes_eq n e.name) ((bytes_decides q x.name).0 same)
    ∙ (nat_list_eq_equiv.symm x.name e.name ∙ neither_left (bytes_eq e.name x.name) _ new))
    (read_last q listing e (neither_right (bytes_eq e.name x.name) _ new))
  where
    by : (b other : Bool) (rest before : Option Entry) → (b ≡ true → other ≡ false) → config_of rest ≡ cond other e.config (config_of before)
        → config_of (cond b (Some x) rest) ≡ cond other e.config (config_of (cond b (Some x) before))
    by true other rest before apart h = sym (ap (λ b. cond b e.config x.config) (apart refl))
    by false other rest before apart h = h

-- so the sorted listing says of each name what the listing says
pub alike_more : (listing : List Entry) (i : ℕ) (e : Entry) (before after : List (List ℕ × Option Config)) → repeats_name (names_in listing) ≡ false
    → i < length listing → e ≡ get_or listing i e → after ≡ insert_entry (slice_cmp nat_cmp) before e.name e.config
    → AreAlike (entries_in before) (take i listing) → AreAlike (entries_in after) (take (i + 1) listing)
alike_more listing i e before after once within at is alike =
    let more : take (i + 1) listing ≡ take i listing ++ e ∷ [] = take_more listing i e within ∙ ap (λ x. take i listing ++ x ∷ []) (sym at) in
    let new : has_entry (take i listing) e.name ≡ false =
    sym (is_in (take i listing) e.name)
    ∙ (ap (λ ns. lists ns e.name) (sym (take-map (λ (x : Entry). x.name) i listing))
    ∙ new_at (names_in listing) i e.name once (name_within listing i within) (name_at listing i e within at)) in
    record {
      has = λ q. ap (λ es. has_entry (entries_in es) q) is
          ∙ (has_inserted q e.name e.config before
          ∙ (ap (λ b. bytes_eq q e.name || b) (alike.has q)
          ∙ (sym (has_last q (take i listing) e)
          ∙ ap (λ es. has_entry es q) (sym more))));
      read = λ q. ap (λ es. listed_config (entries_in es) q) is
          ∙ (read_inserted q e.name e.config before
          ∙ (ap (λ c. cond (bytes_eq q e.name) e.config c) (alike.read q)
          ∙ (sym (read_last q (take i listing) e new)
          ∙ ap (λ es. listed_config es q) (sym more))));
    }

-- and its names go to their places
pub names_more : (listing : List Entry) (i : ℕ) (e : Entry) (before after : List (List ℕ × Option Config))
    → i < length listing → e ≡ get_or listing i e → after ≡ insert_entry (slice_cmp nat_cmp) before e.name e.config
    → names_in (entries_in before) ≡ in_byte_order (take i (names_in listing))
    → names_in (entries_in after) ≡ in_byte_order (take (i + 1) (names_in listing))
names_more listing i e before after within at is was =
    ap (λ es. names_in (entries_in es)) is
    ∙ (names_inserted e.name e.config before
    ∙ order_more (names_in listing) i e.name (names_in (entries_in before)) (name_within listing i within) (name_at listing i e within at) was)
