-- Entries are read back from their spelling.
use Rattle.std.proofs.Common.{◌≡◌, ◌∙◌, ap, sym, refl, ℕ, ◌+◌, ◌<◌, ◌≤◌, ◌^◌, List, [], ◌∷◌, ◌++◌, Bool, true, false, not, ◌==◌, Option, Some}
use Rattle.std.proofs.Common.{None, length, map, take, drop, fold, get_or, append_assoc, append-nil, arith, rules}
use Rattle.std.specs.Prelude.{All, codes, nat_lt, slice_index_or, ◌≢◌}
use Rattle.std.proofs.lemmas.Bool.{eqb-true, and_parts, and_from, false≢true}
use Rattle.std.proofs.lemmas.Bool.Decides.{nat_tests}
use Rattle.std.proofs.lemmas.List.{append_cancel_right, get_or-map, length-map, map-append, take_all, take_more}
use Rattle.std.proofs.lemmas.List.Elements.{All-nil, All-cons, All-head, All-tail, All-append, All-get_or}
use Rattle.std.proofs.lemmas.List.Folds.{list_all-append}
use Rattle.std.proofs.lemmas.List.Splits.{slice_split_none, slice_split_at}
use Rattle.std.proofs.lemmas.List.Sums.{fold-append, fold_more}
use Rattle.std.specs.List.{slice_split, join_with_byte, list_all}
use Rattle.s6_events.specs.Name.{is_name}
use Rattle.servicedir.specs.Config.{plain_config, is_served}
use Rattle.servicedir.specs.declared.config.Config.{Config}
use Rattle.svscan_core.specs.declared.entry.Entry.{Entry}
use Rattle.s6_script.specs.declared.entry_options.Setting.{Setting}
use Rattle.s6_script.specs.declared.entry_options.Setting.TheVariants.{Down, Finish, Notify, Kill, FinishTime, Tally, Signal}
use Rattle.s6_script.specs.Options.{where_so, descriptor_setting, number_setting, settings, option_word, option_words, behind_name, config_text}
use Rattle.s6_script.specs.Options.{entry_text, with_setting, IsSetting, IsConfig, IsEntry, ends_part}
use Rattle.s6_script.proofs.Joined.{is_no_space, has_no_space, lacks, lacking, split_joined}
use Rattle.s6_script.proofs.Plain.{is_no_mark, is_plain, digits_plain, name_plain, no_space_in, no_mark_in, no_end_in}

-- the mark before the next option: a colon before the first, then a comma
abbrev pub mark_behind : List (List ℕ) → ℕ
mark_behind [] = 58
mark_behind (option ∷ options) = 44

-- ---- the settings of a configuration, set one after the other, give it back

-- one flag more
flag_back : (so : Bool) (s : Setting) (before : List Setting) (field : Bool → Config) → with_setting (field false) s ≡ field true
    → fold with_setting plain_config before ≡ field false → fold with_setting plain_config (before ++ where_so so s) ≡ field so
flag_back so s before field sets so_far =
    fold-append with_setting plain_config before (where_so so s) ∙ (ap (λ c. fold with_setting c (where_so so s)) so_far ∙ by so)
  where
    by : (b : Bool) → fold with_setting (field false) (where_so b s) ≡ field b
    by true = sets
    by false = refl

-- the descriptor
descriptor_back : (found : Option ℕ) (before : List Setting) (field : Option ℕ → Config)
    → ((n : ℕ) → with_setting (field None) (Notify n) ≡ field (Some n))
    → fold with_setting plain_config before ≡ field None → fold with_setting plain_config (before ++ descriptor_setting found) ≡ field found
descriptor_back found before field sets so_far =
    fold-append with_setting plain_config before (descriptor_setting found)
    ∙ (ap (λ c. fold with_setting c (descriptor_setting found)) so_far ∙ by found)
  where
    by : (f : Option ℕ) → fold with_setting (field None) (descriptor_setting f) ≡ field f
    by None = refl
    by (Some n) = sets n

-- one number more
number_back : (make : ℕ → Setting) (default n : ℕ) (before : List Setting) (field : ℕ → Config) → with_setting (field default) (make n) ≡ field n
    → fold with_setting plain_config before ≡ field default → fold with_setting plain_config (before ++ number_setting make default n) ≡ field n
number_back make default n before field sets so_far =
    fold-append with_setting plain_config before (number_setting make default n)
    ∙ (ap (λ c. fold with_setting c (number_setting make default n)) so_far ∙ by (n == default) refl)
  where
    by : (b : Bool) → (n == default) ≡ b → fold with_setting (field default) (where_so (not b) (make n)) ≡ field n
    by true e = ap field (sym (eqb-true n default e))
    by false e = sets

pub settings_back : (c : Config) → fold with_setting plain_config (settings c) ≡ c
settings_back c =
    let s1 : List Setting = where_so c.down Down in
    let s2 : List Setting = s1 ++ where_so c.finish Finish in
    let s3 : List Setting = s2 ++ descriptor_setting c.notification_fd in
    let s4 : List Setting = s3 ++ number_setting Kill 0 c.timeout_kill in
    let s5 : List Setting = s4 ++ number_setting FinishTime 5000 c.timeout_finish in
    let s6 : List Setting = s5 ++ number_setting Tally 100 c.max_death_tally in
    number_back Signal 15 c.down_signal s6 (λ v. record c { down_signal = v }) refl
    (number_back Tally 100 c.max_death_tally s5 (λ v. record c { max_death_tally = v; down_signal = 15 }) refl
    (number_back FinishTime 5000 c.timeout_finish s4 (λ v. record c { timeout_finish = v; max_death_tally = 100; down_signal = 15 }) refl
    (number_back Kill 0 c.timeout_kill s3 (λ v.
    record plain_config { down = c.down; finish = c.finish; notification_fd = c.notification_fd; timeout_kill = v }) refl
    (descriptor_back c.notification_fd s2 (λ v. record plain_config { down = c.down; finish = c.finish; notification_fd = v }) (λ n. refl)
    (flag_back c.finish Finish s1 (λ v. record plain_config { down = c.down; finish = v }) refl
    (flag_back c.down Down [] (λ v. record plain_config { down = v }) refl refl))))))

-- ---- what is set fits, and what fits is set

where_fits : (so : Bool) (s : Setting) → IsSetting s → All IsSetting (where_so so s)
where_fits true s h = All-cons IsSetting s [] h (All-nil IsSetting)
where_fits false s h = All-nil IsSetting

descriptor_fits : (c : Config) → IsConfig c → All IsSetting (descriptor_setting c.notification_fd)
descriptor_fits c h = by c.notification_fd refl
  where
    by : (found : Option ℕ) → c.notification_fd ≡ found → All IsSetting (descriptor_setting found)
    by None e = All-nil IsSetting
    by (Some n) e = All-cons IsSetting (Notify n) [] (let served = h.descriptor in rw e at served) (All-nil IsSetting)

pub settings_fit : (c : Config) → IsConfig c → All IsSetting (settings c)
settings_fit c h =
    All-append IsSetting _ _
    (All-append IsSetting _ _
    (All-append IsSetting _ _
    (All-append IsSetting _ _
    (All-append IsSetting _ _
    (All-append IsSetting _ _ (where_fits c.down Down tt) (where_fits c.finish Finish tt))
    (descriptor_fits c h))
    (where_fits _ (Kill c.timeout_kill) h.kill))
    (where_fits _ (FinishTime c.timeout_finish) h.finish_time))
    (where_fits _ (Tally c.max_death_tally) h.tally))
    (where_fits _ (Signal c.down_signal) h.signal)

pub setting_kept : (c : Config) (s : Setting) → IsConfig c → IsSetting s → IsConfig (with_setting c s)
setting_kept c s h k = search rules

-- one option more is read
pub one_option_more : {X : Type 0} (now : X → List ℕ) (words : List X) (d : X) (c got new : Config) (s : Setting) (i : ℕ) → i < length words
    → map now words ≡ option_words c → IsConfig c → got ≡ fold with_setting plain_config (take i (settings c))
    → ((t : Setting) → IsSetting t → now (get_or words i d) ≡ option_word t → s ≡ t) → new ≡ with_setting got s
    → new ≡ fold with_setting plain_config (take (i + 1) (settings c))
one_option_more now words d c got new s i here spelled fits so_far reads sets =
    let long : length words ≡ length (settings c) = sym (length-map words now) ∙ (ap length spelled ∙ length-map (settings c) option_word) in
    let within : i < length (settings c) = omega (arith, here, long) in
    let same : s ≡ get_or (settings c) i Down =
    reads (get_or (settings c) i Down) (All-get_or IsSetting (settings c) i Down within (settings_fit c fits))
    (sym (get_or-map now words i d [] here) ∙ (ap (λ ws. get_or ws i []) spelled ∙ get_or-map option_word (settings c) i Down [] within)) in
    sets ∙ ((λ k. with_setting (so_far k) (same k)) ∙ sym (fold_more with_setting plain_config (settings c) i Down within))

-- all options are read
pub all_options_read : {X : Type 0} (now : X → List ℕ) (words : List X) (c got : Config) (i : ℕ) → length words ≤ i → map now words ≡ option_words c
    → got ≡ fold with_setting plain_config (take i (settings c)) → got ≡ c
all_options_read now words c got i past spelled so_far =
    let long : length words ≡ length (settings c) = sym (length-map words now) ∙ (ap length spelled ∙ length-map (settings c) option_word) in
    so_far ∙ (ap (fold with_setting plain_config) (take_all i (settings c) (omega (arith, past, long))) ∙ settings_back c)

-- the mark and the option that stand behind the options before
pub behind_more : (options : List (List ℕ)) (option : List ℕ)
    → behind_name (options ++ option ∷ []) ≡ behind_name options ++ (mark_behind options ∷ option)
behind_more [] option = refl
behind_more (first ∷ options) option = ap (λ text. 58 ∷ text) (joined first options)
  where
    joined : (word : List ℕ) (words : List (List ℕ))
        → join_with_byte 44 (word ∷ words ++ option ∷ []) ≡ join_with_byte 44 (word ∷ words) ++ (44 ∷ option)
    joined word [] = refl
    joined word (next ∷ words) = ap (λ rest. word ++ (44 ∷ rest)) (joined next words)
        ∙ sym (append_assoc word (44 ∷ join_with_byte 44 (next ∷ words)) (44 ∷ option))

pub mark_more : (options : List (List ℕ)) (option : List ℕ) → mark_behind (options ++ option ∷ []) ≡ 44
mark_more [] option = refl
mark_more (first ∷ options) option = refl

-- one option more is written
pub one_option_written : (old text pushed new : List ℕ) (list : List Setting) (d : Setting) (mark : ℕ) (option : List ℕ) (i : ℕ) → i < length list
    → text ≡ old ++ behind_name (map option_word (take i list)) → mark ≡ mark_behind (map option_word (take i list))
    → option ≡ option_word (get_or list i d) → pushed ≡ text ++ mark ∷ [] → new ≡ pushed ++ option
    → (new ≡ old ++ behind_name (map option_word (take (i + 1) list))) × (44 ≡ mark_behind (map option_word (take (i + 1) list)))
one_option_written old text pushed new list d mark option i here so_far marked spelled pushes adds =
    let before : List (List ℕ) = map option_word (take i list) in
    let more : map option_word (take (i + 1) list) ≡ before ++ option_word (get_or list i d) ∷ [] =
    ap (map option_word) (take_more list i d here) ∙ map-append option_word (take i list) (get_or list i d ∷ []) in
    let last : List ℕ = option_word (get_or list i d) in
    let text_is : new ≡ (old ++ behind_name before) ++ (mark_behind before ∷ last) =
    adds ∙ ((λ k. pushes k ++ spelled k) ∙ (append_assoc text (mark ∷ []) last ∙ (λ k. so_far k ++ (marked k ∷ last)))) in (
      text_is ∙ (append_assoc old (behind_name before) (mark_behind before ∷ last)
          ∙ ap (λ behind. old ++ behind) (sym (behind_more before last) ∙ ap behind_name (sym more))),
      sym (mark_more before last) ∙ ap mark_behind (sym more),
    )

-- so many entries are read, and the words of these are left
pub record EntriesSoFar (entries got : List Entry) (left : List (List ℕ)) : Type 0 where
  pub rest : List Entry
  pub whole : got ++ rest ≡ entries
  pub words : left ≡ map entry_text rest
  pub fits : All IsEntry rest

-- one entry more is read
pub one_entry_more : (entries got new : List Entry) (left left' : List (List ℕ)) (word : List ℕ) (read : Entry) → EntriesSoFar entries got left
    → nat_lt 0 (length left) ≡ true → word ≡ slice_index_or left 0 [] → left' ≡ drop 1 left
    → ((other : Entry) → IsEntry other → word ≡ entry_text other → read ≡ other) → new ≡ got ++ read ∷ [] → EntriesSoFar entries new left'
one_entry_more entries got new left left' word read so_far some first behind reads adds = by so_far.rest so_far.whole so_far.words so_far.fits
  where
    by : (rest : List Entry) → got ++ rest ≡ entries → left ≡ map entry_text rest → All IsEntry rest → EntriesSoFar entries new left'
    by [] whole words fits = absurd (false≢true (ap (λ ws. nat_lt 0 (length ws)) (sym words) ∙ some))
    by (entry ∷ rest) whole words fits =
        let same : read ≡ entry = reads entry (All-head IsEntry entry rest fits) (first ∙ ap (λ ws. slice_index_or ws 0 []) words) in
        record {
          rest = rest;
          whole = ap (λ l. l ++ rest) adds ∙ (append_assoc got (read ∷ []) rest ∙ ((λ k. got ++ same k ∷ rest) ∙ whole));
          words = behind ∙ ap (drop 1) words;
          fits = All-tail IsEntry entry rest fits;
        }

-- all entries are read
pub all_entries_read : (entries got : List Entry) (left : List (List ℕ)) → EntriesSoFar entries got left → nat_lt 0 (length left) ≡ false
    → got ≡ entries
all_entries_read entries got left so_far none = by so_far.rest so_far.whole so_far.words
  where
    by : (rest : List Entry) → got ++ rest ≡ entries → left ≡ map entry_text rest → got ≡ entries
    by [] whole words = sym (append-nil got) ∙ whole
    by (entry ∷ rest) whole words =
        let long : length left ≡ length (map entry_text (entry ∷ rest)) = ap length words in
        absurd (grind (arith, nat_tests))

-- ---- an entry is cut into its name and its options

option_plain : (s : Setting) → IsSetting s → is_plain (option_word s) ≡ true
option_plain Down h = refl
option_plain Finish h = refl
option_plain (Notify n) h = digits_plain n (descriptor_small n h)
  where
    descriptor_small : (m : ℕ) → is_served m ≡ true → m < 2 ^ 64
    descriptor_small m served = grind (arith, nat_tests)
option_plain (Kill n) h = digits_plain n (omega (arith, h))
option_plain (FinishTime n) h = digits_plain n (omega (arith, h))
option_plain (Tally n) h = digits_plain n (omega (arith, h))
option_plain (Signal n) h = digits_plain n (let few = h.1 in omega (arith, few))

options_plain : (list : List Setting) → All IsSetting list → list_all is_plain (map option_word list) ≡ true
options_plain [] h = refl
options_plain (s ∷ list) h = rw (option_plain s (All-head IsSetting s list h)) (options_plain list (All-tail IsSetting s list h))

ends_in_none : (words : List (List ℕ)) → list_all is_plain words ≡ true → list_all (lacks ends_part) words ≡ true
ends_in_none [] h = refl
ends_in_none (word ∷ words) h =
    let both = and_parts (is_plain word) (list_all is_plain words) h in
    rw (no_end_in word both.0) (ends_in_none words both.1)

split_behind : (name : List ℕ) (options : List (List ℕ)) → is_plain name ≡ true → list_all is_plain options ≡ true
    → slice_split ends_part (name ++ behind_name options) ≡ name ∷ options
split_behind name [] h k = ap (slice_split ends_part) (append-nil name)
    ∙ slice_split_none ends_part name (lacking ends_part name (no_end_in name h))
split_behind name (option ∷ options) h k =
    slice_split_at ends_part name 58 (join_with_byte 44 (option ∷ options)) (lacking ends_part name (no_end_in name h)) refl
    ∙ ap (λ rest. name ∷ rest) (split_joined ends_part 44 refl option options (ends_in_none (option ∷ options) k))

-- the parts of a name with options are the name and the options
parts_back : (name : List ℕ) (config : Config) → is_name name ≡ true → IsConfig config
    → slice_split ends_part (name ++ config_text (Some config)) ≡ name ∷ option_words config
parts_back name config h k = split_behind name (option_words config) (name_plain name h) (options_plain (settings config) (settings_fit config k))

-- ---- what no byte of a plain text is stands nowhere in an entry, if it is no colon and no comma

joined_lacks : (p : ℕ → Bool) → p 44 ≡ true → ((text : List ℕ) → is_plain text ≡ true → list_all p text ≡ true)
    → (word : List ℕ) (words : List (List ℕ))
    → list_all is_plain (word ∷ words) ≡ true → list_all p (join_with_byte 44 (word ∷ words)) ≡ true
joined_lacks p comma plain word [] h = plain word (and_parts _ _ h).0
joined_lacks p comma plain word (next ∷ words) h =
    list_all-append p word (44 ∷ join_with_byte 44 (next ∷ words))
    ∙ and_from _ _ (plain word (and_parts _ _ h).0) (and_from _ _ comma (joined_lacks p comma plain next words (and_parts _ _ h).1))

behind_lacks : (p : ℕ → Bool) → p 58 ≡ true → p 44 ≡ true → ((text : List ℕ) → is_plain text ≡ true → list_all p text ≡ true)
    → (options : List (List ℕ))
    → list_all is_plain options ≡ true → list_all p (behind_name options) ≡ true
behind_lacks p colon comma plain [] h = refl
behind_lacks p colon comma plain (option ∷ options) h = and_from _ _ colon (joined_lacks p comma plain option options h)

served_lacks : (p : ℕ → Bool) → p 58 ≡ true → p 44 ≡ true → ((text : List ℕ) → is_plain text ≡ true → list_all p text ≡ true)
    → (name : List ℕ) (config : Config)
    → is_name name ≡ true → IsConfig config → list_all p (name ++ config_text (Some config)) ≡ true
served_lacks p colon comma plain name config h k =
    list_all-append p name (behind_name (option_words config))
    ∙ and_from _ _ (plain name (name_plain name h))
    (behind_lacks p colon comma plain (option_words config) (options_plain (settings config) (settings_fit config k)))

-- ---- an entry is read back

-- a name with options does not end with `!`
served_unmarked : (name : List ℕ) (config : Config) → is_name name ≡ true → IsConfig config
    → (before : List ℕ) → name ++ config_text (Some config) ≡ before ++ codes "!" → ⊥
served_unmarked name config h k before e =
    let lacks_mark : list_all is_no_mark (name ++ config_text (Some config)) ≡ true =
    served_lacks is_no_mark refl refl no_mark_in name config h k in
    let at_end : list_all is_no_mark (before ++ codes "!") ≡ true = sym (ap (list_all is_no_mark) e) ∙ lacks_mark in
    let last = and_parts (list_all is_no_mark before) (list_all is_no_mark (codes "!"))
    (sym (list_all-append is_no_mark before (codes "!")) ∙ at_end) in
    let no : false ≡ true = last.1 in
    cc no

-- an entry that couldn't be read is read back from what stands before its `!`
pub unread_back : (found name word : List ℕ) → word ≡ name ++ codes "!" → (is_name name ≡ true → found ≡ name)
    → (e : Entry) → IsEntry e → word ≡ entry_text e → record { name = found; config = None } ≡ e
unread_back found name word marked reads e h spelled = by e.config refl
  where
    by : (config : Option Config) → e.config ≡ config → record { name = found; config = None } ≡ e
    by None is =
        let same : name ≡ e.name = append_cancel_right name e.name (codes "!") (sym marked ∙ (spelled ∙ ap (λ c. e.name ++ config_text c) is)) in
        let same_name : found ≡ e.name = reads (ap is_name same ∙ h.0) ∙ same in
        λ k. record { name = same_name k; config = sym is k }
    by (Some config) is =
        let fits : IsConfig config = let known = h.1 in rw is at known in
        absurd (served_unmarked e.name config h.0 fits name (sym (ap (λ c. e.name ++ config_text c) is) ∙ (sym spelled ∙ marked)))

-- any other entry is read back, its name and its configuration each from its parts
pub entry_read : (name : List ℕ) (config : Config) (word w0 : List ℕ) (rest parts : List (List ℕ))
    → ((before : List ℕ) → word ≢ before ++ codes "!")
    → parts ≡ slice_split ends_part word → w0 ≡ slice_index_or parts 0 [] → rest ≡ drop 1 parts
    → (is_name w0 ≡ true → name ≡ w0) → ((c : Config) → IsConfig c → rest ≡ option_words c → config ≡ c)
    → (e : Entry) → IsEntry e → word ≡ entry_text e → record { name = name; config = Some config } ≡ e
entry_read name config word w0 rest parts unmarked cut e0 er reads_name reads_config e h spelled = by e.config refl
  where
    by : (known : Option Config) → e.config ≡ known → record { name = name; config = Some config } ≡ e
    by None is = absurd (unmarked e.name (spelled ∙ ap (λ c. e.name ++ config_text c) is))
    by (Some known) is =
        let fits : IsConfig known = let all = h.1 in rw is at all in
        let text : word ≡ e.name ++ config_text (Some known) = spelled ∙ ap (λ c. e.name ++ config_text c) is in
        let words : parts ≡ e.name ∷ option_words known = cut ∙ (ap (slice_split ends_part) text ∙ parts_back e.name known h.0 fits) in
        let first : w0 ≡ e.name = e0 ∙ ap (λ ws. slice_index_or ws 0 []) words in
        let same_name : name ≡ e.name = reads_name (ap is_name first ∙ h.0) ∙ first in
        let same_config : Some config ≡ e.config = ap Some (reads_config known fits (er ∙ ap (drop 1) words)) ∙ sym is in
        λ k. record { name = same_name k; config = same_config k }

-- ---- an entry has no space

entry_no_space : (e : Entry) → IsEntry e → has_no_space (entry_text e) ≡ true
entry_no_space e h = by e.config refl
  where
    by : (config : Option Config) → e.config ≡ config → has_no_space (e.name ++ config_text config) ≡ true
    by None is =
        list_all-append is_no_space e.name (codes "!") ∙ and_from _ _ (no_space_in e.name (name_plain e.name h.0)) refl
    by (Some config) is =
        let fits : IsConfig config = let known = h.1 in rw is at known in
        served_lacks is_no_space refl refl no_space_in e.name config h.0 fits

pub entries_no_space : (entries : List Entry) → All IsEntry entries → list_all has_no_space (map entry_text entries) ≡ true
entries_no_space [] h = refl
entries_no_space (e ∷ entries) h = rw (entry_no_space e (All-head IsEntry e entries h)) (entries_no_space entries (All-tail IsEntry e entries h))
