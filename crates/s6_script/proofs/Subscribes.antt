-- A subscription and a message are read back from their spelling.
use Rattle.std.proofs.Common.{◌≡◌, ◌∙◌, ℕ, ◌<◌, List, [], ◌∷◌, ap, refl, arith, drop, rules}
use Rattle.std.specs.Prelude.{Bool, true, ◌&&◌, ◌==◌, nat_le, IsTrue, All, IsUtf8, length, slice_index_or, codes}
use Rattle.std.specs.List.{list_all, join_with_byte}
use Rattle.std.proofs.lemmas.Bool.{and_parts}
use Rattle.std.proofs.lemmas.Bool.Decides.{nat_tests}
use Rattle.std.proofs.lemmas.List.Elements.{All-nil, All-cons}
use Rattle.std.proofs.lemmas.List.Splits.{join_with_byte-slice_split}
use Rattle.std.proofs.lemmas.Str.{IsUtf8-from_ascii}
use Rattle.std.proofs.lemmas.Str.Ascii.{IsAscii-from_all}
use Rattle.event_directory.specs.Message.{is_message}
use Rattle.event_directory.specs.Pattern.{is_pattern_text}
use Rattle.s6_events.specs.Letter.{is_letter}
use Rattle.s6_events.specs.Name.{is_name}
use Rattle.tree_core.specs.declared.input.Act.{Act}
use Rattle.tree_core.specs.declared.input.Act.TheVariants.{Scan, Scanctl, Svc, Started, StartFailed, Notify, Death, FinishEnded, Status, Tally}
use Rattle.tree_core.specs.declared.input.Act.TheVariants.{Permafailon, Wait, Cancel, Subscribe, Unsubscribe, Send, MakeDir, Tick}
use Rattle.tree_core.specs.declared.input.Target.{Target}
use Rattle.s6_script.specs.declared.parse.Verb.TheVariants as verb
use Rattle.s6_script.specs.Spelling.{IsAct}
use Rattle.s6_script.specs.Verb.{target_word, target_name, how_word, text_words, verb_of_act, details}
use Rattle.s6_script.proofs.Joined.{is_no_space, has_no_space, split_lacks}
use Rattle.s6_script.proofs.Plain.{name_plain, no_space_in}

-- a subscription, where what is found is the one of these words
subscribe_read : {A : Type 0} (texts : List (List ℕ)) (found : Act A)
    → ((target : Target) (pattern : List ℕ) (repeats : Bool) → IsAct {A = A} (Subscribe target pattern repeats)
    → texts ≡ details {A = A} (Subscribe target pattern repeats) → found ≡ Subscribe target pattern repeats)
    → (act : Act A) → IsAct act → verb.Subscribe ≡ verb_of_act act → texts ≡ details act → found ≡ act
subscribe_read texts found reads (Scan entries) h v d = cc
subscribe_read texts found reads (Scanctl order) h v d = cc
subscribe_read texts found reads (Svc name letters) h v d = cc
subscribe_read texts found reads (Started sid generation pid) h v d = cc
subscribe_read texts found reads (StartFailed sid generation) h v d = cc
subscribe_read texts found reads (Notify sid generation bytes) h v d = cc
subscribe_read texts found reads (FinishEnded sid generation exit) h v d = cc
subscribe_read texts found reads (Death sid generation exit) h v d = cc
subscribe_read texts found reads (Status name) h v d = cc
subscribe_read texts found reads (Tally name) h v d = cc
subscribe_read texts found reads (Permafailon name seconds count items) h v d = cc
subscribe_read texts found reads (Wait condition mode timeout names) h v d = cc
subscribe_read texts found reads (Cancel id) h v d = cc
subscribe_read texts found reads (Subscribe target pattern repeats) h v d = reads target pattern repeats h d
subscribe_read texts found reads (Unsubscribe id) h v d = cc
subscribe_read texts found reads (Send target message) h v d = cc
subscribe_read texts found reads (MakeDir name) h v d = cc
subscribe_read texts found reads Tick h v d = cc

-- the words of a text, joined, are the text
text_back : (text pattern : List ℕ) (words : List (List ℕ)) → text ≡ join_with_byte 32 words → words ≡ text_words pattern → text ≡ pattern
text_back text pattern words joined spelled = joined ∙ (ap (join_with_byte 32) spelled ∙ join_with_byte-slice_split 32 pattern)

-- its parts are read, each from its words; the pattern is the rest of the line
pub subscribe_found : {A : Type 0} (texts left : List (List ℕ)) (target : Target) (pattern : List ℕ) (repeats : Bool) (how : List ℕ)
    (rest : List (List ℕ)) (text : List ℕ)
    → ((t : Target) → IsTrue (is_name (target_name t)) → slice_index_or texts 0 [] ≡ target_word t → slice_index_or texts 1 [] ≡ target_name t
    → target ≡ t)
    → left ≡ drop 2 texts → how ≡ slice_index_or left 0 [] → rest ≡ drop 1 left → text ≡ join_with_byte 32 rest
    → ((r : Bool) → how ≡ how_word r → repeats ≡ r)
    → (IsTrue (is_pattern_text text) → pattern ≡ text)
    → (act : Act A) → IsAct act → verb.Subscribe ≡ verb_of_act act → texts ≡ details act → Subscribe target pattern repeats ≡ act
subscribe_found {A} texts left target pattern repeats how rest text reads_target taken third behind joined reads_how reads_pattern =
    subscribe_read texts (Subscribe target pattern repeats) (λ t p r fits spelled.
    let same_target : target ≡ t = reads_target t fits.0 (ap (λ ws. slice_index_or ws 0 []) spelled) (ap (λ ws. slice_index_or ws 1 []) spelled) in
    let left_is = taken ∙ ap (drop 2) spelled in
    let same_repeats : repeats ≡ r = reads_how r (third ∙ ap (λ ws. slice_index_or ws 0 []) left_is) in
    let same_text : text ≡ p = text_back text p rest joined (behind ∙ ap (drop 1) left_is) in
    let same_pattern : pattern ≡ p = reads_pattern (ap is_pattern_text same_text ∙ fits.1) ∙ same_text in
    λ i. Subscribe (same_target i) (same_pattern i) (same_repeats i))

-- a message, where what is found is the one of these words
send_read : {A : Type 0} (texts : List (List ℕ)) (found : Act A)
    → ((target : Target) (message : List ℕ) → IsAct {A = A} (Send target message) → texts ≡ details {A = A} (Send target message)
    → found ≡ Send target message)
    → (act : Act A) → IsAct act → verb.Send ≡ verb_of_act act → texts ≡ details act → found ≡ act
send_read texts found reads (Scan entries) h v d = cc
send_read texts found reads (Scanctl order) h v d = cc
send_read texts found reads (Svc name letters) h v d = cc
send_read texts found reads (Started sid generation pid) h v d = cc
send_read texts found reads (StartFailed sid generation) h v d = cc
send_read texts found reads (Notify sid generation bytes) h v d = cc
send_read texts found reads (FinishEnded sid generation exit) h v d = cc
send_read texts found reads (Death sid generation exit) h v d = cc
send_read texts found reads (Status name) h v d = cc
send_read texts found reads (Tally name) h v d = cc
send_read texts found reads (Permafailon name seconds count items) h v d = cc
send_read texts found reads (Wait condition mode timeout names) h v d = cc
send_read texts found reads (Cancel id) h v d = cc
send_read texts found reads (Subscribe target pattern repeats) h v d = cc
send_read texts found reads (Unsubscribe id) h v d = cc
send_read texts found reads (Send target message) h v d = reads target message h d
send_read texts found reads (MakeDir name) h v d = cc
send_read texts found reads Tick h v d = cc

-- none of their words has a space
target_plain : (target : Target) → has_no_space (target_word target) ≡ true
target_plain target = search rules

how_plain : (repeats : Bool) → has_no_space (how_word repeats) ≡ true
how_plain repeats = search rules

pub subscribe_no_space : (target : Target) (pattern : List ℕ) (repeats : Bool) → IsTrue (is_name (target_name target))
    → list_all has_no_space (codes "subscribe" ∷ target_word target ∷ target_name target ∷ how_word repeats ∷ text_words pattern) ≡ true
subscribe_no_space target pattern repeats named =
    rw (target_plain target, no_space_in (target_name target) (name_plain (target_name target) named), how_plain repeats)
    (split_lacks (λ b. b == 32) pattern)

letter_no_space : (b : ℕ) → is_letter b ≡ true → is_no_space b ≡ true
letter_no_space b h = grind (arith, nat_tests)

letters_no_space : (text : List ℕ) → list_all is_letter text ≡ true → has_no_space text ≡ true
letters_no_space [] h = refl
letters_no_space (b ∷ text) h =
    let both = and_parts (is_letter b) (list_all is_letter text) h in
    rw (letter_no_space b both.0) (letters_no_space text both.1)

message_no_space : (message : List ℕ) → is_message message ≡ true → has_no_space message ≡ true
message_no_space message h =
    letters_no_space message (and_parts (nat_le 1 (length message) && nat_le (length message) 64) (list_all is_letter message) h).1

pub send_no_space : (target : Target) (message : List ℕ) → IsTrue (is_name (target_name target)) → IsTrue (is_message message)
    → list_all has_no_space (codes "send" ∷ target_word target ∷ target_name target ∷ message ∷ []) ≡ true
send_no_space target message named fits =
    rw (target_plain target, no_space_in (target_name target) (name_plain (target_name target) named), message_no_space message fits) refl

-- the text of a pattern is one of bytes below 128
is_ascii_byte : (b : ℕ) → (nat_le 0x20 b && nat_le b 0x7E) ≡ true → b < 128
is_ascii_byte b h = grind (arith, nat_tests)

all_ascii : (text : List ℕ) → list_all (λ b. nat_le 0x20 b && nat_le b 0x7E) text ≡ true → All (λ b. b < 128) text
all_ascii [] h = All-nil (λ b. b < 128)
all_ascii (b ∷ text) h =
    let both = and_parts (nat_le 0x20 b && nat_le b 0x7E) (list_all (λ c. nat_le 0x20 c && nat_le c 0x7E) text) h in
    All-cons (λ c. c < 128) b text (is_ascii_byte b both.0) (all_ascii text both.1)

pub pattern_is_text : (text : List ℕ) → IsTrue (is_pattern_text text) → IsUtf8 text
unfolding is_pattern_text
pattern_is_text text h =
    let bytes = (and_parts (nat_le 1 (length text) && nat_le (length text) 256) (list_all (λ b. nat_le 0x20 b && nat_le b 0x7E) text) h).1 in
    IsUtf8-from_ascii text (IsAscii-from_all text (all_ascii text bytes))
