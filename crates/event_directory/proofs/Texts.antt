-- The texts of subscriptions, once a letter more has come.
use Rattle.std.proofs.Common.{◌≡◌, ℕ, suc, ◌≤◌, ◌==◌, List, [], ◌∷◌, ◌++◌, Bool, true, false, cond, length, drop, map, filter, All, bytes_eq}
use Rattle.std.proofs.Common.{option_map, None, Some, refl, sym, ap, ◌∙◌, arith}
use Rattle.std.specs.List.{cons_option, list_any}
use Rattle.std.proofs.lemmas.Bool.{false≢true}
use Rattle.std.proofs.lemmas.List.{append-nil, drop-append-le, length-append}
use Rattle.std.proofs.lemmas.List.Elements.{filter_map-append}
use Rattle.std.proofs.lemmas.Slice.Eq.{bytes_eq-Decides}
use Rattle.s6_events.specs.Mark.{letter_of}
use Rattle.s6_events.specs.Newest.{mark_of}
use Rattle.s6_events.specs.declared.mark.Mark.{Mark}
use Rattle.s6_events.specs.declared.moment.Moment.{Moment}
use Rattle.s6_events.specs.declared.moment.Moment.TheVariants.{Clock, Event}
use Rattle.event_directory.specs.Directories.{WrittenDirectories, FreeDirectory, WrittenSubscription, is_same_source, letters_of, sent_to}
use Rattle.event_directory.specs.Directories.{text_from, place_now, with_text, directories_after_moment, free_with_letter, after_sent}
use Rattle.event_directory.specs.Sending.{with_more_text}
use Rattle.event_directory.specs.declared.source.Source.{Source}
use Rattle.event_directory.specs.declared.source.Source.TheVariants.{Service, Directory}
use Rattle.event_directory.proofs.Sources.{is_same_true, is_same-sym}

-- what a letter of one source is to another
abbrev pub letter_for : Source → Source → ℕ → List ℕ
letter_for s of x = cond (is_same_source s of) (x ∷ []) []

-- each text has these letters more
abbrev pub Grow : WrittenDirectories → WrittenDirectories → (Source → List ℕ) → Type 0
Grow d new letters = (s : Source) (place : ℕ) → place ≤ place_now s d → text_from s place new ≡ text_from s place d ++ letters s

-- no place is past its source
abbrev pub ArePlaced : WrittenDirectories → List WrittenSubscription → Type 0
ArePlaced d ps = All (λ p. p.place ≤ place_now p.source d) ps

placed_rest : (d : WrittenDirectories) (p : WrittenSubscription) (ps : List WrittenSubscription) → ArePlaced d (p ∷ ps) → ArePlaced d ps
placed_rest d p ps all = λ k q lt. all (suc k) q (omega arith)

text_grown : (d new : WrittenDirectories) (letters : Source → List ℕ) → Grow d new letters → (s : Source) (p : WrittenSubscription)
    → is_same_source s p.source ≡ true → p.place ≤ place_now p.source d →
    text_from p.source p.place new ≡ text_from p.source p.place d ++ letters s
text_grown d new letters grow s p e le =
    grow p.source p.place le ∙ ap (λ t. text_from p.source p.place d ++ letters t) (sym (is_same_true s p.source e))

hearing_by : (d new : WrittenDirectories) (letters : Source → List ℕ) → Grow d new letters
    → (s : Source) (p : WrittenSubscription) (ps : List WrittenSubscription) (b : Bool) → is_same_source s p.source ≡ b
    → p.place ≤ place_now p.source d →
    map (with_text new) ps ≡ map (with_more_text (letters s)) (map (with_text d) ps) →
    map (with_text new) (cond b (p ∷ ps) ps) ≡ map (with_more_text (letters s)) (map (with_text d) (cond b (p ∷ ps) ps))
hearing_by d new letters grow s p ps true e le rest = λ i.
    record { id = p.id; pattern = p.pattern; repeats = p.repeats; text = text_grown d new letters grow s p e le i } ∷ rest i
hearing_by d new letters grow s p ps false e le rest = rest

pub hearing_grown : (d new : WrittenDirectories) (letters : Source → List ℕ) → Grow d new letters → (s : Source) (ps : List WrittenSubscription)
    → ArePlaced d ps →
    map (with_text new) (filter (λ p. is_same_source s p.source) ps)
    ≡ map (with_more_text (letters s)) (map (with_text d) (filter (λ p. is_same_source s p.source) ps))
hearing_grown d new letters grow s [] all = refl
hearing_grown d new letters grow s (p ∷ ps) all =
    hearing_by d new letters grow s p (filter (λ p. is_same_source s p.source) ps) (is_same_source s p.source) refl (all 0 p (omega arith))
    (hearing_grown d new letters grow s ps (placed_rest d p ps all))

-- a moment of a service
abbrev pub moment_letters : Moment → Source → List ℕ
moment_letters (Clock at) s = []
moment_letters (Event sid mark) s = letter_for s (Service sid) (letter_of mark)

one_letter_by : (mark : Mark) (b : Bool) → cons_option (option_map letter_of (cond b (Some mark) None)) [] ≡ cond b (letter_of mark ∷ []) []
one_letter_by mark true = refl
one_letter_by mark false = refl

one_letter : (sid : ℕ) (m : Moment) → letters_of sid (m ∷ []) ≡ moment_letters m (Service sid)
one_letter sid (Clock at) = refl
one_letter sid (Event of mark) = one_letter_by mark (of == sid) ∙ ap (λ b. cond b (letter_of mark ∷ []) []) (is_same-sym (Service of) (Service sid))

not_free : (m : Moment) (name : List ℕ) → moment_letters m (Directory name) ≡ []
not_free (Clock at) name = refl
not_free (Event sid mark) name = refl

pub moment_grows : (d : WrittenDirectories) (m : Moment) → Grow d (directories_after_moment d m) (moment_letters m)
moment_grows d m (Service sid) place le =
    ap (letters_of sid) (drop-append-le place d.history (m ∷ []) le)
    ∙ filter_map-append (λ m. option_map letter_of (mark_of sid m)) (drop place d.history) (m ∷ [])
    ∙ ap (λ l. letters_of sid (drop place d.history) ++ l) (one_letter sid m)
moment_grows d m (Directory name) place le =
    sym (append-nil _) ∙ ap (λ l. drop place (sent_to name d.free) ++ l) (sym (not_free m name))

pub moment_places : (d : WrittenDirectories) (m : Moment) (s : Source) → place_now s d ≤ place_now s (directories_after_moment d m)
moment_places d m (Service sid) = omega (arith, length-append d.history (m ∷ []))
moment_places d m (Directory name) = omega arith

-- a letter to a free directory
abbrev pub names_of : List FreeDirectory → List (List ℕ)
names_of free = map (λ f. f.name) free

named_by : (x : ℕ) (f : FreeDirectory) (b : Bool) → (cond b (record f { letters = f.letters ++ x ∷ [] }) f).name ≡ f.name
named_by x f true = refl
named_by x f false = refl

pub same_names : (name : List ℕ) (x : ℕ) (free : List FreeDirectory) → names_of (map (free_with_letter name x) free) ≡ names_of free
same_names name x [] = refl
same_names name x (f ∷ fs) = λ i. named_by x f (bytes_eq name f.name) i ∷ same_names name x fs i

other_by : (n name : List ℕ) (x : ℕ) (f : FreeDirectory) (new old : List ℕ) (b : Bool) → bytes_eq name f.name ≡ b → bytes_eq n name ≡ false
    → new ≡ old →
    cond (bytes_eq n (cond b (record f { letters = f.letters ++ x ∷ [] }) f).name)
    (cond b (record f { letters = f.letters ++ x ∷ [] }) f).letters new ≡ cond (bytes_eq n f.name) f.letters old
other_by n name x f new old true e not rest =
    let other : bytes_eq n f.name ≡ false = ap (bytes_eq n) (sym ((bytes_eq-Decides name f.name).0 e)) ∙ not in
    rw other rest
other_by n name x f new old false e not rest = ap (cond (bytes_eq n f.name) f.letters) rest

sent_other : (n name : List ℕ) (x : ℕ) (free : List FreeDirectory) → bytes_eq n name ≡ false
    → sent_to n (map (free_with_letter name x) free) ≡ sent_to n free
sent_other n name x [] not = refl
sent_other n name x (f ∷ fs) not = other_by n name x f _ _ (bytes_eq name f.name) refl not (sent_other n name x fs not)

same_by : (name : List ℕ) (x : ℕ) (f : FreeDirectory) (new old : List ℕ) (b : Bool) → bytes_eq name f.name ≡ b → (b ≡ false → new ≡ old ++ x ∷ []) →
    cond (bytes_eq name (cond b (record f { letters = f.letters ++ x ∷ [] }) f).name)
    (cond b (record f { letters = f.letters ++ x ∷ [] }) f).letters new ≡ cond (bytes_eq name f.name) f.letters old ++ x ∷ []
same_by name x f new old true e rest = rw e refl
same_by name x f new old false e rest = rw e (rest refl)

sent_same : (name : List ℕ) (x : ℕ) (free : List FreeDirectory) → list_any (λ f. bytes_eq name f.name) free ≡ true
    → sent_to name (map (free_with_letter name x) free) ≡ sent_to name free ++ x ∷ []
sent_same name x [] has = absurd (false≢true has)
sent_same name x (f ∷ fs) has =
    same_by name x f _ _ (bytes_eq name f.name) refl (λ e. sent_same name x fs (rw e at has))

sent_by : (n name : List ℕ) (x : ℕ) (free : List FreeDirectory) (b : Bool) → bytes_eq n name ≡ b
    → list_any (λ f. bytes_eq name f.name) free ≡ true →
    sent_to n (map (free_with_letter name x) free) ≡ sent_to n free ++ cond b (x ∷ []) []
sent_by n name x free true e has = let same : n ≡ name = (bytes_eq-Decides n name).0 e in rw same (sent_same name x free has)
sent_by n name x free false e has = sent_other n name x free e ∙ sym (append-nil _)

pub sent_more : (n name : List ℕ) (x : ℕ) (free : List FreeDirectory) → list_any (λ f. bytes_eq name f.name) free ≡ true →
    sent_to n (map (free_with_letter name x) free) ≡ sent_to n free ++ cond (bytes_eq n name) (x ∷ []) []
sent_more n name x free has = sent_by n name x free (bytes_eq n name) refl has

pub letter_grows : (name : List ℕ) (x : ℕ) (d : WrittenDirectories) → list_any (λ f. bytes_eq name f.name) d.free ≡ true
    → Grow d (after_sent name d x) (λ s. letter_for s (Directory name) x)
letter_grows name x d has (Service sid) place le = sym (append-nil _)
letter_grows name x d has (Directory n) place le =
    ap (drop place) (sent_more n name x d.free has) ∙ drop-append-le place (sent_to n d.free) (cond (bytes_eq n name) (x ∷ []) []) le

pub letter_places : (name : List ℕ) (x : ℕ) (d : WrittenDirectories) → list_any (λ f. bytes_eq name f.name) d.free ≡ true → (s : Source)
    → place_now s d ≤ place_now s (after_sent name d x)
letter_places name x d has (Service sid) = omega arith
letter_places name x d has (Directory n) =
    omega (arith, ap length (sent_more n name x d.free has), length-append (sent_to n d.free) (cond (bytes_eq n name) (x ∷ []) []))

-- a new free directory has no letter
none_by : (b : Bool) → ◌≡◌ {A = List ℕ} (cond b [] []) []
none_by true = refl
none_by false = refl

pub sent_new : (n name : List ℕ) (free : List FreeDirectory) → sent_to n (free ++ record { name = name; letters = [] } ∷ []) ≡ sent_to n free
sent_new n name [] = none_by (bytes_eq n name)
sent_new n name (f ∷ fs) = ap (cond (bytes_eq n f.name) f.letters) (sent_new n name fs)
