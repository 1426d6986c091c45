-- An act that is read word for word is the one that its words spell.
use Rattle.std.proofs.Common.{◌≡◌, ◌∙◌, ℕ, ◌^◌, ◌<◌, List, [], ◌∷◌, ◌++◌, refl, ap, sym, arith, length, true, false}
use Rattle.std.specs.Prelude.{bytes_eq, codes, decimal, nat_lt, slice_index_or}
use Rattle.std.proofs.lemmas.Bool.{false≢true}
use Rattle.std.proofs.lemmas.Bool.Decides.{nat_tests}
use Rattle.s6_events.specs.declared.exit.Exit.{Exit}
use Rattle.s6_events.specs.declared.exit.Exit.TheVariants.{Code, Killed}
use Rattle.tree_core.specs.declared.input.Act.{Act}
use Rattle.tree_core.specs.declared.input.Act.TheVariants.{Scan, Scanctl, Svc, Started, StartFailed, Notify, Death, FinishEnded, Status, Tally}
use Rattle.tree_core.specs.declared.input.Act.TheVariants.{Permafailon, Wait, Cancel, Subscribe, Unsubscribe, Send, MakeDir, Tick}
use Rattle.std.proofs.lemmas.List.{append-nil}
use Rattle.s6_script.specs.ReadActs.{is_read}
use Rattle.s6_script.specs.Spelling.{IsAct, IsExit, act_words}
use Rattle.s6_script.specs.Verb.{exit_words}
use Rattle.s6_script.proofs.Numbers.{digits_back}

-- two numbers with one spelling are one
decimal_once : (m n : ℕ) → m < 2 ^ 64 → n < 2 ^ 64 → decimal m ≡ decimal n → m ≡ n
decimal_once m n low small same = sym (digits_back m (decimal m) low refl).1 ∙ (digits_back n (decimal m) small same).1

exit_once : (d e : Exit) → IsExit d → IsExit e → exit_words d ≡ exit_words e → d ≡ e
exit_once (Code m) (Code n) low small same = ap Code (decimal_once m n (omega (arith, low)) (omega (arith, small)) (cc same))
exit_once (Killed m) (Killed n) low small same = ap Killed (decimal_once m n (omega (arith, low)) (omega (arith, small)) (cc same))
exit_once (Code m) (Killed n) low small same = cc same
exit_once (Killed m) (Code n) low small same = cc same

-- words whose first is this, and words whose first is another
other : {P : Type 0} (word : List ℕ) (ones others : List (List ℕ)) → bytes_eq (slice_index_or ones 0 []) word ≡ true
    → bytes_eq (slice_index_or others 0 []) word ≡ false → ones ≡ others → P
other word ones others is differs same = absurd (false≢true (sym differs ∙ (ap (λ ws. bytes_eq (slice_index_or ws 0 []) word) (sym same) ∙ is)))

started_once : {A : Type 0} (sid generation pid : ℕ) → (act : Act A) → IsAct {A = A} (Started sid generation pid) → IsAct act
    → act_words {A = A} (Started sid generation pid) ≡ act_words act → Started sid generation pid ≡ act
started_once sid generation pid (Scan listing2) f h same = other (codes "started") _ _ refl refl same
started_once sid generation pid (Scanctl order2) f h same = other (codes "started") _ _ refl refl same
started_once sid generation pid (Svc name2 letters2) f h same = other (codes "started") _ _ refl refl same
started_once sid generation pid (Started s g p) f h same =
    λ i. Started (decimal_once sid s f.0 h.0 (cc same) i) (decimal_once generation g f.1 h.1 (cc same) i)
    (decimal_once pid p (omega (arith, f.3)) (omega (arith, h.3)) (cc same) i)
started_once sid generation pid (StartFailed sid2 generation2) f h same = other (codes "started") _ _ refl refl same
started_once sid generation pid (Notify sid2 generation2 bytes2) f h same = other (codes "started") _ _ refl refl same
started_once sid generation pid (Death sid2 generation2 exit2) f h same = other (codes "started") _ _ refl refl same
started_once sid generation pid (FinishEnded sid2 generation2 exit2) f h same = other (codes "started") _ _ refl refl same
started_once sid generation pid (Status name2) f h same = other (codes "started") _ _ refl refl same
started_once sid generation pid (Tally name2) f h same = other (codes "started") _ _ refl refl same
started_once sid generation pid (Permafailon name2 seconds2 count2 items2) f h same = other (codes "started") _ _ refl refl same
started_once sid generation pid (Wait condition2 mode2 timeout2 names2) f h same = other (codes "started") _ _ refl refl same
started_once sid generation pid (Cancel id2) f h same = other (codes "started") _ _ refl refl same
started_once sid generation pid (Subscribe target2 pattern2 repeats2) f h same = other (codes "started") _ _ refl refl same
started_once sid generation pid (Unsubscribe id2) f h same = other (codes "started") _ _ refl refl same
started_once sid generation pid (Send target2 message2) f h same = other (codes "started") _ _ refl refl same
started_once sid generation pid (MakeDir name2) f h same = other (codes "started") _ _ refl refl same
started_once sid generation pid Tick f h same = other (codes "started") _ _ refl refl same

death_once : {A : Type 0} (sid generation : ℕ) (exit : Exit) → (act : Act A) → IsAct {A = A} (Death sid generation exit) → IsAct act
    → act_words {A = A} (Death sid generation exit) ≡ act_words act → Death sid generation exit ≡ act
death_once sid generation exit (Scan listing2) f h same = other (codes "death") _ _ refl refl same
death_once sid generation exit (Scanctl order2) f h same = other (codes "death") _ _ refl refl same
death_once sid generation exit (Svc name2 letters2) f h same = other (codes "death") _ _ refl refl same
death_once sid generation exit (Started sid2 generation2 pid2) f h same = other (codes "death") _ _ refl refl same
death_once sid generation exit (StartFailed sid2 generation2) f h same = other (codes "death") _ _ refl refl same
death_once sid generation exit (Notify sid2 generation2 bytes2) f h same = other (codes "death") _ _ refl refl same
death_once sid generation exit (Death s g e) f h same =
    λ i. Death (decimal_once sid s f.0 h.0 (cc same) i) (decimal_once generation g f.1 h.1 (cc same) i) (exit_once exit e f.2 h.2 (cc same) i)
death_once sid generation exit (FinishEnded sid2 generation2 exit2) f h same = other (codes "death") _ _ refl refl same
death_once sid generation exit (Status name2) f h same = other (codes "death") _ _ refl refl same
death_once sid generation exit (Tally name2) f h same = other (codes "death") _ _ refl refl same
death_once sid generation exit (Permafailon name2 seconds2 count2 items2) f h same = other (codes "death") _ _ refl refl same
death_once sid generation exit (Wait condition2 mode2 timeout2 names2) f h same = other (codes "death") _ _ refl refl same
death_once sid generation exit (Cancel id2) f h same = other (codes "death") _ _ refl refl same
death_once sid generation exit (Subscribe target2 pattern2 repeats2) f h same = other (codes "death") _ _ refl refl same
death_once sid generation exit (Unsubscribe id2) f h same = other (codes "death") _ _ refl refl same
death_once sid generation exit (Send target2 message2) f h same = other (codes "death") _ _ refl refl same
death_once sid generation exit (MakeDir name2) f h same = other (codes "death") _ _ refl refl same
death_once sid generation exit Tick f h same = other (codes "death") _ _ refl refl same

tick_once : {A : Type 0} (act : Act A) → IsAct {A = A} Tick → IsAct act → act_words {A = A} Tick ≡ act_words act → Tick ≡ act
tick_once (Scan listing2) f h same = other (codes "tick") _ _ refl refl same
tick_once (Scanctl order2) f h same = other (codes "tick") _ _ refl refl same
tick_once (Svc name2 letters2) f h same = other (codes "tick") _ _ refl refl same
tick_once (Started sid2 generation2 pid2) f h same = other (codes "tick") _ _ refl refl same
tick_once (StartFailed sid2 generation2) f h same = other (codes "tick") _ _ refl refl same
tick_once (Notify sid2 generation2 bytes2) f h same = other (codes "tick") _ _ refl refl same
tick_once (Death sid2 generation2 exit2) f h same = other (codes "tick") _ _ refl refl same
tick_once (FinishEnded sid2 generation2 exit2) f h same = other (codes "tick") _ _ refl refl same
tick_once (Status name2) f h same = other (codes "tick") _ _ refl refl same
tick_once (Tally name2) f h same = other (codes "tick") _ _ refl refl same
tick_once (Permafailon name2 seconds2 count2 items2) f h same = other (codes "tick") _ _ refl refl same
tick_once (Wait condition2 mode2 timeout2 names2) f h same = other (codes "tick") _ _ refl refl same
tick_once (Cancel id2) f h same = other (codes "tick") _ _ refl refl same
tick_once (Subscribe target2 pattern2 repeats2) f h same = other (codes "tick") _ _ refl refl same
tick_once (Unsubscribe id2) f h same = other (codes "tick") _ _ refl refl same
tick_once (Send target2 message2) f h same = other (codes "tick") _ _ refl refl same
tick_once (MakeDir name2) f h same = other (codes "tick") _ _ refl refl same
tick_once Tick f h same = refl

pub read_once : {A : Type 0} (found act : Act A) → is_read found ≡ true → IsAct found → IsAct act → act_words found ≡ act_words act → found ≡ act
read_once (Scan listing) act is f h same = cc is
read_once (Scanctl order) act is f h same = cc is
read_once (Svc name letters) act is f h same = cc is
read_once (Started sid generation pid) act is f h same = started_once sid generation pid act f h same
read_once (StartFailed sid generation) act is f h same = cc is
read_once (Notify sid generation bytes) act is f h same = cc is
read_once (Death sid generation exit) act is f h same = death_once sid generation exit act f h same
read_once (FinishEnded sid generation exit) act is f h same = cc is
read_once (Status name) act is f h same = cc is
read_once (Tally name) act is f h same = cc is
read_once (Permafailon name seconds count items) act is f h same = cc is
read_once (Wait condition mode timeout names) act is f h same = cc is
read_once (Cancel id) act is f h same = cc is
read_once (Subscribe target pattern repeats) act is f h same = cc is
read_once (Unsubscribe id) act is f h same = cc is
read_once (Send target message) act is f h same = cc is
read_once (MakeDir name) act is f h same = cc is
read_once Tick act is f h same = tick_once act f h same

-- where no word is left, all were taken
none_left : (words : List (List ℕ)) → nat_lt 0 (length words) ≡ false → words ≡ []
none_left [] e = refl
none_left (word ∷ words) e = let some : 0 < length (word ∷ words) = omega arith in absurd (grind (arith, nat_tests, e, some))

-- where no word is left behind these, they are all
pub all_taken : (texts words left : List (List ℕ)) → texts ≡ words ++ left → nat_lt 0 (length left) ≡ false → texts ≡ words
all_taken texts words left e last = e ∙ (ap (λ ws. words ++ ws) (none_left left last) ∙ append-nil words)
