-- Where reading a step stopped.
use Rattle.std.proofs.Common.{◌≡◌, ◌≢◌, ℕ, ◌+◌, ◌<◌, List, [], ◌∷◌, ◌++◌, All, length, take, refl, sym, subst, arith, inr, rules}
use Rattle.std.specs.Prelude.{Option, codes}
use Rattle.std.specs.Io.KnownBytes.{Consumes}
use Rattle.std.proofs.KnownBytes.{Consumes-trans}
use Rattle.std.proofs.Math.Seq.{take-append_seam}
use Rattle.std.proofs.lemmas.List.{length-append}
use Rattle.tree_core.specs.declared.input.Input.{Input}
use Rattle.s6_script.specs.Spelling.{Spells, spelling}
use Rattle.s6_replay.specs.Lines.{HasNoNewline}
use Rattle.s6_script.specs.Script.{Recorded, HasLine, HasLines, IsPrintable}
use Rattle.s6_replay.specs.ReadingStops.{Place, IsNoLine, StopsBehind, ReadsOn, lead}
use Rattle.s6_script.specs.Script.{input_limit, input_line, reply_record, step_lines}
use Rattle.s6_replay.specs.ReadingStops.{line_limit}
use Rattle.s6_replay.specs.ReadingStops.IsNoLine.{holds_other, too_long}
use Rattle.s6_replay.specs.ReadingStops.Place.{at_input, at_reply}
use Rattle.s6_replay.specs.Turn.{ReplyStops}
use Rattle.s6_script.specs.declared.version.Version.{Version}
use Rattle.s6_script.specs.declared.version.Version.TheVariants.{One, Two}
use Rattle.s6_replay.specs.declared.fault.ReplayFault.{ReplayFault}
use Rattle.s6_replay.specs.declared.fault.ReplayFault.TheVariants.{Head, Line, Pattern, Truncated, Read, Write, NoMemory}

-- a line that goes on beyond its limit
pub is_too_long : {A : Type 0} (p : Place A) (before : ℕ) (line : List ℕ) (b : ℕ) → before < input_limit → HasNoNewline line
    → length line ≡ line_limit p → IsNoLine p before (line ++ b ∷ [])
is_too_long p before line b room plain long =
    too_long room
    (subst (λ (n : ℕ). HasNoNewline (take n (line ++ b ∷ []))) long (subst HasNoNewline (sym (take-append_seam line (b ∷ []))) plain))
    (omega (arith, length-append line (b ∷ []), long))

-- a line that spells no input
pub is_no_spelling : (A : Type 0) (before : ℕ) (line : List ℕ) → before < input_limit → HasNoNewline line → length line < 65536
    → ((i : Input A) → Spells line i → ⊥) → IsNoLine {A = A} at_input before (line ++ 10 ∷ [])
is_no_spelling A before line room plain within none = holds_other room line plain within none refl

-- a line that holds no reply
pub is_no_reply : {A : Type 0} (i : Input A) (before : ℕ) (line : List ℕ) → before < input_limit → HasNoNewline line
    → length line < 262144
    → ((text : List ℕ) → text ≢ [] → All IsPrintable text → line ≡ codes "= " ++ text → ⊥)
    → IsNoLine (at_reply i) before (line ++ 10 ∷ [])
is_no_reply i before line room plain within none =
    holds_other room line plain within (λ text is e. none text is.some is.printable e) refl

-- what was read behind an input
behind : {A : Type 0} (i : Input A) (a b c : Option (List ℕ)) (bytes : List ℕ) → Consumes a b (input_line i) → Consumes b c bytes
    → ReadsOn [] (at_reply i) bytes a c
behind i a b c bytes p q = Consumes-trans a b c (input_line i) bytes p q

-- an input was read, and its reply was not
pub stops_at_reply : (A : Type 0) (before : ℕ) (fault : ReplayFault) (i : Input A) (a b c : Option (List ℕ)) → before < input_limit
    → HasLine i → Consumes a b (input_line i) → ReplyStops A fault before b c → StopsBehind A Two before fault [] a c
stops_at_reply A before (Line n) i a b c room h p t = (at_reply i, h, t.0, (t.1.0, t.1.1 i, behind i a b c t.1.0 p t.1.2))
stops_at_reply A before Truncated i a b c room h p t = (at_reply i, h, room, t.0, (t.1.0, t.1.1, tt, behind i a b c t.1.0 p t.1.2))
stops_at_reply A before Read i a b c room h p t =
    (at_reply i, h, omega arith, (t.0, t.1, λ last. absurd (omega (arith, last)), behind i a b c t.0 p t.2))
stops_at_reply A before NoMemory i a b c room h p t = (at_reply i, h, room, (t.0, t.1, behind i a b c t.0 p t.2))
stops_at_reply A before Head i a b c room h p t = absurd t
stops_at_reply A before (Pattern n) i a b c room h p t = absurd t
stops_at_reply A before Write i a b c room h p t = absurd t

-- what was read ahead is read ahead of what stopped
module _ (A : Type 0) (version : Version) (before : ℕ) (ahead : List ℕ) (a b c : Option (List ℕ)) (p : Consumes a b ahead) where
  further : (bytes : List ℕ) → Consumes b c bytes → Consumes a c (ahead ++ bytes)
  further bytes q = Consumes-trans a b c ahead bytes p q

  pub stops_behind : (fault : ReplayFault) → StopsBehind A version before fault [] b c → StopsBehind A version before fault ahead a c
  stops_behind (Line n) t = (t.0, t.1, t.2, (t.3.0, t.3.1, further (lead t.0 ++ t.3.0) t.3.2))
  stops_behind (Pattern n) t = (t.0, t.1, (t.2.0, t.2.1, further (t.2.0 ++ 10 ∷ []) t.2.2))
  stops_behind Truncated t = (t.0, t.1, t.2, t.3, (t.4.0, t.4.1, t.4.2, further (lead t.0 ++ t.4.0) t.4.3))
  stops_behind Read t = (t.0, t.1, t.2, (t.3.0, t.3.1, t.3.2, further (lead t.0 ++ t.3.0) t.3.3))
  stops_behind NoMemory t = (t.0, t.1, t.2, (t.3.0, t.3.1, further (lead t.0 ++ t.3.0) t.3.2))
  stops_behind Head t = t
  stops_behind Write t = t

-- printable bytes are no newlines
plain_text : (text : List ℕ) → All IsPrintable text → HasNoNewline text
plain_text text printable = λ k d lt is. omega (arith, is, (printable k d lt).0)

-- all lines of a step were read: a whole line is within its limit
pub whole_step : {A : Type 0} (version : Version) (before : ℕ) (s : Recorded A) (a c : Option (List ℕ)) → before < input_limit
    → HasLines version s → HasNoNewline (spelling s.input) → Consumes a c (step_lines version s)
    → StopsBehind A version before NoMemory [] a c
whole_step One before s a c room h plain read = (
  at_input,
  tt,
  room,
  (
    input_line s.input,
    inr (spelling s.input, plain, omega (arith, h.within, length-append (spelling s.input) (10 ∷ [])), refl),
    read,
  ),
)
whole_step Two before s a c room h plain read =
    let line = codes "= " ++ s.reply in
    let long : length (reply_record s.reply) ≡ length line + 1 = length-append line (10 ∷ []) in (
      at_reply s.input,
      h.0,
      room,
      (
        reply_record s.reply,
        inr (line, plain_text line (printable_line s.reply h.1.printable), omega (arith, h.1.within, long), refl),
        read,
      ),
    )
  where
    printable_line : (text : List ℕ) → All IsPrintable text → All IsPrintable (codes "= " ++ text)
    printable_line text p = search (p, rules)
