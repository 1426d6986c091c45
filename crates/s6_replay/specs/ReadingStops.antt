-- Where reading a script stops.
use Rattle.std.specs.Prelude.{◌≡◌, ◌≢◌, ℕ, ◌+◌, ◌*◌, ◌<◌, ◌≤◌, List, [], ◌∷◌, ◌++◌, length, take, codes, Option, Some, ⊤}
use Rattle.std.specs.Io.KnownBytes.{Consumes, IsAtEnd}
use Rattle.tree_core.specs.declared.input.Input.{Input}
use Rattle.s6_replay.specs.Lines.{HasNoNewline, IsPart, IsWithinLine}
use Rattle.s6_script.specs.Spelling.{Spells, SpellsButForPattern}
use Rattle.s6_script.specs.declared.version.Version.{Version}
use Rattle.s6_script.specs.declared.version.Version.TheVariants.{One, Two}
use Rattle.s6_replay.specs.declared.fault.ReplayFault.{ReplayFault}
use Rattle.s6_replay.specs.declared.fault.ReplayFault.TheVariants.{Head, Line, Pattern, Truncated, Read, Write}
use Rattle.s6_replay.specs.declared.fault.ReplayFault.TheVariants.{NoMemory}
use Rattle.s6_script.specs.Script.{head_line, input_limit, input_line, HasLine, IsReplyText}

-- which line comes after some whole steps: that of an input, or that of the reply to an input that was read
pub data Place (A : Type 0) : Type 0 where
  at_input : Place A
  at_reply : Input A → Place A

-- such a line comes in a script of this version
abbrev pub Comes : {A : Type 0} → Version → Place A → Type 0
Comes version at_input = ⊤
Comes One (at_reply i) = ⊥
Comes Two (at_reply i) = HasLine i

-- what of its step comes before the line
abbrev pub lead : {A : Type 0} → Place A → List ℕ
lead at_input = []
lead (at_reply i) = input_line i

-- the most bytes of the line, with its newline
abbrev pub line_limit : {A : Type 0} → Place A → ℕ
line_limit at_input = 65536
line_limit (at_reply i) = 262144

-- the number of the input line after `before` steps; the head line is line 1
abbrev pub input_line_number : Version → ℕ → ℕ
input_line_number One before = before + 2
input_line_number Two before = before * 2 + 2

-- the number of the line after `before` steps; in version 2 a reply line comes behind each input line
abbrev pub line_number : {A : Type 0} → Version → Place A → ℕ → ℕ
line_number version at_input before = input_line_number version before
line_number version (at_reply i) before = before * 2 + 3

-- a line, without its newline, that doesn't belong there: it spells no input, or holds no reply
abbrev pub IsOther : {A : Type 0} → Place A → List ℕ → Type 0
IsOther {A} at_input line = (i : Input A) → Spells line i → ⊥
IsOther (at_reply i) line = (text : List ℕ) → IsReplyText text → line ≡ codes "= " ++ text → ⊥

-- bytes that are no line there after `before` steps. Where a further line may come: a line that holds something else, or one that is too
-- long. After the last line that a script may have: any byte
pub data IsNoLine {A : Type 0} (p : Place A) (before : ℕ) (bytes : List ℕ) : Type 0 where
  holds_other : before < input_limit → (line : List ℕ) → HasNoNewline line → length line < line_limit p → IsOther p line
      → bytes ≡ line ++ 10 ∷ [] → IsNoLine p before bytes
  too_long : before < input_limit → HasNoNewline (take (line_limit p) bytes) → length bytes ≡ line_limit p + 1
      → IsNoLine p before bytes
  too_many : p ≡ at_input → before ≡ input_limit → length bytes ≡ 1 → IsNoLine p before bytes

-- a line, within the limit, that spells a subscription; `regex` may refuse its pattern
pub record IsLineButForPattern (A : Type 0) (line : List ℕ) : Type 0 where
  pub plain : HasNoNewline line
  pub within : length line ≤ 65535
  pub but_for_pattern : SpellsButForPattern A line

-- the input may not end there: a line has begun, or a reply line has to come
abbrev pub IsOwed : {A : Type 0} → Place A → List ℕ → Type 0
IsOwed at_input line = line ≢ []
IsOwed (at_reply i) line = ⊤

-- `ahead` was read, then what of the step comes before the line, and then these bytes
abbrev pub ReadsOn : {A : Type 0} → List ℕ → Place A → List ℕ → Option (List ℕ) → Option (List ℕ) → Type 0
ReadsOn ahead p bytes left left' = Consumes left left' (ahead ++ (lead p ++ bytes))

-- where reading stopped after `before` steps, for which `ahead` was read. Then came no more than a part of one line, perhaps a reply line
-- behind its whole input line; at NoMemory it may be the whole line, at Pattern it is
abbrev pub StopsBehind : (A : Type 0) → Version → ℕ → ReplayFault → List ℕ → (left left' : Option (List ℕ)) → Type 0
StopsBehind A version before (Line n) ahead left left' =
    (p : Place A) × Comes version p × (n ≡ line_number version p before)
    × ((bytes : List ℕ) × IsNoLine p before bytes × ReadsOn ahead p bytes left left')
StopsBehind A version before (Pattern n) ahead left left' =
    (before < input_limit) × (n ≡ input_line_number version before)
    × ((line : List ℕ) × IsLineButForPattern A line × Consumes left left' (ahead ++ (line ++ 10 ∷ [])))
StopsBehind A version before Truncated ahead left left' =
    (p : Place A) × Comes version p × (before < input_limit) × IsAtEnd left'
    × ((line : List ℕ) × IsPart (line_limit p) line × IsOwed p line × ReadsOn ahead p line left left')
StopsBehind A version before Read ahead left left' =
    (p : Place A) × Comes version p × (before ≤ input_limit)
    × ((part : List ℕ) × IsPart (line_limit p) part × (before ≡ input_limit → lead p ++ part ≡ [])
    × ReadsOn ahead p part left left')
StopsBehind A version before NoMemory ahead left left' =
    (p : Place A) × Comes version p × (before < input_limit)
    × ((bytes : List ℕ) × IsWithinLine (line_limit p) bytes × ReadsOn ahead p bytes left left')
StopsBehind A version before Head ahead left left' = ⊥
StopsBehind A version before Write ahead left left' = ⊥

-- the input does not begin with this head line
abbrev pub BeginsOtherwise : Version → Option (List ℕ) → Type 0
BeginsOtherwise version left = (rest : List ℕ) → left ≢ Some (head_line version ++ rest)

-- some of a head line, or none, was read, from the front on, and nothing else
abbrev pub ReadsHead : Option (List ℕ) → Option (List ℕ) → Type 0
ReadsHead left left' = (version : Version) × ((n : ℕ) × Consumes left left' (take n (head_line version)))
