-- Scripts of both versions.
use Rattle.std.specs.Prelude.{◌≢◌, ℕ, ◌+◌, ◌≤◌, List, [], ◌∷◌, ◌++◌, All, length, map, codes}
use Rattle.std.specs.List.{flat_map}
use Rattle.tree_core.specs.declared.input.Input.{Input}
use Rattle.s6_script.specs.Spelling.{IsSpelt, HasExpression, spelling}
use Rattle.s6_script.specs.declared.version.Version.{Version}
use Rattle.s6_script.specs.declared.version.Version.TheVariants.{One, Two}

-- the head line of a script
abbrev pub head_line : Version → List ℕ
head_line One = codes "s6-script 1\n"
head_line Two = codes "s6-script 2\n"

-- the most inputs of a script
abbrev pub input_limit : ℕ
input_limit = 1000000

-- what a script has for a step: its input and, in version 2, the text of its reply
pub record Recorded (A : Type 0) : Type 0 where
  pub input : Input A
  pub reply : List ℕ

-- the line of an input, and that of a reply
abbrev pub input_line : {A : Type 0} → Input A → List ℕ
input_line i = spelling i ++ 10 ∷ []

abbrev pub reply_record : List ℕ → List ℕ
reply_record text = codes "= " ++ text ++ 10 ∷ []

-- the lines of a step
abbrev pub step_lines : {A : Type 0} → Version → Recorded A → List ℕ
step_lines One s = input_line s.input
step_lines Two s = input_line s.input ++ reply_record s.reply

-- the script of some steps: the head line, and the lines of each
abbrev pub script : {A : Type 0} → Version → List (Recorded A) → List ℕ
script version steps = head_line version ++ flat_map (step_lines version) steps

abbrev pub inputs_of : {A : Type 0} → List (Recorded A) → List (Input A)
inputs_of steps = map (λ s. s.input) steps

-- the input has a spelling, its line is within the limit, and its pattern, if it has one, is one that `regex` reads
pub record HasLine {A : Type 0} (i : Input A) : Type 0 where
  pub spelt : IsSpelt i
  pub within : length (input_line i) ≤ 65536
  pub expression : HasExpression i.act

-- a byte that is printed, or a space
abbrev pub IsPrintable : ℕ → Type 0
IsPrintable b = (32 ≤ b) × (b ≤ 126)

-- what a reply line may hold: some printable bytes, within the limit
pub record IsReplyText (text : List ℕ) : Type 0 where
  pub some : text ≢ []
  pub printable : All IsPrintable text
  pub within : length (reply_record text) ≤ 262144

-- a step that a script may have
abbrev pub HasLines : {A : Type 0} → Version → Recorded A → Type 0
HasLines One s = HasLine s.input
HasLines Two s = HasLine s.input × IsReplyText s.reply
