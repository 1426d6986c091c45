-- The server's own answers, for which no step is made.
use Rattle.std.specs.Prelude.{ℕ, List, [], ◌∷◌, ◌++◌, codes, decimal}
use Rattle.server_rules.specs.declared.own_answer.OwnAnswer.{OwnAnswer}
use Rattle.server_rules.specs.declared.own_answer.OwnAnswer.TheVariants as own

-- a line, and the empty line behind it
abbrev pub own_text : OwnAnswer → List ℕ
own_text own.Line = codes "refused Line\n\n"
own_text own.Pattern = codes "refused Pattern\n\n"
own_text own.Full = codes "refused Full\n\n"
own_text own.Busy = codes "refused Busy\n\n"
own_text own.NoMemory = codes "refused NoMemory\n\n"
own_text own.Directory = codes "refused Directory\n\n"
own_text own.Record = codes "refused Record\n\n"

-- what answers `follow`
abbrev pub following_text : List ℕ
following_text = codes "done\n\n"

-- what answers `record`: how many steps the record has
abbrev pub recorded_text : ℕ → List ℕ
recorded_text steps = codes "recorded " ++ (decimal steps ++ (10 ∷ 10 ∷ []))

-- what answers `clock`: the time of day at which the tree's clock was 0, and the tree's clock, both in milliseconds; the first one
-- since 1970
abbrev pub clock_text : (since now : ℕ) → List ℕ
clock_text since now = codes "clock " ++ (decimal since ++ (32 ∷ (decimal now ++ (10 ∷ 10 ∷ []))))
