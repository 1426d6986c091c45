-- What was read from the words of an act, before its pattern is built.
use Rattle.std.specs.Prelude.{IsTrue, string_bytes}
use Rattle.s6_events.specs.Name.{is_name}
use Rattle.tree_core.specs.declared.input.Act.{Act}
use Rattle.tree_core.specs.declared.input.Act.TheVariants.{Subscribe}
use Rattle.event_directory.specs.declared.pattern_fault.PatternFault.{PatternFault}
use Rattle.event_directory.specs.declared.pattern_fault.PatternFault.TheVariants as fault
use Rattle.s6_script.specs.declared.parse.LineFault.{LineFault}
use Rattle.s6_script.specs.declared.parse.LineFault.TheVariants as line
use Rattle.s6_script.specs.declared.unbuilt.UnbuiltAct.{UnbuiltAct}
use Rattle.s6_script.specs.declared.unbuilt.UnbuiltAct.TheVariants as unbuilt
use Rattle.s6_script.specs.Spelling.{HasExpression, IsAct}
use Rattle.s6_script.specs.Verb.{target_name}

-- the act that was read; its pattern has the text that was read
abbrev pub act_read : {A : Type 0} → UnbuiltAct A → Act A
act_read (unbuilt.Whole act) = act
act_read (unbuilt.Subscribe target text repeats) = Subscribe target (string_bytes text) repeats

-- a whole act has a spelling, and a pattern in it is one that `regex` reads; a subscription would have a spelling if its text were one that
-- a pattern may have
abbrev pub FitsButText : {A : Type 0} → UnbuiltAct A → Type 0
FitsButText (unbuilt.Whole act) = IsAct act × HasExpression act
FitsButText (unbuilt.Subscribe target text repeats) = IsTrue (is_name (target_name target))

-- what is wrong with a line whose pattern was not built
abbrev pub pattern_line_fault : PatternFault → LineFault
pattern_line_fault fault.Length = line.Line
pattern_line_fault fault.Refused = line.Pattern
pattern_line_fault fault.NoMemory = line.NoMemory
