-- Where on a command line the wrong word is to be looked for.
use Rattle.tool_lines.specs.declared.culprit.Clue.{Clue}
use Rattle.tool_lines.specs.declared.culprit.Clue.TheVariants as clue
use Rattle.tool_lines.specs.declared.misuse.Misuse.{Misuse}
use Rattle.tool_lines.specs.declared.misuse.Misuse.TheVariants as misuse
use Rattle.tool_lines.specs.declared.tool.Tool.{Tool}
use Rattle.tool_lines.specs.declared.tool.Tool.TheVariants as tool
use Rattle.tool_lines.specs.declared.wrong_word.Wrong.{Wrong}
use Rattle.tool_lines.specs.declared.wrong_word.Wrong.TheVariants as wrong

abbrev pub strange_of : Tool → Wrong
strange_of tool.List = wrong.StrangeOption
strange_of tool.Follow = wrong.StrangeOption
strange_of t = wrong.Strange t

-- what else a tool doesn't take: a dash alone, or a word too many
abbrev pub spare_of : Tool → Clue
spare_of tool.Svc = clue.First wrong.Dash
spare_of tool.Svscanctl = clue.First wrong.Dash
spare_of tool.Svstat = clue.At 3
spare_of tool.Permafailon = clue.At 4
spare_of t = clue.Nowhere

abbrev pub excess_of : Tool → Clue × Clue
excess_of tool.Svc = (clue.Second wrong.Plain, clue.Nowhere)
excess_of tool.Svscanctl = (clue.First wrong.Plain, clue.Nowhere)
excess_of tool.Svwait = (clue.Second wrong.Condition, clue.Second wrong.Mode)
excess_of tool.Svlisten = (clue.Second wrong.Condition, clue.Second wrong.Mode)
excess_of tool.Record = (clue.At 0, clue.Nowhere)
excess_of tool.Mkfifodir = (clue.At 1, clue.Nowhere)
excess_of t = (clue.At 2, clue.Nowhere)

-- the value of `-t`; of `permafailon` the first of SECS and COUNT that is no number
abbrev pub number_clues : Tool → Clue × Clue
number_clues tool.Permafailon = (clue.AtIf 1 wrong.NoNumber, clue.At 2)
number_clues t = (clue.First (wrong.Valued 116), clue.Behind (wrong.Ended 116))

-- the value of `-o`; of `permafailon` the last word
abbrev pub list_clues : Tool → Clue × Clue
list_clues tool.Permafailon = (clue.At 3, clue.Nowhere)
list_clues t = (clue.First (wrong.Valued 111), clue.Behind (wrong.Ended 111))

abbrev pub name_clues : Tool → Clue × Clue
name_clues tool.Svstat = (clue.First wrong.NoSingleName, clue.Nowhere)
name_clues tool.Permafailon = (clue.At 0, clue.Nowhere)
name_clues tool.Mkfifodir = (clue.At 0, clue.Nowhere)
name_clues tool.FtrigNotify = (clue.At 0, clue.Nowhere)
name_clues tool.FtrigWait = (clue.At 0, clue.Nowhere)
name_clues t = (clue.First wrong.NoName, clue.Nowhere)

-- where to look for the wrong word, and where else
abbrev pub clues_of : Tool → Misuse → Clue × Clue
clues_of t misuse.Missing = (clue.Nowhere, clue.Nowhere)
clues_of t misuse.Empty = (clue.Nowhere, clue.Nowhere)
clues_of t misuse.Unknown = (clue.First (strange_of t), spare_of t)
clues_of t misuse.TooMany = excess_of t
clues_of t misuse.BadNumber = number_clues t
clues_of t misuse.BadList = list_clues t
clues_of t misuse.BadName = name_clues t
clues_of t misuse.BadMessage = (clue.At 1, clue.Nowhere)
clues_of t misuse.BadPattern = (clue.At 1, clue.Nowhere)

abbrev pub subject_clues : Tool → Clue × Clue
subject_clues tool.Svc = (clue.First wrong.Plain, clue.Nowhere)
subject_clues tool.Svstat = (clue.AtIf 0 wrong.Plain, clue.AtIf 2 wrong.Plain)
subject_clues tool.Svscanctl = (clue.Nowhere, clue.Nowhere)
subject_clues tool.Record = (clue.Nowhere, clue.Nowhere)
subject_clues tool.Svwait = (clue.Only wrong.Plain, clue.Only wrong.PlainNoNumber)
subject_clues tool.Svlisten = (clue.Only wrong.Plain, clue.Only wrong.PlainNoNumber)
subject_clues tool.List = (clue.Only wrong.Plain, clue.Nowhere)
subject_clues tool.Follow = (clue.Only wrong.Plain, clue.Nowhere)
subject_clues t = (clue.At 0, clue.Nowhere)
