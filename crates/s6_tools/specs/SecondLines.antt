-- The second line on standard error of a tool that didn't do what it was asked for.
use Rattle.std.specs.Prelude.{ℕ, List, [], ◌∷◌, ◌++◌, Option, Some, None, codes}
use Rattle.tool_lines.specs.declared.misuse.Misuse.{Misuse}
use Rattle.tool_lines.specs.declared.tool.Tool.{Tool}
use Rattle.s6_tools.specs.declared.tool_fault.ToolFault.{ToolFault}
use Rattle.s6_tools.specs.declared.tool_fault.ToolFault.TheVariants as fault
use Rattle.tool_lines.specs.Culprits.{culprit_of, program_of, subject_of}
use Rattle.s6_tools.specs.Causes.{cause_before, cause_behind}
use Rattle.s6_tools.specs.FaultLines.{fault_line}
use Rattle.tool_lines.specs.ToolNames.{name_of}
use Rattle.tool_lines.specs.Sentences.{complaint_of, help_words, misuse_word, refusal_of_subject, refusal_of_tree, right_of, see_words, unnamed_of, unread_words}
use Rattle.tool_lines.specs.Told.{escaped, named}

-- what would be right, and where to read on
abbrev pub advice_text : Tool → Misuse → List ℕ
advice_text t m = codes ": " ++ (right_of t m ++ (see_words ++ (name_of t ++ help_words)))

-- what is wrong with the words of a tool: which word, what would be right, and where to read on
abbrev pub misuse_text : Tool → Misuse → Option (List ℕ) → List ℕ
misuse_text t m word =
    misuse_word m ++ (codes ": " ++ (named (unnamed_of m) word ++ (complaint_of t m ++ advice_text t m)))

-- what the reason of a refusal says, about the word that the request names or about the tree
abbrev pub refusal_by : Option (List ℕ) → List ℕ → Option (List ℕ) → List ℕ
refusal_by word tree (Some text) = named (codes "a name") word ++ text
refusal_by word tree None = tree

abbrev pub refusal_text : Option (List ℕ) → List ℕ → List ℕ
refusal_text word reason = reason ++ (codes ": " ++ refusal_by word (refusal_of_tree reason) (refusal_of_subject reason))

-- about a service whose directory the last scan could not read
abbrev pub unread_text : Option (List ℕ) → List ℕ → List ℕ
unread_text word why =
    unread_words ++ (named (codes "a name") word ++ (codes " (" ++ (why ++ codes ")")))

-- the path or the program that a fault is about
abbrev pub cause_word : List ℕ → List (List ℕ) → ToolFault → List ℕ
cause_word socket words fault.NoServer = escaped 107 socket
cause_word socket words fault.Forbidden = escaped 107 socket
cause_word socket words fault.Socket = escaped 107 socket
cause_word socket words fault.Ended = escaped 107 socket
cause_word socket words fault.Unanswered = escaped 107 socket
cause_word socket words fault.NoAnswer = escaped 107 socket
cause_word socket words fault.TreeEnded = escaped 107 socket
cause_word socket words fault.Program = named (codes "the program") (program_of words)
cause_word socket words f = []

-- what the system or the server failed to do
abbrev pub cause_of : List ℕ → List (List ℕ) → ToolFault → List ℕ
cause_of socket words f = cause_before f ++ (cause_word socket words f ++ cause_behind f)

-- what the second line says
abbrev pub hint_of : Tool → List ℕ → List (List ℕ) → ToolFault → List ℕ
hint_of t socket words (fault.Usage m) = misuse_text t m (culprit_of t m words)
hint_of t socket words (fault.Refused reason) = refusal_text (subject_of t words) reason
hint_of t socket words (fault.Unread why) = unread_text (subject_of t words) why
hint_of t socket words f = cause_of socket words f

-- both lines: the one for programs, and the one for people
abbrev pub told_text : Tool → List ℕ → List (List ℕ) → ToolFault → List ℕ
told_text t socket words f = fault_line t f ++ (name_of t ++ (codes ": " ++ (hint_of t socket words f ++ 10 ∷ [])))
