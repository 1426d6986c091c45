-- What a text means as a regular expression, and in which bytes it has a match.
use Rattle.std.specs.Prelude.{ℕ, List, Bool, Option, None, Some, is_some, chars}
use Rattle.regex_hir.specs.Re.{Re, empty}
use Rattle.regex_hir.specs.Find.{find}
use Rattle.regex_syntax.specs.Grammar.{Names, read}
use Rattle.regex_syntax.specs.Brackets.{Nested}
use Rattle.regex_syntax.specs.Verdict.{default_config}

-- the grammar of `regex` reads the text
abbrev pub is_expression : List ℕ → Bool
is_expression text = is_some (read default_config (chars text))

abbrev pub tree_of : Option (Nested Re × Names) → Re
tree_of None = empty
tree_of (Some p) = p.0.value

-- the expression that the grammar of `regex` reads in the text
unfoldable pub expression_of : List ℕ → Re
expression_of text = tree_of (read default_config (chars text))

-- the expression of this text has a match somewhere in these bytes
unfoldable pub has_match : List ℕ → List ℕ → Bool
has_match text bytes = is_some (find (expression_of text) bytes 0)
