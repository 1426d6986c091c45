-- The command lines of svwait, svlisten, svstat and permafailon: what clap is told of them.
use Rattle.std.specs.Prelude.{ℕ, List, ◌+◌, ◌&&◌, Bool, true, Some, codes, length, drop}
use Rattle.std.specs.Prelude.{take, position, unwrap_or}
use Rattle.std.specs.Str.{bytes_eq}
use Rattle.clap.specs.Words.{App, Rule, Row, Text, Kinds, new_app, new_rule, with_rule}
use Rattle.clap.specs.Words.{matches_of, fault_of, is_simple, is_simple_and_free}
use Rattle.clap.specs.Simple.{on_top}
use Rattle.clap.specs.declared.builder.action.ArgAction.TheVariants.{Count, Set, Append}

-- a letter that is counted
abbrev pub flag_rule : Text → ℕ → Rule
flag_rule id letter = record (new_rule id) { short = Some letter; action = Some Count }

-- a letter with a value
abbrev pub option_rule : Text → ℕ → Rule
option_rule id letter = record (new_rule id) { short = Some letter; action = Some Set }

-- the words that are no options
abbrev pub names_rule : Rule
names_rule = record (new_rule (codes "names")) { action = Some Append }

-- one word that is no option
abbrev pub word_rule : Text → Rule
word_rule id = record (new_rule id) { action = Some Set }

-- a command with no help of its own, over words without the program's name
abbrev pub plain_app : Text → App
plain_app name = on_top (λ s. record s { no_binary_name = true; disable_help_flag = true }) (new_app name)

-- the options that svwait and svlisten have in common
abbrev pub with_wait_rules : App → App
with_wait_rules app =
    with_rule (with_rule (with_rule (with_rule (with_rule (with_rule (with_rule app (flag_rule (codes "u") 117))
    (flag_rule (codes "U") 85)) (flag_rule (codes "d") 100)) (flag_rule (codes "D") 68)) (flag_rule (codes "a") 97))
    (flag_rule (codes "o") 111)) (option_rule (codes "t") 116)

-- svwait [-u | -U | -d | -D] [-a | -o] [-t ms] names..
unfoldable pub wait_app : App
wait_app = with_rule (with_wait_rules (plain_app (codes "svwait"))) names_rule

-- svlisten has -r and -R too
unfoldable pub listen_app : App
listen_app = with_rule (with_rule (with_rule (with_wait_rules (plain_app (codes "svlisten")))
    (flag_rule (codes "r") 114)) (flag_rule (codes "R") 82)) names_rule

-- svstat -o fields name
unfoldable pub stat_app : App
stat_app = with_rule (with_rule (plain_app (codes "svstat")) (option_rule (codes "o") 111)) (word_rule (codes "name"))

-- permafailon name secs count list
unfoldable pub permafail_app : App
permafail_app =
    with_rule (with_rule (with_rule (with_rule (plain_app (codes "permafailon")) (word_rule (codes "name")))
    (word_rule (codes "secs"))) (word_rule (codes "count"))) (word_rule (codes "list"))

-- clap's contract tells all of what it does with this command
unfoldable pub is_simple_app : App → Bool
is_simple_app app = is_simple app && is_simple_and_free app

-- what clap finds in the words, and the kinds of error that it may give there, none where it takes them
unfoldable pub rows_for : App → List Text → List Row
rows_for app words = matches_of app words

unfoldable pub kinds_for : App → List Text → Kinds
kinds_for app words = fault_of app words

-- the place of the first word `--`, or the end
abbrev pub cut_of : List Text → ℕ
cut_of words = unwrap_or (position (λ word. bytes_eq word (codes "--")) words) (length words)

-- the words before that place, and those after it
abbrev pub own_words : List Text → List Text
own_words words = take (cut_of words) words

abbrev pub program_words : List Text → List Text
program_words words = drop (cut_of words + 1) words
