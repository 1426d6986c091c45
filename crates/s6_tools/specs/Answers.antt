-- What a line of the server says.
use Rattle.std.specs.Prelude.{ℕ, Bool, List, [], ◌∷◌, true, false, Option, Some, None, codes, take, if◌then◌else◌, ◌||◌}
use Rattle.std.specs.Str.{bytes_eq}
use Rattle.tool_lines.specs.Words.{word_in}
use Rattle.s6_tools.specs.declared.answer.ServerAnswer.{ServerAnswer}
use Rattle.s6_tools.specs.declared.answer.ServerAnswer.TheVariants as answer
use Rattle.s6_tools.specs.declared.answer.Kind.{Kind}
use Rattle.s6_tools.specs.declared.answer.Kind.TheVariants as kind
use Rattle.s6_tools.specs.declared.answer.Outcome.{Outcome}
use Rattle.s6_tools.specs.declared.answer.Outcome.TheVariants as outcome

-- it is the first word of an answer to a request that was carried out
abbrev pub is_done : List ℕ → Bool
is_done word =
    bytes_eq word (codes "done") || (bytes_eq word (codes "scanned") || (bytes_eq word (codes "tally")
    || (bytes_eq word (codes "recorded") || bytes_eq word (codes "clock"))))

-- the kind of a line, by its first word
abbrev pub kind_of : List ℕ → Kind
kind_of word =
    if is_done word then kind.Done else
    if bytes_eq word (codes "refused") then kind.Refused else
    if bytes_eq word (codes "row") then kind.Row else
    if bytes_eq word (codes "wait") then kind.Waiter else
    if bytes_eq word (codes "sub") then kind.Subscription else
    if bytes_eq word (codes "permafail") then kind.Failure else
    if bytes_eq word (codes "r") then kind.Release else
    if bytes_eq word (codes "m") then kind.Match else
    if bytes_eq word (codes "busy") then kind.Busy else kind.Strange

-- how a waiter was released
abbrev pub outcome_of : List ℕ → Option Outcome
outcome_of word =
    if bytes_eq word (codes "held") then Some outcome.Held else
    if bytes_eq word (codes "failed") then Some outcome.Failed else
    if bytes_eq word (codes "gone") then Some outcome.Gone else
    if bytes_eq word (codes "timedout") then Some outcome.TimedOut else None

-- what a release says to a tool
abbrev pub released : Option Outcome → ServerAnswer
released (Some o) = answer.Released o
released None = answer.Strange

-- what an `r` line says, by its third word
abbrev pub release_of : List ℕ → ServerAnswer
release_of word = released (outcome_of word)

-- one letter alone says at which letter a subscription matched
abbrev pub matched : List ℕ → ServerAnswer
matched (letter ∷ []) = answer.Matched letter
matched word = answer.Strange

-- what an `m` line says, by its third word
abbrev pub match_of : List ℕ → ServerAnswer
match_of word = if bytes_eq word (codes "overlong") then answer.Overlong else matched word

-- whether a service fails for good, by the word behind `permafail`
abbrev pub failure_of : List ℕ → ServerAnswer
failure_of word =
    if bytes_eq word (codes "125") then answer.PermanentFailure true else
    if bytes_eq word (codes "0") then answer.PermanentFailure false else answer.Strange

-- what a line of this kind says, by its second and its third word
abbrev pub answer_by : Kind → List ℕ → List ℕ → ServerAnswer
answer_by kind.Done second third = answer.Done
answer_by kind.Refused second third = answer.Refused (take 32 second)
answer_by kind.Row second third = answer.Row
answer_by kind.Waiter second third = answer.Waiter
answer_by kind.Subscription second third = answer.Subscription
answer_by kind.Failure second third = failure_of second
answer_by kind.Release second third = release_of third
answer_by kind.Match second third = match_of third
answer_by kind.Busy second third = answer.Busy
answer_by kind.Strange second third = answer.Strange

-- what a line says
abbrev pub answer_of : List ℕ → ServerAnswer
answer_of line = answer_by (kind_of (word_in line 0)) (word_in line 1) (word_in line 2)

-- the answer says that the request was carried out
abbrev pub says_done : ServerAnswer → Bool
says_done answer.Done = true
says_done other = false
