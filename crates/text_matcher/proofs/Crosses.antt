-- A matcher may go to another thread.
use denote.Param.Send.{IsSend, sendable}
use Rattle.std.proofs.Crossing.{crosses}
use Rattle.regex_nfa.proofs.nfa.Nfa.TheSendSync as nfa
use Rattle.text_matcher.proofs.state_list.StateList.TheSendSync as states
use Rattle.std.proofs.string.String.TheSendSync as string
use Rattle.text_matcher.specs.contracts.text_matcher.TextMatcher as TextMatcher

pub matcher_send : IsSend TextMatcher.the_row
matcher_send =
    search (nfa.the_field_send, states.the_send, string.the_field_send, crosses, sendable) depth 60 fits 20000
