-- What a client asks for is what its line spells.
use Rattle.std.proofs.Common.{subst, ◌≡◌, ℕ, List}
use Rattle.std.specs.declared.alloc.Global.{Global}
use Rattle.s6_script.specs.Spelling.{SpellsAct}
use Rattle.tree_core.specs.declared.input.Act.{Act}
use Rattle.tree_core.specs.declared.input.Act.TheVariants.{Scan, Scanctl, Svc, Started, StartFailed, Notify, Death, FinishEnded, Status, Tally, Permafailon}
use Rattle.tree_core.specs.declared.input.Act.TheVariants.{Wait, Cancel, Subscribe, Unsubscribe, Send, MakeDir, Tick}
use Rattle.server_rules.specs.Requests.{request_of, AsksFor, IsOwnAct}

-- a line that spells an act of the server's own spells no other
alone : (own : Act Global) (line : List ℕ) → IsOwnAct own → ((act : Act Global) → SpellsAct line act → own ≡ act) → (act : Act Global)
    → SpellsAct line act → IsOwnAct act
alone own line is only act spells = subst (λ (a : Act Global). IsOwnAct a) (only act spells) is

pub asks : (act : Act Global) (line : List ℕ) → SpellsAct line act → ((other : Act Global) → SpellsAct line other → act ≡ other)
    → AsksFor (request_of act) line
asks (Scan listing) line spells only = alone (Scan listing) line tt only
asks (Scanctl order) line spells only = spells
asks (Svc name letters) line spells only = spells
asks (Started sid generation pid) line spells only = alone (Started sid generation pid) line tt only
asks (StartFailed sid generation) line spells only = alone (StartFailed sid generation) line tt only
asks (Notify sid generation bytes) line spells only = alone (Notify sid generation bytes) line tt only
asks (Death sid generation exit) line spells only = alone (Death sid generation exit) line tt only
asks (FinishEnded sid generation exit) line spells only = alone (FinishEnded sid generation exit) line tt only
asks (Status name) line spells only = spells
asks (Tally name) line spells only = spells
asks (Permafailon name seconds count list) line spells only = spells
asks (Wait condition mode timeout names) line spells only = spells
asks (Cancel id) line spells only = spells
asks (Subscribe target pattern repeats) line spells only = spells
asks (Unsubscribe id) line spells only = spells
asks (Send target message) line spells only = spells
asks (MakeDir name) line spells only = spells
asks Tick line spells only = alone Tick line tt only
