-- Which act a plain one stands for.
use Rattle.std.specs.String.{string_bytes}
use Rattle.tree_core.specs.declared.input.Act.{Act}
use Rattle.tree_core.specs.declared.input.Act.TheVariants as act
use Rattle.tree_core.specs.declared.plain.PlainAct.{PlainAct}
use Rattle.tree_core.specs.declared.plain.PlainAct.TheVariants as plain

-- the act with these lists, and with the pattern of this text
abbrev pub act_of : {A : Type 0} → PlainAct A → Act A
act_of (plain.Scan entries) = act.Scan entries.items
act_of (plain.Scanctl order) = act.Scanctl order
act_of (plain.Svc name letters) = act.Svc name (record { items = letters.items })
act_of (plain.Started sid generation pid) = act.Started sid generation pid
act_of (plain.StartFailed sid generation) = act.StartFailed sid generation
act_of (plain.Notify sid generation bytes) = act.Notify sid generation (record { items = bytes.items })
act_of (plain.Death sid generation exit) = act.Death sid generation exit
act_of (plain.FinishEnded sid generation exit) = act.FinishEnded sid generation exit
act_of (plain.Status name) = act.Status name
act_of (plain.Tally name) = act.Tally name
act_of (plain.Permafailon name seconds count list) = act.Permafailon name seconds count list.items
act_of (plain.Wait condition mode timeout names) = act.Wait condition mode timeout names.items
act_of (plain.Cancel id) = act.Cancel id
act_of (plain.Subscribe target text repeats) = act.Subscribe target (string_bytes text) repeats
act_of (plain.Unsubscribe id) = act.Unsubscribe id
act_of (plain.Send target letters) = act.Send target letters.items
act_of (plain.MakeDir name) = act.MakeDir name
act_of plain.Tick = act.Tick
