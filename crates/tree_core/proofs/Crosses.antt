-- Inputs and trees may go to another thread.
use mir.Syntax.{Sym}
use Rattle.std.proofs.Common.{List, [], ◌∷◌}
use denote.RattleType.{RattleType}
use denote.Struct.Tuple.{TupleAt, type_at, parts}
use denote.Struct.Field.{row_field}
use denote.Builtin.{u64, bool}
use denote.Struct.Declared.{shape}
use denote.Param.Send.{IsSend, AllSend, recorded_send, struct_send, sendable}
use denote.Param.SendFields.{FieldsHave, as_row_send, declared_send}
use Rattle.std.proofs.Crossing.{crosses, frees}
use Rattle.std.proofs.alloc.Global.TheSendSync as global
use Rattle.std.proofs.option.Option.TheSendSync as option
use Rattle.std.specs.contracts.alloc.Global as Global
use Rattle.std.specs.contracts.impls.GlobalAllocator.TheImpl as heap
use Rattle.s6_events.proofs.at.At.TheSendSync as at
use Rattle.s6_events.proofs.history.History.TheSendSync as history
use Rattle.deadlines.proofs.deadlines.Deadlines.TheSendSync as deadlines
use Rattle.svscan_core.proofs.registry.Registry.TheSendSync as registry
use Rattle.wait_conditions.proofs.waits.Waits.TheSendSync as waits
use Rattle.event_directory.proofs.Crosses.{pattern_send, directories_send}
use Rattle.tree_core.specs.contracts.input.Input as Input
use Rattle.tree_core.specs.contracts.tree.Tree as Tree
use Rattle.tree_core.specs.contracts.tree.Tree.TheInside as Inside

pub input_send : IsSend (Input.the_row Global.the_row heap.ghosts)
input_send = search (pattern_send, option.the_field_send, crosses, sendable) depth 60 fits 20000

number_send : IsSend u64
number_send = search sendable

flag_send : IsSend bool
flag_send = search sendable

inside_send : IsSend (Inside.the_row Global.the_row heap.ghosts)
inside_send =
    let T = Inside.the_type Global.the_row heap.ghosts in
    let g = Global.the_row in
    recorded_send _ _ _ T.to_one (struct_send (shape T) (
      at.the_send,
      (
        number_send,
        (
          flag_send,
          (
            registry.the_send g heap.ghosts global.the_send frees,
            (
              deadlines.the_send g heap.ghosts global.the_send frees,
              (
                history.the_send g heap.ghosts global.the_send frees,
                (waits.the_send g heap.ghosts global.the_send frees, (directories_send, tt)),
              ),
            ),
          ),
        ),
      ),
    ))

pub tree_send : IsSend (Tree.the_row Global.the_row heap.ghosts)
tree_send = search (inside_send, sendable) depth 60 fits 20000

-- a closure may, where all that it captures may
captured : (Ts : List RattleType) → AllSend Ts → FieldsHave IsSend (parts Ts)
captured [] all = tt
captured (T ∷ Ts) all = (as_row_send (row_field T) all.0, captured Ts all.1)

pub closure_send : (name : Sym) (Ts : List RattleType) → AllSend Ts → IsSend (TupleAt name Ts)
closure_send name Ts all = declared_send (type_at name Ts) (captured Ts all)
