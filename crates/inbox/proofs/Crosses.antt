-- What may go to another thread: submissions and the ends of a ring.
use denote.RattleType.{RattleType}
use denote.Builtin.{u64}
use denote.Struct.Declared.{shape}
use denote.Param.Send.{IsSend, struct_send, recorded_send, sendable}
use Rattle.std.proofs.Crossing.{crosses}
use Rattle.event_directory.proofs.Crosses.{pattern_send}
use Rattle.std.proofs.alloc.Global.TheSendSync as global
use Rattle.std.proofs.option.Option.TheSendSync as option
use Rattle.std.proofs.marker.PhantomData.TheSendSync as phantom
use Rattle.rtrb.proofs.AnyItems.TheSendSync as any_items
use Rattle.rtrb.proofs.consumer.Consumer.TheSendSync as consumer
use Rattle.rtrb.proofs.producer.Producer.TheSendSync as producer
use Rattle.s6_events.proofs.ids.Actor.TheSendSync as actor
use Rattle.channel_names.specs.declared.channels.Channels.{Ghosts}
use Rattle.inbox.specs.contracts.submission.Submission as Submission
use Rattle.inbox.specs.contracts.ring.Seat as Seat
use Rattle.inbox.specs.contracts.ring.Seat.TheInside as Inside
use Rattle.inbox.specs.contracts.drain.Drain as Drain
use Rattle.inbox.specs.contracts.drain.Drain.TheInside as DrainInside
use Rattle.rtrb.specs.contracts.AnyItems as AnyItems
use Rattle.rtrb.specs.contracts.AnyItemsProtocol.TheImpl as any_ghosts
use Rattle.rtrb.specs.contracts.consumer.Consumer as Consumer
use Rattle.rtrb.specs.contracts.producer.Producer as Producer
use Rattle.std.specs.contracts.alloc.Global as Global
use Rattle.std.specs.contracts.impls.GlobalAllocator.TheImpl as heap_ghosts
use Rattle.std.specs.contracts.marker.PhantomData as PhantomData
use Rattle.s6_events.specs.contracts.ids.Actor as Actor

pub submission_send : IsSend Submission.the_row
submission_send = search (pattern_send, option.the_field_send, crosses, sendable) depth 60 fits 20000

items_send : IsSend AnyItems.the_row
items_send = search (any_items.the_send, sendable) depth 60 fits 20000

global_send : IsSend Global.the_row
global_send = search (global.the_send, sendable) depth 60 fits 20000

actor_send : IsSend Actor.the_row
actor_send = search (actor.the_send, sendable) depth 60 fits 20000

phantom_send : (C : RattleType) → IsSend C → IsSend (PhantomData.the_field C).row
phantom_send C c = search (phantom.the_field_send, sendable) depth 60 fits 20000

producer_send : IsSend (Producer.the_field Submission.the_row Global.the_row AnyItems.the_row heap_ghosts.ghosts
    (any_ghosts.ghosts Submission.the_row)).row
producer_send = search (submission_send, global_send, producer.the_field_send, crosses, sendable) depth 60 fits 20000

number_send : IsSend u64
number_send = search sendable

inside_send : (C : RattleType) (g : Ghosts C.Denot) → IsSend C → IsSend (Inside.the_row C g)
inside_send C g c =
    recorded_send _ _ _ (Inside.the_type C g).to_one
    (struct_send (shape (Inside.the_type C g)) (actor_send, (number_send, (producer_send, (phantom_send C c, tt)))))

pub seat_send : (C : RattleType) (g : Ghosts C.Denot) → IsSend C → IsSend (Seat.the_row C g)
seat_send C g c = let i = inside_send C g c in search (i, sendable) depth 60 fits 20000

consumer_send : IsSend (Consumer.the_field Submission.the_row Global.the_row AnyItems.the_row heap_ghosts.ghosts
    (any_ghosts.ghosts Submission.the_row)).row
consumer_send = search (submission_send, global_send, consumer.the_field_send, crosses, sendable) depth 60 fits 20000

drain_inside_send : (C : RattleType) (g : Ghosts C.Denot) → IsSend C → IsSend (DrainInside.the_row C g)
drain_inside_send C g c =
    recorded_send _ _ _ (DrainInside.the_type C g).to_one
    (struct_send (shape (DrainInside.the_type C g)) (actor_send, (consumer_send, (phantom_send C c, tt))))

pub drain_send : (C : RattleType) (g : Ghosts C.Denot) → IsSend C → IsSend (Drain.the_row C g)
drain_send C g c = let i = drain_inside_send C g c in search (i, sendable) depth 60 fits 20000
