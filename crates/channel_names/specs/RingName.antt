-- Names that say which ring an end belongs to.
use denote.RawPtr.{Ptr}
use Rattle.rtrb.specs.Shared.{Names}
use Rattle.rtrb.specs.declared.producer.Producer.{Producer}
use Rattle.rtrb.specs.declared.consumer.Consumer.{Consumer}
use Rattle.rtrb.specs.declared.finished.Finished.{Finished}

-- two ends with the same name are ends of one ring
pub record RingName : Type 0 where
  pub words : Ptr
  pub slots : Ptr
  pub names : Names

module _ {T A P : Type 0} where
  -- the ring of an end that pushes
  abbrev pub producer_ring : Producer T A P → RingName
  producer_ring p = record { words = p.end.words; slots = p.end.slots; names = p.end.names }

  -- the ring of an end that pops
  abbrev pub consumer_ring : Consumer T A P → RingName
  consumer_ring c = record { words = c.end.words; slots = c.end.slots; names = c.end.names }

  -- the ring of an end that pushes no more
  abbrev pub finished_ring : Finished T A P → RingName
  finished_ring f = record { words = f.end.words; slots = f.end.slots; names = f.end.names }
