use Rattle.std.proofs.Common.{◌≡◌, drop}
use Rattle.event_directory.specs.Register.{source_of}
use Rattle.event_directory.proofs.register.find_source.Given as goal

abbrev pub invariant-loop-subscriber : goal.invariant-loop-subscriber
invariant-loop-subscriber l = source_of l.id l.subscribers ≡ source_of l.id (drop l.subscriber-index l.subscribers)
