use Rattle.std.proofs.Common.{◌≡◌, ◌++◌, take, drop}
use Rattle.event_directory.specs.Register.{subscribers_without}
use Rattle.event_directory.proofs.register.place_of.Given as goal

abbrev pub invariant-loop-place : goal.invariant-loop-place
invariant-loop-place l = subscribers_without l.id l.subscribers
    ≡ take l.place l.subscribers ++ subscribers_without l.id (drop l.place l.subscribers)
