use Rattle.std.proofs.Common.{◌≡◌, take}
use Rattle.event_directory.proofs.pattern.begin_with.Given as goal

abbrev pub invariant-loop-place : goal.invariant-loop-place
invariant-loop-place l = take l.place l.letters ≡ take l.place l.heard
