use Rattle.std.proofs.Common.{◌≡◌, [], take}
use Rattle.wait_conditions.specs.Reach.{TouchWithin}
use Rattle.wait_conditions.specs.declared.reach.Reach.TheVariants as reach
use Rattle.wait_conditions.proofs.reach.reach_of.Given as goal

abbrev pub invariant-loop-moment : goal.invariant-loop-moment
invariant-loop-moment l = record {
  within : TouchWithin l.due l.reach (take l.moment-index l.moments);
  quiet : l.moments ≡ [] → l.reach ≡ reach.Nobody;
}
