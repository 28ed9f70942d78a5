use Rattle.std.proofs.Common.{◌≡◌}
use Rattle.fan_out.specs.Marks.{AreWithin}
use Rattle.fan_out.proofs.marks.Marks.clear.Given as goal

abbrev pub invariant-loop-place : goal.invariant-loop-place
invariant-loop-place l = record {
  within : AreWithin l.self.places l.place l.fn.self.high;
  high : l.self.high ≡ l.fn.self.high;
}
