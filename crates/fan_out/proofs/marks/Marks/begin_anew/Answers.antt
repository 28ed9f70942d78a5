use Rattle.std.proofs.Common.{arith}
use Rattle.fan_out.proofs.Rows.{all_unmarked}
use Rattle.fan_out.proofs.marks.Marks.begin_anew.Goals as goal

pub returns : goal.returns
returns c = all_unmarked 4096 c.args.self.now.places c.args.self.now.size (λ k marked. let inside = c.requires k marked in omega (arith, inside.0, inside.1))
