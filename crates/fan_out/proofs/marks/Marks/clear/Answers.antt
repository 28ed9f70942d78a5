use Rattle.std.proofs.Common.{◌+◌, ◌∙◌, Bool, List, sym, refl, arith, subst}
use Rattle.fan_out.specs.Marks.{AreWithin}
use Rattle.fan_out.proofs.Rows.{after_first}
use Rattle.fan_out.proofs.marks.Marks.clear.Goals as goal

pub loop-place-init : goal.loop-place-init
loop-place-init c = record { within = c.args.self.now.within; high = refl }

pub loop-place-preserved : goal.loop-place-preserved
loop-place-preserved c = record {
  within = subst (λ (ms : List Bool). AreWithin ms (c.loop-place.place + 1) c.args.self.now.high) (sym c.remove.ensures.places) (after_first c.loop-place.self.places c.loop-place.place c.args.self.now.high c.loop-place.invariant.within);
  high = c.remove.ensures.high ∙ c.loop-place.invariant.high;
}

pub begin_anew-requires : goal.begin_anew-requires
begin_anew-requires c = λ k marked.
    let inside = c.loop-place.invariant.within k marked in
    omega (arith, inside, c.loop-place-test.false)
