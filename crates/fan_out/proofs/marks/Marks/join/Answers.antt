use Rattle.std.proofs.Common.{◌∙◌, Bool, Some, ap, arith}
use Rattle.fan_out.specs.declared.marks.Marks.{Marks}
use Rattle.fan_out.proofs.Joining.{marks_joined, marks_kept, all_joined}
use Rattle.fan_out.proofs.marks.Marks.join.Goals as goal
use Rattle.fan_out.proofs.marks.Marks.join.Goals.{then-has, else-has}

pub loop-place-preserved : goal.loop-place-preserved
loop-place-preserved c = elim c.if-has.branch [
  | then-has w ↦ marks_joined c.loop-place.place c.args.self.now.places c.args.other.now.places c.loop-place.self.places c.if-has.self.places (omega (arith, c.loop-place.self.size)) (c.has.ensures ∙ ap (λ (b : Bool). Some b) w.if-has.true) (ap (λ (m : Marks). m.places) w.self-is ∙ w.add.ensures.places) c.loop-place.invariant
  | else-has w ↦ marks_kept c.loop-place.place c.args.self.now.places c.args.other.now.places c.loop-place.self.places c.if-has.self.places (c.has.ensures ∙ ap (λ (b : Bool). Some b) w.if-has.false) (ap (λ (m : Marks). m.places) w.self-is) c.loop-place.invariant
]

pub returns : goal.returns
returns c = all_joined c.loop-place.place c.args.self.now.places c.args.other.now.places c.loop-place.self.places (omega (arith, c.args.other.now.size)) c.loop-place.invariant
