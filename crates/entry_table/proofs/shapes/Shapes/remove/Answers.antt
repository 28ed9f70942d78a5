use Rattle.std.proofs.Common.{◌≡◌, ℕ, ◌-◌, ◌<◌, List, length, get_or, sym, ap, ◌∙◌, subst, arith}
use Rattle.std.proofs.Math.ListN.{set}
use Rattle.std.proofs.lemmas.List.{get_or_read}
use Rattle.entry_table.specs.declared.shapes.Shapes.TheInside.{Inside}
use Rattle.entry_table.specs.ShapeCounts.{AreShapes}
use Rattle.entry_table.proofs.Indexing.{AreShapes-last, AreShapes-fewer}
use Rattle.entry_table.proofs.shapes.Shapes.remove.Goals as goal
use Rattle.entry_table.proofs.shapes.Shapes.remove.Goals.{then-is_last+then-shape-ne0, else-is_last, else-is_last-via-then-is_last+else-shape-ne0, else-is_last-via-else-is_last}

pub invariant_of-self : goal.invariant_of-self
invariant_of-self c =
    let i = c.self.inside in
    let count = c.index-count.result.now in
    let low : c.args.shape < length i.counts.items = omega (arith, c.requires.shape, ap (λ (ns : List ℕ). length ns) c.self.view_is) in
    let read : get_or i.counts.items c.args.shape 0 ≡ count = sym (get_or_read i.counts.items c.from.result count (omega (arith, low, c.from.ensures)) c.index-count.ensures 0 ∙ ap (λ (k : ℕ). get_or i.counts.items k 0) c.from.ensures) in
    let some : 0 < count = omega (arith, c.requires.some, read, ap (λ (ns : List ℕ). get_or ns c.args.shape 0) c.self.view_is) in
    elim c.if-is_last.branch [
      | then-is_last+then-shape-ne0 w ↦ subst (λ (s : Inside). AreShapes (set s.counts.items c.from-2.result (count - 1)) s.used) (sym w.self-inside-is)
          (AreShapes-last i.counts.items i.used w.remove.new.self c.args.shape c.from-2.result count c.self.invariant low c.from-2.ensures w.if-is_last.true w.remove.ensures.removed)
      | else-is_last w ↦ subst (λ (s : Inside). AreShapes (set s.counts.items c.from-2.result (count - 1)) s.used) (sym w.self-inside-is)
          (AreShapes-fewer i.counts.items i.used c.args.shape c.from-2.result count c.self.invariant low c.from-2.ensures read some
          (elim w.else-is_last.branch [
            | else-is_last-via-then-is_last+else-shape-ne0 v ↦ (λ other. absurd (other v.if-shape-ne0.false))
            | else-is_last-via-else-is_last v ↦ (λ other. omega (arith, some, v.if-is_last.false))
          ]))
    ]
