use Rattle.std.proofs.Common.{ℕ, ap, ◌∙◌}
use Rattle.std.specs.Prelude.{replicate}
use Rattle.entry_table.proofs.Indexing.{AreShapes-none}
use Rattle.entry_table.proofs.shapes.Shapes.new.Goals as goal

pub invariant_of-result : goal.invariant_of-result
invariant_of-result c =
    AreShapes-none c.in_ok-vec.field-0.items c.in_ok-new.field-0
    (c.in_ok-vec.ensures.items_if_clones_equal (λ y is. is) ∙ ap (λ (n : ℕ). replicate n 0) c.from.ensures) c.in_ok-new.ensures
