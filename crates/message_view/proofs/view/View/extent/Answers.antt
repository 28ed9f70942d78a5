use Rattle.std.proofs.Common.{None, ap, ◌∙◌}
use Rattle.std.specs.Prelude.{slice_index_or}
use Rattle.message_view.specs.Slots.{slot_of}
use Rattle.message_view.specs.FieldAnswers.{lying}
use Rattle.message_view.proofs.Views.{kept_is, extent_kept}
use Rattle.message_view.proofs.view.View.extent.Goals as goal

pub returns : goal.returns
returns c = λ m valid.
    let kept = kept_is c.self.inside.bytes.now c.args.self.now _ _ m _ c.self.invariant c.self.view_is valid in
    let extents = lying c.self.inside.sections.fields in
    c.extent.ensures
    ∙ ap (λ code. slice_index_or extents (slot_of code) None) c.code.ensures
    ∙ extent_kept extents m c.args.field (ap (λ k. k.extents) kept)
