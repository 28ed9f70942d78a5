use Rattle.std.proofs.Common.{ap, ◌∙◌}
use Rattle.message_view.specs.Slots.{slots_of}
use Rattle.message_view.specs.FieldAnswers.{slots_shown}
use Rattle.message_view.proofs.Views.{kept_is, text_kept}
use Rattle.message_view.proofs.view.View.text.Goals as goal

pub returns : goal.returns
returns c = λ m valid.
    let kept = kept_is c.self.inside.bytes.now c.args.self.now _ _ m _ c.self.invariant c.self.view_is valid in
    c.text.ensures ∙ text_kept (slots_shown c.self.inside.sections.fields) (slots_of m.fields) _ (ap (λ k. k.texts) kept)
