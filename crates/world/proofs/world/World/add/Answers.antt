use Rattle.std.proofs.Common.{[], ◌∷◌, ◌++◌, option_to_list, append-nil, sym, ap, ◌∙◌}
use Rattle.world.proofs.Doing.{done_one}
use Rattle.world.proofs.world.World.add.Goals as goal

pub returns-in-Some-clause-done : goal.returns-in-Some-clause-done
returns-in-Some-clause-done c =
    done_one c.args.event.now c.args.self.now c.step.new.self c.in_ok-answer.field-0 c.args.answers.now.items c.push_reserved.new.self.items c.in_ok-answer.ensures
    (c.push_reserved.ensures.items
    ∙ ap (λ items. items ++ c.in-Some.answer ∷ []) c.reserve.ensures.items
    ∙ sym (ap (λ answer. c.args.answers.now.items ++ option_to_list answer) c.in-Some.is))

pub returns-in_default-clause-done : goal.returns-in_default-clause-done
returns-in_default-clause-done c =
    done_one c.args.event.now c.args.self.now c.step.new.self c.in_ok-answer.field-0 c.args.answers.now.items c.reserve.new.self.items c.in_ok-answer.ensures
    (c.reserve.ensures.items
    ∙ sym (append-nil c.args.answers.now.items)
    ∙ sym (ap (λ answer. c.args.answers.now.items ++ option_to_list answer) c.in_default.is))
