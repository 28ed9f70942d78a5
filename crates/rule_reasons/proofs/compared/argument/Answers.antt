use Rattle.std.proofs.Common.{List, ap, ◌∙◌}
use Rattle.std.specs.Prelude.{slice_get}
use Rattle.std.proofs.lemmas.Iterator.Consumers.{nth_from_yields_List, YieldsList-from_first}
use Rattle.message_value.specs.Arguments.{Argument}
use Rattle.message_value.specs.ShownArguments.{shown_arg}
use Rattle.message_view.specs.Spelling.{arguments_of}
use Rattle.rule_reasons.proofs.compared.argument.Goals as goal

pub returns : goal.returns
returns c = λ m valid.
    nth_from_yields_List c.nth.result c.nth.new.self c.from.result c.nth.ensures.ran (YieldsList-from_first shown_arg (λ (s : List Argument). s) (arguments_of m) (c.args-2.ensures m valid))
    ∙ ap (λ k. slice_get (arguments_of m) k) c.from.ensures
