use Rattle.std.proofs.Common.{◌∙◌}
use Rattle.filter.specs.Filters.{tree_of}
use Rattle.filter_reasons.specs.Telling.{told_line}
use Rattle.filter_reasons.proofs.TestLines.{told_by, three_texts}
use Rattle.filter_reasons.proofs.telling.push_test.Goals as goal

pub returns-clause-told : goal.returns-clause-told
returns-clause-told c = λ m valid. (
  told_line (tree_of c.args.test.now) c.in_ok-holds.holds,
  told_by m c.args.owns (tree_of c.args.test.now) c.in_ok-holds.holds (c.in_ok-holds.ensures.value m valid),
  three_texts _ _ _ _ c.args.front.now _ _ _ _ c.in_ok-push_str.ensures.bytes c.in_ok-push_str-2.ensures.bytes c.in_ok-push_str-3.ensures.bytes (c.as_str.ensures.value ∙ c.in_ok-shown.ensures) c.held_text.ensures,
)
