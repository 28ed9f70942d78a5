use Rattle.std.proofs.Common.{◌∙◌, subst, sym, ap}
use Rattle.entry_table.specs.declared.rule_program.Parts.{Parts}
use Rattle.entry_table.specs.CompiledRule.{IsFit}
use Rattle.entry_table.specs.RuleHints.{AreHints}
use Rattle.entry_table.specs.TextKeys.{shape_of}
use Rattle.entry_table.specs.WholeProgram.{whole_program}
use Rattle.entry_table.proofs.WholeRules.{fits_whole}
use Rattle.rule_compile.specs.Rest.{IsRest}
use Rattle.entry_table.proofs.rule_program.RuleProgram.compile.Goals as goal

pub invariant_of-result : goal.invariant_of-result
invariant_of-result c =
    let fit : IsFit (record { rule = c.args.rule; slot = c.args.slot; program = whole_program c.args.rule c.args.slot }) = fits_whole c.args.rule c.args.slot c.requires c.conditions.ensures.one_sender c.conditions.ensures.bytes in
    let hints : AreHints c.args.rule c.shape-shape.result = record { same_shape = c.shape-shape.ensures.value ∙ ap shape_of c.of_rule.ensures } in
    let left : IsRest c.args.rule c.args.slot c.in_ok-rest.rest = c.in_ok-rest.ensures.rest in
    subst (λ (p : Parts). IsFit (record { rule = p.rule; slot = p.slot; program = whole_program p.rule p.slot }) × IsRest p.rule p.slot p.rest × AreHints p.rule c.shape-shape.result) (sym c.in_ok-new.ensures.ok) (fit, left, hints)
