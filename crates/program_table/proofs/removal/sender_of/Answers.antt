use Rattle.std.proofs.Common.{◌∙◌, sym, ap}
use Rattle.std.specs.Result.{result_ok}
use Rattle.match_rule.specs.RuleTree.{sender_name_of}
use Rattle.program_table.proofs.SenderNames.{is_read}
use Rattle.program_table.proofs.removal.sender_of.Goals as goal

pub returns-in-Some : goal.returns-in-Some
returns-in-Some c =
    let read = is_read c.rule-rule.result.now c.in-Some.name.now c.conditions.ensures.sender_names (sym c.in-Some.ensures) in
    c.ok.ensures.value ∙ ap result_ok (c.read.ensures ∙ read) ∙ c.in-Some.ensures ∙ ap sender_name_of c.rule-rule.ensures
