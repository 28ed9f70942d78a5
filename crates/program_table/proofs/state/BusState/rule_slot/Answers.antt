use Rattle.program_table.proofs.RuleSlots.{is_rule_slot}
use Rattle.program_table.proofs.state.BusState.rule_slot.Goals as goal

pub returns : goal.returns
returns g c = is_rule_slot c.args.self.now c.args.connection c.args.rule.now c.find_rule_slot.result c.find_rule_slot.ensures.answer c.find_rule_slot.ensures.fit
