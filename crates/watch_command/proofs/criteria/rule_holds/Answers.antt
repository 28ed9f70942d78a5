use Rattle.std.proofs.Common.{ℕ, List}
use Rattle.message_view.specs.Message.{sender_of}
use Rattle.match_rule.specs.RuleTree.{sender_name_of}
use Rattle.watch_command.specs.Owners.{owns}
use Rattle.watch_command.proofs.Takes.{agreed}
use Rattle.watch_command.proofs.criteria.rule_holds.Goals as goal

pub returns : goal.returns
returns c = λ m valid.
    c.holds.ensures m (λ (name : List ℕ). owns c.args.owners.now (sender_of m) name) valid
    (agreed c.args.owners.now c.sender_name.result (sender_name_of c.args.rule.now) _ (sender_of m) c.is_from_owner.result c.sender_name.ensures (c.sender.ensures m valid) c.is_from_owner.ensures.agrees)
