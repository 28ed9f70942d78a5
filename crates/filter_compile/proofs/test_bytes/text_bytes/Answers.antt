use Rattle.match_rule.proofs.ValueBytes as values
use Rattle.filter_compile.proofs.test_bytes.text_bytes.Goals as goal

pub returns : goal.returns
returns c = values.text_bytes c.args.text.now c.utf8.text
