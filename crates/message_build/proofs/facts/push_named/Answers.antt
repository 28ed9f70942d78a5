use Rattle.std.proofs.Common.{sym}
use Rattle.signature.specs.DataType.{variant}
use Rattle.message_value.specs.Value.{text}
use Rattle.message_build.specs.NamedFacts.{fact_value}
use Rattle.message_build.proofs.Dicts.{entry_appended}
use Rattle.message_build.proofs.facts.push_named.Goals as goal

pub returns : goal.returns
returns c =
    let named = c.args.named.now in
    entry_appended c.push_fact.result c.args.bytes.now.items c.align.new.bytes.items c.push_string.new.bytes.items c.push_fact.new.bytes.items variant (text named.name.now) (fact_value named.fact)
    c.in_ok-align.ensures (rw (sym c.as_bytes.ensures.value) c.in_ok-push_string.ensures) c.push_fact.ensures
