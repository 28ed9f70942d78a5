use Rattle.std.proofs.Common.{◌≡◌, ◌++◌, length, take, drop}
use Rattle.signature.specs.DataType.{variant}
use Rattle.message_value.specs.declared.order.Order.TheVariants.{Little}
use Rattle.message_value.specs.Spelling.{entries_bytes}
use Rattle.message_build.specs.NamedFacts.{fact_entries}
use Rattle.message_build.proofs.facts.push_entries.Given as goal

abbrev pub invariant-loop-named : goal.invariant-loop-named
invariant-loop-named l =
    (l.fn.bytes.items ++ entries_bytes Little (length l.fn.bytes.items) 115 variant (fact_entries l.facts) ≡ l.bytes.items ++ entries_bytes Little (length l.bytes.items) 115 variant (fact_entries (drop l.named-index l.facts)))
    × (take (length l.fn.bytes.items) l.bytes.items ≡ l.fn.bytes.items)
