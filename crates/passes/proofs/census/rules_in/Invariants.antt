use Rattle.std.proofs.Common.{List, ◌++◌, length}
use Rattle.std.specs.Prelude.{filter}
use Rattle.entry_table.specs.CompiledRule.{CompiledRule}
use Rattle.entry_table.specs.Entries.{is_rule_after}
use Rattle.passes.specs.Census.{AreRulesFrom, AreRulesOf}
use Rattle.passes.proofs.census.rules_in.Given as goal

-- whatever is still to come completes what was found
abbrev pub invariant-rules : goal.invariant-rules
invariant-rules g l =
    (rest : List CompiledRule) → AreRulesFrom l.connection l.last l.state.registrations.entries rest → AreRulesOf l.connection l.state.registrations.entries (l.rules.items ++ rest)

abbrev pub decreases-rules : goal.decreases-rules
decreases-rules g l = length (filter (is_rule_after l.connection l.last) l.state.registrations.entries)
