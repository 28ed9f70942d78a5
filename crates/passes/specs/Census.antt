-- The rules of a connection (own).
use Rattle.std.specs.Prelude.{◌≡◌, ℕ, List, [], ◌∷◌, ◌++◌, Some, None, find}
use Rattle.entry_table.specs.declared.entry.Filter.{Filter}
use Rattle.entry_table.specs.declared.entry.Entry.{Entry}
use Rattle.entry_table.specs.CompiledRule.{CompiledRule}
use Rattle.entry_table.specs.Entries.{is_rule_after, rule_of}

-- From this id on each next one is the connection's oldest rule with a greater id, and there is none after the last.
abbrev pub AreRulesFrom : ℕ → ℕ → List Entry → List CompiledRule → Type 0
AreRulesFrom connection id entries [] = find (is_rule_after connection id) entries ≡ None
AreRulesFrom connection id entries (rule ∷ rules) =
    (e : Entry) × (find (is_rule_after connection id) entries ≡ Some e) × (rule_of e.filter ≡ Some rule.rule) × AreRulesFrom connection e.id entries rules

-- all rules of a connection, the oldest first; no id is 0
abbrev pub AreRulesOf : ℕ → List Entry → List CompiledRule → Type 0
AreRulesOf connection entries rules = AreRulesFrom connection 0 entries rules

-- the rule of a filter came after those that were there
abbrev pub IsPushed : Filter → List CompiledRule → List CompiledRule → Type 0
IsPushed filter old new = (rule : CompiledRule) × (rule_of filter ≡ Some rule.rule) × (new ≡ old ++ rule ∷ [])
