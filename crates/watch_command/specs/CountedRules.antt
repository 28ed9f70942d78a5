-- Inner: the rules that the code counts by, as the texts and counts that a report has.
use Rattle.std.specs.Prelude.{ℕ, List, map, string_bytes}
use Rattle.watch_command.specs.declared.counts.CountedRule.{CountedRule}

abbrev pub text_counts : List CountedRule → List (List ℕ × ℕ)
text_counts rules = map (λ (rule : CountedRule). (string_bytes rule.text, rule.count)) rules
