-- Inner: what is kept of a rule, or of an attached program, beside its program.
use Rattle.std.specs.Prelude.{◌≡◌, ℕ}
use Rattle.match_rule.specs.RuleTree.{RuleTree}
use Rattle.match_rule.specs.FixedTexts.{fixed_texts}
use Rattle.entry_table.specs.AttachedProgram.{AskedTexts}
use Rattle.entry_table.specs.Namespaces.{namespaces_asked}
use Rattle.entry_table.specs.TextKeys.{LookupTexts, with_namespaces, shape_of}

-- the texts that an entry of the rule is looked up by
abbrev pub rule_texts : RuleTree → LookupTexts
rule_texts rule = with_namespaces (fixed_texts rule) (namespaces_asked rule)

-- the texts that an entry of a program for these messages is looked up by
abbrev pub asked_texts : AskedTexts → LookupTexts
asked_texts asked = with_namespaces asked.texts asked.namespaces

-- which of them the rule has
pub record AreHints (rule : RuleTree) (shape : ℕ) : Type 0 where
  pub same_shape : shape ≡ shape_of (rule_texts rule)
