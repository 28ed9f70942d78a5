-- The entries of the bus (own).
use Rattle.std.specs.Prelude.{ℕ, ◌≤◌, Bool, true, false, not, ◌&&◌, ◌||◌, List, [], Option, Some, None, filter, length, ◌==◌, nat_le, nat_lt, All, AllPairs, ◌<◌}
use Rattle.match_rule.specs.RuleTree.{RuleTree, rule_eq}
use Rattle.entry_table.specs.declared.entry.Entry.{Entry}
use Rattle.entry_table.specs.declared.entry.Filter.{Filter}
use Rattle.entry_table.specs.declared.entry.Filter.TheVariants.{Rule, Attached}

-- the entries by rising id, and the last id that was given
pub record Entries : Type 0 where
  pub entries : List Entry
  pub last : ℕ

-- no entry, and no id given
abbrev pub no_entries : Entries
no_entries = record { entries = []; last = 0 }

-- the greatest id
abbrev pub max_id : ℕ
max_id = 4294967295

-- no entry can be added: there are 65,534, or the greatest id was given
abbrev pub is_full : Entries → Bool
is_full all = nat_le 65534 (length all.entries) || all.last == max_id

-- what is true of every table: ids rise, none is above the last that was given, and there is room for each entry
pub record AreEntries (all : Entries) : Type 0 where
  pub rising : AllPairs (λ (e f : Entry). e.id < f.id) all.entries
  pub below_last : All (λ (e : Entry). e.id ≤ all.last) all.entries
  pub few : length all.entries ≤ 65534

-- the connection has the entry
abbrev pub is_of : ℕ → Entry → Bool
is_of connection e = e.connection == connection

-- it is the connection's entry of this id
abbrev pub is_entry : ℕ → ℕ → Entry → Bool
is_entry connection id e = e.connection == connection && e.id == id

-- the filter is a rule that equals this one
abbrev pub is_rule : RuleTree → Filter → Bool
is_rule rule (Rule compiled) = rule_eq compiled.rule rule
is_rule rule (Attached program) = false

-- the rule, unless the filter is a program that was attached
abbrev pub rule_of : Filter → Option RuleTree
rule_of (Rule compiled) = Some compiled.rule
rule_of (Attached program) = None

abbrev pub is_attached : Filter → Bool
is_attached (Rule compiled) = false
is_attached (Attached program) = true

-- it is the connection's, and its filter is a rule that equals this one
abbrev pub has_rule : ℕ → RuleTree → Entry → Bool
has_rule connection rule e = is_of connection e && is_rule rule e.filter

-- it is the connection's attachment of this id
abbrev pub is_attachment : ℕ → ℕ → Entry → Bool
is_attachment connection id e = is_of connection e && (e.id == id && is_attached e.filter)

-- it is the connection's, has a rule, and its id is above this one
abbrev pub is_rule_after : ℕ → ℕ → Entry → Bool
is_rule_after connection id e = is_of connection e && (nat_lt id e.id && not (is_attached e.filter))

-- the entries that fail the test
abbrev pub entries_but : (Entry → Bool) → Entries → Entries
entries_but test all = record all { entries = filter (λ e. not (test e)) all.entries }
