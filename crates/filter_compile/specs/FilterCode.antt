-- Inner: the programs of filters. `and`, `or` and `not` take no instruction.
use Rattle.std.specs.Prelude.{ℕ, List, ◌∷◌, length, nat_lt, if◌then◌else◌}
use Rattle.bpf_code.specs.declared.instruction.Ins.{Ins}
use Rattle.jump_islands.specs.Source.{jump_over}
use Rattle.rule_compile.specs.RuleCode.{verdicts}
use Rattle.filter.specs.FilterTree.{FilterTree, FilterTrees, test, all, any, negation, no_filters, one_more}
use Rattle.filter_compile.specs.declared.exits.Exits.{Exits}
use Rattle.filter_compile.specs.Entered.{Entered, whole}
use Rattle.filter_compile.specs.PieceOfTest.{test_code}
use Rattle.filter_compile.specs.Pieces.{turned, over}

-- In front of a rest, with these exits. A list of no filters begins at an exit.
abbrev mutual
  pub filter_code : List (List ℕ) → FilterTree → Exits → List Ins → Entered
  filter_code names (test t) exits rest = whole (test_code names t exits rest)
  filter_code names (all fs) exits rest = all_code names fs exits.fails (record { code = rest; entry = exits.holds })
  filter_code names (any fs) exits rest = any_code names fs exits.holds (record { code = rest; entry = exits.fails })
  filter_code names (negation f) exits rest = filter_code names f (turned exits) rest

  -- each filter holds: one that does goes on with those after it
  pub all_code : List (List ℕ) → FilterTrees → ℕ → Entered → Entered
  all_code names no_filters fails end = end
  all_code names (one_more f fs) fails end =
      let later = all_code names fs fails end in filter_code names f (record { holds = later.entry; fails = fails }) later.code

  -- one filter holds: one that doesn't goes on with those after it
  pub any_code : List (List ℕ) → FilterTrees → ℕ → Entered → Entered
  any_code names no_filters holds end = end
  any_code names (one_more f fs) holds end =
      let later = any_code names fs holds end in filter_code names f (record { holds = holds; fails = later.entry }) later.code

-- the program from its entry on
abbrev pub from_entry : List Ins → ℕ → List Ins
from_entry code entry = if nat_lt entry (length code) then jump_over (over code entry) ∷ code else code

-- the exits: a match, and no match
abbrev pub last_exits : Exits
last_exits = record { holds = 2; fails = 1 }

-- the program of a filter, before it is lowered: its jumps may go over any number of instructions
abbrev pub program_code : List (List ℕ) → FilterTree → List Ins
program_code names f =
    let entered = filter_code names f last_exits verdicts in from_entry entered.code entered.entry
