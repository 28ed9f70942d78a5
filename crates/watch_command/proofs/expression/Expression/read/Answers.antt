use Rattle.std.proofs.Common.{ℕ, List, sym, ap, subst, ◌∙◌, option_map, string_bytes}
use Rattle.filter.specs.FilterTree.{FilterTree}
use Rattle.filter.specs.Filters.{tree_of}
use Rattle.filter.specs.Grammar.{ReadsAs}
use Rattle.filter_compile.specs.Names.{names_of}
use Rattle.watch_command.proofs.Expressions.{nameless}
use Rattle.watch_command.proofs.expression.Expression.read.Goals as goal

pub invariant_of-result : goal.invariant_of-result
invariant_of-result c =
    let f : FilterTree = tree_of c.in_ok-filter.filter in record {
      reads = subst (λ (text : List ℕ). ReadsAs text f) (sym c.in_ok-text.ensures.ok) c.in_ok-filter.ensures.found;
      compiled = c.in_ok-program.ensures.compiled;
      nameless = nameless (names_of f) (sym c.in_ok-name.ensures ∙ ap (option_map string_bytes) c.in_default.is);
    }
