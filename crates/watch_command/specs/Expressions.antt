-- Inner: what a filter expression that runs here is kept as.
use Rattle.std.specs.Prelude.{◌≡◌, ℕ, List, []}
use Rattle.bpf_code.specs.declared.instruction.Ins.{Ins}
use Rattle.filter.specs.FilterTree.{FilterTree}
use Rattle.filter.specs.Grammar.{ReadsAs}
use Rattle.filter_compile.specs.Compiled.{IsCompiled}
use Rattle.filter_compile.specs.Names.{names_of}

-- the text reads as a filter that asks who owns no name, and the program is the filter's
pub record IsExpression (text : List ℕ) (filter : FilterTree) (program : List Ins) : Type 0 where
  pub reads : ReadsAs text filter
  pub compiled : IsCompiled filter program
  pub nameless : names_of filter ≡ []
