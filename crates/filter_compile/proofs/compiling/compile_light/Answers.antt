use Rattle.std.proofs.Common.{◌≡◌, ℕ, List, ◌∙◌, ap}
use Rattle.std.proofs.lemmas.Result.{err_from_is_err_and}
use Rattle.filter.specs.FilterTree.{FilterTree}
use Rattle.filter.specs.Filters.{tree_of}
use Rattle.filter_compile.specs.FilterCode.{program_code}
use Rattle.filter_compile.specs.Names.{names_of}
use Rattle.filter_compile.proofs.CompiledFilter.{compiled, refused}
use Rattle.filter_compile.proofs.FilterLength.{filter_length}
use Rattle.filter_compile.proofs.compiling.compile_light.Goals as goal

pub returns-in_err-program-clause-refused : goal.returns-in_err-program-clause-refused
returns-in_err-program-clause-refused c =
    let f : FilterTree = tree_of c.args.filter.now in
    let same : c.in_ok-code.code ≡ program_code (names_of f) f = c.in_ok-code.ensures.value ∙ ap (λ (names : List (List ℕ)). program_code names f) c.in_ok-names.ensures.value in
    let p = err_from_is_err_and c.from_residual-in_err-program.result c.from_residual-in_err-program.ensures.1 in
    rw (p.1, p.2) (refused f (program_code (names_of f) f) c.in_err-program.field-0.0 (rw same at c.in_err-program.ensures.refused) (filter_length (names_of f) f))

pub returns-clause-compiled : goal.returns-clause-compiled
returns-clause-compiled c =
    let f : FilterTree = tree_of c.args.filter.now in
    let same : c.in_ok-code.code ≡ program_code (names_of f) f = c.in_ok-code.ensures.value ∙ ap (λ (names : List (List ℕ)). program_code names f) c.in_ok-names.ensures.value in
    rw c.verified_program.ensures (compiled f c.in_ok-program.program.items c.have_bytes.ensures c.requires.weight (rw same at c.in_ok-program.ensures.lowered))
