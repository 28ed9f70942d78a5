use Rattle.std.proofs.Common.{◌≡◌, List, ◌++◌, ap, sym, subst, ◌∙◌}
use Rattle.bpf_code.specs.declared.instruction.Ins.{Ins}
use Rattle.filter.specs.Filters.{tree_of}
use Rattle.peers.specs.Attachments.{IsProgramOf}
use Rattle.peers.proofs.filters.program_of.Goals as goal

pub returns-in_ok-extend_from_slice-in-Ok : goal.returns-in_ok-extend_from_slice-in-Ok
returns-in_ok-extend_from_slice-in-Ok c =
    let same : c.extend_from_slice.new.self.items ≡ c.in-Ok.verified = c.in_ok-extend_from_slice-in-Ok.ensures.items ∙ ap (λ (l : List Ins). l ++ c.code.result.now) c.new-program.ensures.items ∙ c.code.ensures.value in
    let P : List Ins → Type 0 = IsProgramOf (tree_of c.args.filter.now) in
    subst P (sym same) (c.code.ensures.well_formed, c.in-Ok.ensures.compiled)
