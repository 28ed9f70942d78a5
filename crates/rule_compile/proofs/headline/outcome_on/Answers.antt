use Rattle.std.proofs.Common.{ℕ, List, subst}
use Rattle.bpf_code.specs.declared.instruction.Ins.{Ins}
use Rattle.bpf_code.specs.Steps.{Ends}
use Rattle.message_view.specs.Message.{Message}
use Rattle.message_view.specs.Valid.{Valid}
use Rattle.summary.specs.declared.edition.Edition.{Edition}
use Rattle.summary.specs.ImageBytes.{image_bytes}
use Rattle.rule_compile.proofs.headline.outcome_on.Goals as goal

pub returns : goal.returns
returns c =
    let program : List Ins = c.args.program.now in
    let slots : List ℕ = c.args.owned.now in
    let verdict : ℕ = c.run.result.verdict in
    let steps : ℕ = c.run.result.steps in
    let m : Message = c.raw-bytes.ensures.spells.0 in
    let valid : Valid c.args.view.now m = c.raw-bytes.ensures.spells.1 in
    let ends : Ends program (image_bytes c.args.edition m slots) verdict steps = subst (λ (bytes : List ℕ). Ends program bytes verdict steps) (c.new-image.ensures m valid) c.run.ensures.ends in
    record {
      message = m;
      valid = valid;
      accepted = c.code-code.ensures.well_formed;
      ends = ends;
      within = c.run.ensures.few;
      decides = λ rule slot owned compiled set agree half_number.
          compiled c.args.view.now m slots owned verdict steps valid set agree (subst (λ (edition : Edition). Ends program (image_bytes edition m slots) verdict steps) half_number ends);
    }
