use Rattle.std.proofs.Common.{◌+◌, ◌-◌, ◌∷◌, ℕ, length, drop, take, sym, ap, ◌∙◌, arith}
use Rattle.bpf_code.specs.declared.operation.Test.TheVariants.{Equal, AtLeast}
use Rattle.rule_compile.specs.Code.{image_word, branch, same_bytes, has_len}
use Rattle.rule_compile.proofs.FolderParts.{rest_of, inner, follow_parts_before, follow_parts_last}
use Rattle.rule_compile.proofs.piece.Code.follow_parts.Goals as goal

pub loop-start-init : goal.loop-start-init
loop-start-init c =
    let from = c.part_start-start.ensures in (
      (rw (rest_of c.args.value.now c.part_start-start.result) at c.in_ok-last_part.ensures) ∙ sym (follow_parts_last c.args.at c.part_start-start.result c.args.value.now c.args.self.now from.before from.one),
      from.before,
      from.slash,
    )

pub loop-start-preserved : goal.loop-start-preserved
loop-start-preserved c =
    let at = c.args.at in
    let value = c.args.value.now in
    let old = c.args.self.now in
    let from = c.part_start-start-in-loop-start.ensures in
    let start = c.part_start-start-in-loop-start.result in
    let end = c.loop-start.start in
    let part = take (end - start) (drop start value) in
    let more = c.loop-start.self in (
      c.in_ok-inner_part.ensures ∙ ap (λ (exit_len : ℕ). has_len AtLeast (start + length part) at (same_bytes start part (image_word (at + 4) ∷ branch Equal (start + length part) (length more - exit_len) 0 ∷ more))) c.len-exit_len.ensures.value ∙ ap (inner at start part old) c.loop-start.invariant.0 ∙ sym (follow_parts_before at start end value old from.before c.loop-start.invariant.1 from.one (c.loop-start.invariant.2 (omega arith))),
      omega arith,
      from.slash,
    )
