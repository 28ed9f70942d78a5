use Rattle.std.proofs.Common.{◌-◌, [], ◌∷◌, drop, take, sym, ap, ◌∙◌, arith, List}
use Rattle.bpf_code.specs.declared.instruction.Ins.{Ins}
use Rattle.rule_compile.proofs.FolderParts.{rest_of}
use Rattle.filter_compile.specs.Pieces.{inner_part, follow_parts}
use Rattle.filter_compile.proofs.NestedPaths.{follow_before, follow_last}
use Rattle.filter_compile.proofs.code.Code.follow_parts.Goals as goal

pub loop-start-init : goal.loop-start-init
loop-start-init c =
    let at = c.args.at in
    let value = c.args.value.now in
    let exits = c.args.exits in
    let old = c.args.self.now in
    let from = c.part_start-start.ensures in
    let start = c.part_start-start.result in (
      ◌∙◌ {b = follow_parts at start (drop start value ∷ []) exits old} (rw (rest_of value start) at c.in_ok-last_part.ensures) (sym (follow_last at start value exits old from.before from.one)),
      from.before,
      from.slash,
    )

pub loop-start-preserved : goal.loop-start-preserved
loop-start-preserved c =
    let at = c.args.at in
    let value = c.args.value.now in
    let exits = c.args.exits in
    let old = c.args.self.now in
    let from = c.part_start-start-in-loop-start.ensures in
    let start = c.part_start-start-in-loop-start.result in
    let end = c.loop-start.start in
    let part = take (end - start) (drop start value) in (
      c.in_ok-inner_part.ensures ∙ ap (λ (later : List Ins). inner_part at start part exits later) c.loop-start.invariant.0 ∙ sym (follow_before at start end value exits old from.before c.loop-start.invariant.1 from.one (c.loop-start.invariant.2 (omega arith))),
      omega arith,
      from.slash,
    )
