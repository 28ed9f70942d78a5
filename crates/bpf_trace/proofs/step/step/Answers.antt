use Rattle.std.proofs.Common.{◌≡◌, ℕ, ◌<◌, List, length, Option, Some, sym, subst}
use Rattle.bpf_code.specs.declared.instruction.Ins.{Ins}
use Rattle.bpf_code.specs.declared.operation.Op.{Op}
use Rattle.bpf_code.specs.Effects.{SetWord, effect_of}
use Rattle.bpf_code.specs.Program.{IsFine}
use Rattle.bpf_machine.proofs.Rows.{At_out, SuitsIfSome, effect_suits}
use Rattle.bpf_trace.specs.declared.effect.Effect.{Effect}
use Rattle.bpf_trace.specs.declared.effect.Effect.TheVariants as doing
use Rattle.bpf_trace.specs.Views.{effect_by, IsWordFine}
use Rattle.bpf_trace.proofs.step.step.Goals as goal

-- an instruction sets one of the sixteen words
word_fine : (len place : ℕ) (op : Op) (ins : Ins) (image : List ℕ) (a x : ℕ) (word : Option ℕ) (effect : Effect) → IsFine len place op ins → effect_of op ins image a x word ≡ Some (effect_by effect) → IsWordFine ins.k effect
word_fine len place op ins image a x word (doing.SetWord v) fine is =
    let suits : SuitsIfSome place op ins (Some (SetWord v)) = subst (SuitsIfSome place op ins) is (effect_suits len place op ins image a x word fine) in
    suits.2
word_fine len place op ins image a x word _ fine is = tt

pub after-requires-clause-word : goal.after-requires-clause-word
after-requires-clause-word c =
    let at = rw c.code-code.ensures.value at c.instruction_at-ins.ensures in
    let inside : c.args.at.now.place < length c.args.program.now = rw c.code-code.ensures.value at c.if-at-code.false in
    let fine = At_out c.args.program.now c.args.at.now.place c.instruction_at-ins.result.now c.in_ok-op.op (IsFine (length c.args.program.now) c.args.at.now.place) at (sym c.in_ok-op.ensures) (c.code-code.ensures.well_formed.fine c.args.at.now.place inside) in
    word_fine (length c.args.program.now) c.args.at.now.place c.in_ok-op.op c.instruction_at-ins.result.now c.args.image.now _ _ _ c.in_ok-effect.effect fine (sym c.in_ok-effect.ensures)
