-- The text of a program so far, and a line more.
use Rattle.std.proofs.Common.{◌≡◌, ℕ, ◌+◌, ◌<◌, Bool, false, List, ◌∷◌, ◌++◌, length, drop, get_or, add-one, Some, Result, Ok, Err, refl, sym, ap, ◌∙◌, append_assoc}
use Rattle.std.proofs.Math.Seq.{drop-cons}
use Rattle.bpf_code.specs.declared.instruction.Ins.{Ins}
use Rattle.bpf_code.specs.declared.error.CodeError.{CodeError}
use Rattle.bpf_code.specs.declared.operation.Op.{Op}
use Rattle.bpf_code.specs.Table.{op_of}
use Rattle.bpf_text.specs.Printing.{is_target, line_text, leaves, then_text, text_from, text_of}

text_more : (out line : List ℕ) (later : Result (List ℕ) CodeError) → then_text out (then_text line later) ≡ then_text (out ++ line) later
text_more out line (Ok rest) = simp append_assoc
text_more out line (Err e) = refl

pub line_more : (program : List Ins) (place : ℕ) (d : Ins) (op : Op) (target : Bool) (out longer : List ℕ) → place < length program → op_of (get_or program place d).code ≡ Some op → leaves (length program) place op (get_or program place d) ≡ false → target ≡ is_target place 0 program → longer ≡ out ++ line_text place target op (get_or program place d) → then_text out (text_from program place (drop place program)) ≡ text_of program → then_text longer (text_from program (place + 1) (drop (place + 1) program)) ≡ text_of program
line_more program place d op target out longer inside row stays jumped pushed h =
    let ins : Ins = get_or program place d in
    let line : List ℕ = line_text place (is_target place 0 program) op ins in
    let later : Result (List ℕ) CodeError = text_from program (place + 1) (drop (place + 1) program) in
    let all : drop place program ≡ ins ∷ drop (place + 1) program = rw (add-one, drop-cons program place d) refl in
    let here : text_from program place (ins ∷ drop (place + 1) program) ≡ then_text line later = rw (row, stays) refl in
    let longer_is : longer ≡ out ++ line = rw jumped at pushed in
    rw longer_is (sym (text_more out line later) ∙ ap (λ (text : Result (List ℕ) CodeError). then_text out text) (sym here) ∙ (rw all at h))
