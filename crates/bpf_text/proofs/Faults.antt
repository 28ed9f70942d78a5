-- The faults of a program whose lines are all of the form.
use Rattle.std.proofs.Common.{◌≡◌, ℕ, ◌+◌, Bool, true, false, List, [], ◌∷◌, Option, Some, None, Result, Ok, Err, cond, refl, sym, ap, ◌∙◌, subst, ◌⊎◌, inl, inr}
use Rattle.bpf_code.specs.declared.instruction.Ins.{Ins}
use Rattle.bpf_code.specs.declared.operation.Op.{Op}
use Rattle.bpf_code.specs.declared.error.CodeError.{CodeError}
use Rattle.bpf_code.specs.declared.error.CodeError.TheVariants as errors
use Rattle.bpf_text.specs.Operands.{One, Both}
use Rattle.bpf_text.specs.Rows.{LabelIns, Jumps, Stays, Goes, Parts}
use Rattle.bpf_text.specs.Source.{Label, count_row, Line, AreLines, lines_of, distance, far_or, goes_by, parts_by, resolve_by, resolve, with_ins, with_row, IsTextFault}
use Rattle.bpf_text.specs.Sketches.{Noted, Sketch, sketch_of, noted_program, program_in}
use Rattle.bpf_text.proofs.SketchedPrograms.{program_sketched}

-- a label's fault or a jump's
abbrev IsJumps : CodeError → Type 0
IsJumps (errors.Label line) = Unit {0}
IsJumps (errors.FarJump line) = Unit {0}
IsJumps _ = ⊥

same_error : {T : Type 0} (d e : CodeError) → ◌≡◌ {A = Result T CodeError} (Err d) (Err e) → d ≡ e
same_error d e h = cc

is_same : {T : Type 0} (d e : CodeError) → IsJumps d → ◌≡◌ {A = Result T CodeError} (Err d) (Err e) → IsJumps e
is_same d e is h = subst IsJumps (same_error d e h) is

far_fault : (line : ℕ) (near : Bool) (ins : Ins) (e : CodeError) → far_or line near ins ≡ Err e → IsJumps e
far_fault line true ins e h = absurd (cc)
far_fault line false ins e h = is_same (errors.FarJump line) e tt h

goes_fault : (line : ℕ) (op : Op) (d : Option ℕ) (e : CodeError) → goes_by line op d ≡ Err e → IsJumps e
goes_fault line op None e h = is_same (errors.Label line) e tt h
goes_fault line op (Some d) e h = far_fault line _ _ e h

parts_fault : (line : ℕ) (op : Op) (k : ℕ) (d f : Option ℕ) (e : CodeError) → parts_by line op k d f ≡ Err e → IsJumps e
parts_fault line op k None f e h = is_same (errors.Label line) e tt h
parts_fault line op k (Some d) None e h = is_same (errors.Label line) e tt h
parts_fault line op k (Some d) (Some f) e h = far_fault line _ _ e h

by_fault : (labels : List Label) (count place line : ℕ) (op : Op) (k : ℕ) (jumps : Jumps) (e : CodeError) → resolve_by labels count place line op k jumps ≡ Err e → IsJumps e
by_fault labels count place line op k Stays e h = absurd (cc)
by_fault labels count place line op k (Goes name) e h = goes_fault line op (distance labels count place name) e h
by_fault labels count place line op k (Parts (One first)) e h = parts_fault line op k (distance labels count place first) (Some 0) e h
by_fault labels count place line op k (Parts (Both first second)) e h = parts_fault line op k (distance labels count place first) (distance labels count place second) e h

resolve_fault : (labels : List Label) (count place line : ℕ) (row : LabelIns) (e : CodeError) → resolve labels count place line row ≡ Err e → IsJumps e
unfolding resolve
resolve_fault labels count place line row e h = by_fault labels count place line row.op row.k row.jumps e h

ins_fault : (ins : Result Ins CodeError) (rest : Result (List Ins) CodeError) (e : CodeError) → ((d : CodeError) → ins ≡ Err d → IsJumps d) → ((d : CodeError) → rest ≡ Err d → IsJumps d) → with_ins ins rest ≡ Err e → IsJumps e
ins_fault (Err d) rest e first later h = is_same d e (first d refl) h
ins_fault (Ok ins) (Err d) e first later h = is_same d e (later d refl) h
ins_fault (Ok ins) (Ok program) e first later h = absurd (cc)

row_fault : (labels : List Label) (count place line : ℕ) (row : Option LabelIns) (rest : Result (List Ins) CodeError) (e : CodeError) → ((d : CodeError) → rest ≡ Err d → IsJumps d) → with_row labels count place line row rest ≡ Err e → IsJumps e
row_fault labels count place line None rest e later h = later e h
row_fault labels count place line (Some row) rest e later h = ins_fault (resolve labels count place line row) rest e (λ d is. resolve_fault labels count place line row d is) later h

again_fault : (line : ℕ) (again : Bool) (rest : Result (List Ins) CodeError) (e : CodeError) → ((d : CodeError) → rest ≡ Err d → IsJumps d) → (cond again (Err (errors.Label line)) rest) ≡ Err e → IsJumps e
again_fault line true rest e later h = is_same (errors.Label line) e tt h
again_fault line false rest e later h = later e h

from_fault : (labels : List Label) (count place line : ℕ) (lines : List Noted) (e : CodeError) → noted_program labels count place line lines ≡ Err e → IsJumps e
from_fault labels count place line [] e h = absurd (cc)
from_fault labels count place line (noted ∷ lines) e h =
    again_fault line noted.again _ e (λ d is. row_fault labels count place line noted.row _ d (λ f more. from_fault labels count (place + count_row noted.row) (line + 1) lines f more) is) h

-- the fault of a program is the text's
pub text_fault : (text : List ℕ) (lines : List Line) (sketch : Sketch) (e : CodeError) → AreLines (lines_of text) lines → sketch ≡ sketch_of lines → (e ≡ errors.NoMemory) ⊎ (program_in sketch ≡ Err e) → IsTextFault text e
text_fault text lines sketch e are is (inl none) = subst (IsTextFault text) (sym none) tt
text_fault text lines sketch (errors.Label line) are is (inr fault) = (lines, are, program_sketched lines ∙ ap program_in (sym is) ∙ fault)
text_fault text lines sketch (errors.FarJump line) are is (inr fault) = (lines, are, program_sketched lines ∙ ap program_in (sym is) ∙ fault)
text_fault text lines sketch errors.NoMemory are is (inr fault) = tt
text_fault text lines sketch errors.Length are is (inr fault) = absurd (from_fault sketch.labels sketch.count 0 1 sketch.lines errors.Length fault)
text_fault text lines sketch (errors.Code place) are is (inr fault) = absurd (from_fault sketch.labels sketch.count 0 1 sketch.lines (errors.Code place) fault)
text_fault text lines sketch (errors.Line line) are is (inr fault) = absurd (from_fault sketch.labels sketch.count 0 1 sketch.lines (errors.Line line) fault)
