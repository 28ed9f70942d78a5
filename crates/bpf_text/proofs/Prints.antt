-- The faults of a program that has no text.
use Rattle.std.proofs.Common.{◌≡◌, ℕ, ◌+◌, Bool, true, false, cond, List, [], ◌∷◌, length, Option, Some, None, Result, Ok, Err, refl, sym, subst, ◌⊎◌, inl, inr}
use Rattle.bpf_code.specs.declared.instruction.Ins.{Ins}
use Rattle.bpf_code.specs.declared.operation.Op.{Op}
use Rattle.bpf_code.specs.declared.error.CodeError.{CodeError}
use Rattle.bpf_code.specs.declared.error.CodeError.TheVariants as errors
use Rattle.bpf_code.specs.Table.{op_of}
use Rattle.bpf_text.specs.Printing.{is_target, line_text, leaves, then_text, line_by, text_from, text_of, IsPrintFault}

-- a fault of a place
abbrev IsOfPlace : CodeError → Type 0
IsOfPlace (errors.Code place) = Unit {0}
IsOfPlace (errors.Label place) = Unit {0}
IsOfPlace _ = ⊥

same_error : {T : Type 0} (d e : CodeError) → ◌≡◌ {A = Result T CodeError} (Err d) (Err e) → d ≡ e
same_error d e h = cc

is_same : (d e : CodeError) → IsOfPlace d → ◌≡◌ {A = Result (List ℕ) CodeError} (Err d) (Err e) → IsOfPlace e
is_same d e is h = subst IsOfPlace (same_error d e h) is

then_fault : (line : List ℕ) (later : Result (List ℕ) CodeError) (e : CodeError) → ((d : CodeError) → later ≡ Err d → IsOfPlace d) → then_text line later ≡ Err e → IsOfPlace e
then_fault line (Ok rest) e more h = absurd (cc)
then_fault line (Err d) e more h = is_same d e (more d refl) h

out_fault : (place : ℕ) (out : Bool) (here : Result (List ℕ) CodeError) (e : CodeError) → ((d : CodeError) → here ≡ Err d → IsOfPlace d) → cond out (Err (errors.Label place)) here ≡ Err e → IsOfPlace e
out_fault place true here e more h = is_same (errors.Label place) e tt h
out_fault place false here e more h = more e h

by_fault : (program : List Ins) (place : ℕ) (ins : Ins) (row : Option Op) (later : Result (List ℕ) CodeError) (e : CodeError) → ((d : CodeError) → later ≡ Err d → IsOfPlace d) → line_by program place ins row later ≡ Err e → IsOfPlace e
by_fault program place ins None later e more h = is_same (errors.Code place) e tt h
by_fault program place ins (Some op) later e more h =
    out_fault place (leaves (length program) place op ins) (then_text (line_text place (is_target place 0 program) op ins) later) e (λ d is. then_fault (line_text place (is_target place 0 program) op ins) later d more is) h

from_fault : (program : List Ins) (place : ℕ) (rest : List Ins) (e : CodeError) → text_from program place rest ≡ Err e → IsOfPlace e
from_fault program place [] e h = absurd (cc)
from_fault program place (ins ∷ rest) e h =
    by_fault program place ins (op_of ins.code) (text_from program (place + 1) rest) e (λ d is. from_fault program (place + 1) rest d is) h

pub print_fault : (program : List Ins) (e : CodeError) → (e ≡ errors.NoMemory) ⊎ (text_of program ≡ Err e) → IsPrintFault program e
print_fault program e (inl none) = subst (IsPrintFault program) (sym none) tt
print_fault program (errors.Code place) (inr fault) = fault
print_fault program (errors.Label place) (inr fault) = fault
print_fault program errors.NoMemory (inr fault) = tt
print_fault program errors.Length (inr fault) = absurd (from_fault program 0 program errors.Length fault)
print_fault program (errors.Line line) (inr fault) = absurd (from_fault program 0 program (errors.Line line) fault)
print_fault program (errors.FarJump line) (inr fault) = absurd (from_fault program 0 program (errors.FarJump line) fault)
