-- A program that is accepted has a text.
use Rattle.std.proofs.Common.{◌≡◌, ℕ, suc, ◌+◌, true, false, nat_lt, List, [], ◌∷◌, ◌++◌, length, Option, Some, None, Result, Ok, refl, ap, arith}
use Rattle.std.specs.Option.{IsSomeAnd}
use Rattle.std.specs.List.{slice_get}
use Rattle.std.proofs.lemmas.Bool.Decides.{Decides-ltb}
use Rattle.bpf_code.specs.declared.instruction.Ins.{Ins}
use Rattle.bpf_code.specs.declared.error.CodeError.{CodeError}
use Rattle.bpf_code.specs.declared.error.CodeError.TheVariants as errors
use Rattle.bpf_code.specs.declared.operation.Op.{Op}
use Rattle.bpf_code.specs.declared.operation.Op.TheVariants.{LoadConstant, LoadImage, LoadIndexed, LoadScratch, LoadLength, IndexConstant, IndexScratch, IndexLength, IndexHeader, StoreA, StoreX, Compute, Negate, Jump, Branch, ReturnConstant, ReturnA, IndexFromA, LoadFromX}
use Rattle.bpf_code.specs.Table.{op_of}
use Rattle.bpf_code.specs.Flow.{At}
use Rattle.bpf_code.specs.Program.{IsFine, IsJumpFine, WellFormed}
use Rattle.bpf_text.specs.Printing.{is_target, line_text, leaves, line_by, text_from, text_of, IsPrintFault}

-- a jump that is fine stays inside
stays : (len place : ℕ) (op : Op) (ins : Ins) → IsJumpFine len place op ins → leaves len place op ins ≡ false
stays len place LoadConstant ins fine = refl
stays len place (LoadImage width) ins fine = refl
stays len place (LoadIndexed width) ins fine = refl
stays len place LoadScratch ins fine = refl
stays len place LoadLength ins fine = refl
stays len place IndexConstant ins fine = refl
stays len place IndexScratch ins fine = refl
stays len place IndexLength ins fine = refl
stays len place IndexHeader ins fine = refl
stays len place StoreA ins fine = refl
stays len place StoreX ins fine = refl
stays len place (Compute arithmetic operand) ins fine = refl
stays len place Negate ins fine = refl
stays len place ReturnConstant ins fine = refl
stays len place ReturnA ins fine = refl
stays len place IndexFromA ins fine = refl
stays len place LoadFromX ins fine = refl
stays len place Jump ins fine =
    let inside : nat_lt (place + 1 + ins.k) len ≡ true = (Decides-ltb (place + 1 + ins.k) len).1 fine in
    rw inside refl
stays len place (Branch test operand) ins fine =
    let either : nat_lt (place + 1 + ins.jt) len ≡ true = (Decides-ltb (place + 1 + ins.jt) len).1 fine.0 in
    let other : nat_lt (place + 1 + ins.jf) len ≡ true = (Decides-ltb (place + 1 + ins.jf) len).1 fine.1 in
    rw (either, other) refl

abbrev HasText : Result (List ℕ) CodeError → Type 0
HasText found = (text : List ℕ) × (found ≡ Ok text)

line_here : (program : List Ins) (place : ℕ) (ins : Ins) (row : Option Op) (later : Result (List ℕ) CodeError) → HasText later → IsSomeAnd row (λ op. IsFine (length program) place op ins) → HasText (line_by program place ins row later)
line_here program place ins None later text fine = absurd fine
line_here program place ins (Some op) later text fine =
    let line : List ℕ = line_text place (is_target place 0 program) op ins in
    (line ++ text.0, rw (stays (length program) place op ins fine.jump, text.1) refl)

-- these are the instructions from a place on
abbrev AreFrom : List Ins → ℕ → List Ins → Type 0
AreFrom program place rest = (i : ℕ) → slice_get rest i ≡ slice_get program (i + place)

here : (program : List Ins) (place : ℕ) (ins : Ins) (more : List Ins) → AreFrom program place (ins ∷ more) → slice_get program place ≡ Some ins
here program place ins more are =
    let e : 0 + place ≡ place = omega arith in
    let is : Some ins ≡ slice_get program (0 + place) = are 0 in
    let there : Some ins ≡ slice_get program place = rw e at is in
    cc

tail : (program : List Ins) (place : ℕ) (ins : Ins) (more : List Ins) → AreFrom program place (ins ∷ more) → AreFrom program (place + 1) more
tail program place ins more are = λ i.
    let e : suc i + place ≡ i + (place + 1) = omega arith in
    let is : slice_get more i ≡ slice_get program (suc i + place) = are (suc i) in
    rw e at is

texts : (program : List Ins) → WellFormed program → (rest : List Ins) (place : ℕ) → place + length rest ≡ length program → AreFrom program place rest → HasText (text_from program place rest)
texts program fine [] place end are = ([], refl)
texts program fine (ins ∷ more) place end are =
    let later = texts program fine more (place + 1) (omega arith) (tail program place ins more are) in
    let at : slice_get program place ≡ Some ins = here program place ins more are in
    let place_fine : At program place (IsFine (length program) place) = fine.fine place (omega arith) in
    line_here program place ins (op_of ins.code) (text_from program (place + 1) more) later (rw at at place_fine)

pub has_text : (program : List Ins) → WellFormed program → HasText (text_of program)
has_text program fine = texts program fine program 0 (omega arith) (λ i. let e : i ≡ i + 0 = omega arith in ap (slice_get program) e)

-- nothing but want of memory keeps it from being printed
pub only_memory : (program : List Ins) (error : CodeError) → WellFormed program → IsPrintFault program error → error ≡ errors.NoMemory
only_memory program errors.Length fine is = absurd is
only_memory program (errors.Code place) fine is = let text = has_text program fine in let found : text_of program ≡ Ok text.0 = text.1 in absurd (cc)
only_memory program (errors.Line line) fine is = absurd is
only_memory program (errors.Label place) fine is = let text = has_text program fine in let found : text_of program ≡ Ok text.0 = text.1 in absurd (cc)
only_memory program (errors.FarJump line) fine is = absurd is
only_memory program errors.NoMemory fine is = refl
