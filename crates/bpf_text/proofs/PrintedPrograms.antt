-- A printed text names the program that it was printed from, with 0 in each field that isn't used.
use Rattle.std.proofs.Common.{◌≡◌, ℕ, ◌+◌, ◌-◌, ◌<◌, ◌^◌, true, List, [], ◌∷◌, length, map, Some, Result, Ok, Err, refl, sym, ap, ◌∙◌, subst, arith, lt-ltb, All, ◌↔◌, IfOk, OnOk, String, string_bytes}
use Rattle.std.specs.Prelude.{◌==◌, nat_lt}
use Rattle.std.specs.List.{AllByRecursion}
use Rattle.bpf_code.specs.declared.instruction.Ins.{Ins}
use Rattle.bpf_code.specs.declared.error.CodeError.{CodeError}
use Rattle.bpf_code.specs.declared.operation.Op.{Op}
use Rattle.bpf_code.specs.declared.operation.Op.TheVariants.{LoadConstant, LoadImage, LoadIndexed, LoadScratch, LoadLength, IndexConstant, IndexScratch, IndexLength, IndexHeader, StoreA, StoreX, Compute, Negate, Jump, Branch, ReturnConstant, ReturnA, IndexFromA, LoadFromX}
use Rattle.bpf_code.specs.declared.operation.Operand.TheVariants.{Constant, Index}
use Rattle.bpf_code.specs.Table.{op_of, code_of}
use Rattle.bpf_code.specs.Program.{IsJumpFine}
use Rattle.bpf_text.specs.Printing.{jumps_by, is_target, text_from, text_of}
use Rattle.bpf_text.specs.Source.{Label, labels_from, count_of, defined, distance, parts_by, resolve, with_ins, program_of, SourceText}
use Rattle.bpf_text.specs.Sketches.{noted_from, noted_program}
use Rattle.bpf_text.specs.Used.{used_of, with_unused_zero_in, with_unused_zero, IsInRange}
use Rattle.std.proofs.lemmas.List.Elements.{All-head, All-tail}
use Rattle.std.proofs.lemmas.Bool.{or_left, or_right}
use Rattle.bpf_text.proofs.OneSource.{one_program}
use Rattle.bpf_text.proofs.CodesBack.{code_back}
use Rattle.bpf_text.proofs.PrintedTokens.{same_number, label_name}
use Rattle.bpf_text.proofs.PrintedOperands.{row_for}
use Rattle.bpf_text.proofs.PrintedTexts.{known_op, known_is, printed_lines, HasLine, has_line, jump_fine, are_lines}
use Rattle.bpf_text.proofs.PrintedLabels.{quiet, noted_printed, target_defined, count_printed}
use Rattle.bpf_text.proofs.SketchedPrograms.{program_sketched}

-- ---- one instruction

-- the labels of the targets of an instruction at a place are defined
abbrev Defines : List Label → ℕ → ℕ → Op → Ins → Type 0
Defines labels count place op ins = (to : ℕ) → to < count → jumps_by to place ins (Some op) ≡ true → defined labels (label_name to) ≡ Some to

ahead : (place d : ℕ) → (place + 1 + d) - place - 1 ≡ d
ahead place d = omega arith

distance_is : (labels : List Label) (count place d : ℕ) → place + 1 + d < count → defined labels (label_name (place + 1 + d)) ≡ Some (place + 1 + d) → distance labels count place (label_name (place + 1 + d)) ≡ Some d
unfolding distance
distance_is labels count place d inside is =
    let before : nat_lt place (place + 1 + d) ≡ true = lt-ltb place (place + 1 + d) (omega arith) in
    let below : nat_lt (place + 1 + d) count ≡ true = lt-ltb (place + 1 + d) count inside in
    rw (is, before, below) (ap (λ (n : ℕ). Some n) (ahead place d))

stays : (op : Op) (ins : Ins) (k : ℕ) → code_of op ≡ ins.code → ◌≡◌ {A = Result Ins CodeError} (Ok (record { code = code_of op; jt = 0; jf = 0; k = k })) (Ok (record { code = ins.code; jt = 0; jf = 0; k = k }))
stays op ins k code = ap (λ (c : ℕ). Ok (record { code = c; jt = 0; jf = 0; k = k })) code

parts : (labels : List Label) (count place line k : ℕ) (op : Op) (ins : Ins) → code_of op ≡ ins.code → IsInRange ins → (place + 1 + ins.jt < count) × (place + 1 + ins.jf < count) → defined labels (label_name (place + 1 + ins.jt)) ≡ Some (place + 1 + ins.jt) → defined labels (label_name (place + 1 + ins.jf)) ≡ Some (place + 1 + ins.jf) → parts_by line op k (distance labels count place (label_name (place + 1 + ins.jt))) (distance labels count place (label_name (place + 1 + ins.jf))) ≡ Ok (record { code = ins.code; jt = ins.jt; jf = ins.jf; k = k })
parts labels count place line k op ins code fits inside first second =
    let yes_is : distance labels count place (label_name (place + 1 + ins.jt)) ≡ Some ins.jt = distance_is labels count place ins.jt inside.0 first in
    let no_is : distance labels count place (label_name (place + 1 + ins.jf)) ≡ Some ins.jf = distance_is labels count place ins.jf inside.1 second in
    let near : nat_lt ins.jt (2 ^ 8) ≡ true = lt-ltb ins.jt (2 ^ 8) fits.jt in
    let close : nat_lt ins.jf (2 ^ 8) ≡ true = lt-ltb ins.jf (2 ^ 8) fits.jf in
    rw (yes_is, no_is, near, close) (ap (λ (c : ℕ). Ok (record { code = c; jt = ins.jt; jf = ins.jf; k = k })) code)

resolved : (labels : List Label) (count place line : ℕ) (op : Op) (ins : Ins) → code_of op ≡ ins.code → IsInRange ins → IsJumpFine count place op ins → Defines labels count place op ins → resolve labels count place line (row_for place op ins) ≡ Ok (used_of ins (Some op))
unfolding resolve
resolved labels count place line LoadConstant ins code fits inside defines = stays LoadConstant ins ins.k code
resolved labels count place line (LoadImage width) ins code fits inside defines = stays (LoadImage width) ins ins.k code
resolved labels count place line (LoadIndexed width) ins code fits inside defines = stays (LoadIndexed width) ins ins.k code
resolved labels count place line LoadScratch ins code fits inside defines = stays LoadScratch ins ins.k code
resolved labels count place line LoadLength ins code fits inside defines = stays LoadLength ins 0 code
resolved labels count place line IndexConstant ins code fits inside defines = stays IndexConstant ins ins.k code
resolved labels count place line IndexScratch ins code fits inside defines = stays IndexScratch ins ins.k code
resolved labels count place line IndexLength ins code fits inside defines = stays IndexLength ins 0 code
resolved labels count place line IndexHeader ins code fits inside defines = stays IndexHeader ins ins.k code
resolved labels count place line StoreA ins code fits inside defines = stays StoreA ins ins.k code
resolved labels count place line StoreX ins code fits inside defines = stays StoreX ins ins.k code
resolved labels count place line (Compute f Constant) ins code fits inside defines = stays (Compute f Constant) ins ins.k code
resolved labels count place line (Compute f Index) ins code fits inside defines = stays (Compute f Index) ins 0 code
resolved labels count place line Negate ins code fits inside defines = stays Negate ins 0 code
resolved labels count place line Jump ins code fits inside defines =
    let is : distance labels count place (label_name (place + 1 + ins.k)) ≡ Some ins.k = distance_is labels count place ins.k inside (defines (place + 1 + ins.k) inside (same_number (place + 1 + ins.k))) in
    let near : nat_lt ins.k (2 ^ 32) ≡ true = lt-ltb ins.k (2 ^ 32) fits.k in
    rw (is, near) (ap (λ (c : ℕ). Ok (record { code = c; jt = 0; jf = 0; k = ins.k })) code)
resolved labels count place line (Branch test Constant) ins code fits inside defines =
    parts labels count place line ins.k (Branch test Constant) ins code fits inside
    (defines (place + 1 + ins.jt) inside.0 (or_left (place + 1 + ins.jt == place + 1 + ins.jt) (place + 1 + ins.jt == place + 1 + ins.jf) (same_number (place + 1 + ins.jt))))
    (defines (place + 1 + ins.jf) inside.1 (or_right (place + 1 + ins.jf == place + 1 + ins.jt) (place + 1 + ins.jf == place + 1 + ins.jf) (same_number (place + 1 + ins.jf))))
resolved labels count place line (Branch test Index) ins code fits inside defines =
    parts labels count place line 0 (Branch test Index) ins code fits inside
    (defines (place + 1 + ins.jt) inside.0 (or_left (place + 1 + ins.jt == place + 1 + ins.jt) (place + 1 + ins.jt == place + 1 + ins.jf) (same_number (place + 1 + ins.jt))))
    (defines (place + 1 + ins.jf) inside.1 (or_right (place + 1 + ins.jf == place + 1 + ins.jt) (place + 1 + ins.jf == place + 1 + ins.jf) (same_number (place + 1 + ins.jf))))
resolved labels count place line ReturnConstant ins code fits inside defines = stays ReturnConstant ins ins.k code
resolved labels count place line ReturnA ins code fits inside defines = stays ReturnA ins 0 code
resolved labels count place line IndexFromA ins code fits inside defines = stays IndexFromA ins 0 code
resolved labels count place line LoadFromX ins code fits inside defines = stays LoadFromX ins 0 code

-- ---- all instructions

-- the labels of the targets of instructions from a place on are defined
abbrev Knows : List Label → ℕ → ℕ → List Ins → Type 0
Knows labels count place rest = (to : ℕ) → to < count → is_target to place rest ≡ true → defined labels (label_name to) ≡ Some to

knows_here : (labels : List Label) (count place : ℕ) (ins : Ins) (rest : List Ins) (op : Op) → op_of ins.code ≡ Some op → Knows labels count place (ins ∷ rest) → Defines labels count place op ins
knows_here labels count place ins rest op is knows to low jumps =
    knows to low (or_left (jumps_by to place ins (op_of ins.code)) (is_target to (place + 1) rest) (ap (jumps_by to place ins) is ∙ jumps))

knows_later : (labels : List Label) (count place : ℕ) (ins : Ins) (rest : List Ins) → Knows labels count place (ins ∷ rest) → Knows labels count (place + 1) rest
knows_later labels count place ins rest knows to low target =
    knows to low (or_right (jumps_by to place ins (op_of ins.code)) (is_target to (place + 1) rest) target)

row_here : (labels : List Label) (count place line : ℕ) (ins : Ins) (op : Op) (rest : List Ins) (later : Result (List Ins) CodeError) → op_of ins.code ≡ Some op → IsInRange ins → IsJumpFine count place op ins → Defines labels count place op ins → later ≡ Ok rest → with_ins (resolve labels count place line (row_for place (known_op ins) ins)) later ≡ Ok (with_unused_zero_in ins ∷ rest)
row_here labels count place line ins op rest later is fits inside defines h =
    let same : known_op ins ≡ op = known_is ins op is in
    let here : resolve labels count place line (row_for place op ins) ≡ Ok (used_of ins (Some op)) = resolved labels count place line op ins (code_back ins.code op is) fits inside defines in
    let used : used_of ins (Some op) ≡ with_unused_zero_in ins = ap (used_of ins) (sym is) in
    ap (λ (o : Op). with_ins (resolve labels count place line (row_for place o ins)) later) same
    ∙ ap (λ (r : Result Ins CodeError). with_ins r later) here
    ∙ ap (λ (l : Result (List Ins) CodeError). with_ins (Ok (used_of ins (Some op))) l) h
    ∙ ap (λ (i : Ins). Ok (i ∷ rest)) used

jump_to_name : (program : List Ins) (labels : List Label) (place line : ℕ) (rest : List Ins) (text : List ℕ) → AllByRecursion IsInRange rest → Knows labels (length program) place rest → text_from program place rest ≡ Ok text → noted_program labels (length program) place line (map quiet (printed_lines program place rest)) ≡ Ok (with_unused_zero rest)
jump_to_name program labels place line [] text fits knows h = refl
jump_to_name program labels place line (ins ∷ rest) text (fits, later) knows h =
    let l : HasLine program place ins rest text = has_line program place ins rest text h in
    row_here labels (length program) place line ins l.op (with_unused_zero rest) (noted_program labels (length program) (place + 1) (line + 1) (map quiet (printed_lines program (place + 1) rest)))
    l.is fits (jump_fine (length program) place l.op ins l.stays) (knows_here labels (length program) place ins rest l.op l.is knows)
    (jump_to_name program labels (place + 1) (line + 1) rest l.later later (knows_later labels (length program) place ins rest knows) l.rest)

zero_plus : (n : ℕ) → 0 + n ≡ n
zero_plus n = omega arith

program_is : (program : List Ins) (text : List ℕ) → AllByRecursion IsInRange program → length program < 2 ^ 64 → text_of program ≡ Ok text → program_of (printed_lines program 0 program) ≡ Ok (with_unused_zero program)
program_is program text fits low h =
    let labels : List Label = labels_from 0 (printed_lines program 0 program) in
    let count : count_of (printed_lines program 0 program) ≡ length program = count_printed program 0 program in
    let quiets : noted_from [] 0 (printed_lines program 0 program) ≡ map quiet (printed_lines program 0 program) = noted_printed program [] 0 program tt (omega arith) in
    let knows : Knows labels (length program) 0 program = λ to inside target. target_defined program 0 program to (omega arith) (omega arith) (omega arith) target in
    program_sketched (printed_lines program 0 program) ∙ rw (count, quiets) (jump_to_name program labels 0 1 program text fits knows h)

source_printed : (program : List Ins) (text : List ℕ) → AllByRecursion IsInRange program → length program < 2 ^ 64 → text_of program ≡ Ok text → SourceText text (with_unused_zero program)
source_printed program text fits low h =
    (printed_lines program 0 program, are_lines program 0 program text fits (zero_plus (length program)) low h, program_is program text fits low h)

-- ---- the law

by_recursion : (program : List Ins) → All IsInRange program → AllByRecursion IsInRange program
by_recursion [] fits = tt
by_recursion (ins ∷ more) fits = (All-head IsInRange ins more fits, by_recursion more (All-tail IsInRange ins more fits))

pub names_itself : (program : List Ins) (text : List ℕ) → All IsInRange program → length program < 2 ^ 64 → text_of program ≡ Ok text → SourceText text (with_unused_zero program)
names_itself program text fits low h = source_printed program text (by_recursion program fits) low h

pub names_one : (program other : List Ins) (text : List ℕ) → All IsInRange program → length program < 2 ^ 64 → text_of program ≡ Ok text → (SourceText text other ↔ (other ≡ with_unused_zero program))
names_one program other text fits low h =
    let jump_to_name : SourceText text (with_unused_zero program) = names_itself program text fits low h in
    (λ (source : SourceText text other). one_program text other (with_unused_zero program) source jump_to_name, λ (same : other ≡ with_unused_zero program). subst (SourceText text) (sym same) jump_to_name)

pub names_same : (program other : List Ins) (text : List ℕ) → All IsInRange program → length program < 2 ^ 64 → with_unused_zero program ≡ program → text_of program ≡ Ok text → (SourceText text other ↔ (other ≡ program))
names_same program other text fits low zero_there h =
    let jump_to_name : SourceText text program = subst (SourceText text) zero_there (names_itself program text fits low h) in
    (λ (source : SourceText text other). one_program text other program source jump_to_name, λ (same : other ≡ program). subst (SourceText text) (sym same) jump_to_name)

pub source_of : {A : Type 0} (program : List Ins) (result : Result (String A) CodeError) → length program < 2 ^ 64 → OnOk result (All IsInRange program) → IfOk result (λ text. text_of program ≡ Ok (string_bytes text)) → IfOk result (λ text. SourceText (string_bytes text) (with_unused_zero program))
source_of program (Ok text) few widths found = names_itself program (string_bytes text) widths few found
source_of program (Err e) few widths found = found
