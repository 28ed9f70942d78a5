-- The lines of a printed text are those of its instructions.
use Rattle.std.proofs.Common.{◌≡◌, ℕ, ◌+◌, ◌<◌, ◌^◌, Bool, true, false, ◌&&◌, not, cond, List, [], ◌∷◌, ◌++◌, length, Option, Some, None, Result, Ok, Err, refl, sym, ap, ◌∙◌, subst, arith}
use Rattle.std.specs.Prelude.{nat_lt}
use Rattle.std.specs.List.{AllByRecursion}
use Rattle.std.proofs.lemmas.Bool.Decides.{nat_tests}
use Rattle.bpf_code.specs.declared.instruction.Ins.{Ins}
use Rattle.bpf_code.specs.declared.error.CodeError.{CodeError}
use Rattle.bpf_code.specs.declared.error.CodeError.TheVariants as errors
use Rattle.bpf_code.specs.declared.operation.Op.{Op}
use Rattle.bpf_code.specs.declared.operation.Op.TheVariants.{LoadConstant, LoadImage, LoadIndexed, LoadScratch, LoadLength, IndexConstant, IndexScratch, IndexLength, IndexHeader, StoreA, StoreX, Compute, Negate, Jump, Branch, ReturnConstant, ReturnA, IndexFromA, LoadFromX}
use Rattle.bpf_code.specs.Table.{op_of}
use Rattle.bpf_code.specs.Program.{IsJumpFine}
use Rattle.bpf_text.specs.Printing.{is_target, line_text, leaves, then_text, line_by, text_from}
use Rattle.bpf_text.specs.Source.{Line, AreLines, lines_of}
use Rattle.bpf_text.specs.Used.{IsInRange}
use Rattle.bpf_text.proofs.PrintedOperands.{IsNear}
use Rattle.bpf_text.proofs.PrintedLines.{body_text, line_for, line_printed, empty_line, lines_printed}

-- the row of an instruction that is printed
abbrev op_or : Option Op → Op
op_or None = Negate
op_or (Some op) = op

unfoldable pub known_op : Ins → Op
known_op ins = op_or (op_of ins.code)

pub known_is : (ins : Ins) (op : Op) → op_of ins.code ≡ Some op → known_op ins ≡ op
unfolding known_op
known_is ins op is = ap op_or is

abbrev pub printed_line : List Ins → ℕ → Ins → Line
printed_line program place ins = line_for place (is_target place 0 program) (known_op ins) ins

abbrev pub printed_lines : List Ins → ℕ → List Ins → List Line
printed_lines program place [] = record { labels = []; row = None } ∷ []
printed_lines program place (ins ∷ more) = printed_line program place ins ∷ printed_lines program (place + 1) more

-- ---- one instruction of a program that has a text

pub record HasLine (program : List Ins) (place : ℕ) (ins : Ins) (more : List Ins) (text : List ℕ) : Type 0 where
  pub op : Op
  pub is : op_of ins.code ≡ Some op
  pub stays : leaves (length program) place op ins ≡ false
  pub later : List ℕ
  pub rest : text_from program (place + 1) more ≡ Ok later
  pub text_is : line_text place (is_target place 0 program) op ins ++ later ≡ text

same_ok : (a b : List ℕ) → ◌≡◌ {A = Result (List ℕ) CodeError} (Ok a) (Ok b) → a ≡ b
same_ok a b h = cc

later_by : (program : List Ins) (place : ℕ) (ins : Ins) (more : List Ins) (text : List ℕ) (op : Op) → op_of ins.code ≡ Some op → leaves (length program) place op ins ≡ false → (r : Result (List ℕ) CodeError) → text_from program (place + 1) more ≡ r → then_text (line_text place (is_target place 0 program) op ins) r ≡ Ok text → HasLine program place ins more text
later_by program place ins more text op is stays (Ok later) rest h =
    record { op = op; is = is; stays = stays; later = later; rest = rest; text_is = same_ok (line_text place (is_target place 0 program) op ins ++ later) text h }
later_by program place ins more text op is stays (Err e) rest h = absurd (cc)

stays_by : (program : List Ins) (place : ℕ) (ins : Ins) (more : List Ins) (text : List ℕ) (op : Op) → op_of ins.code ≡ Some op → (out : Bool) → leaves (length program) place op ins ≡ out → cond out (Err (errors.Label place)) (then_text (line_text place (is_target place 0 program) op ins) (text_from program (place + 1) more)) ≡ Ok text → HasLine program place ins more text
stays_by program place ins more text op is true stays h = absurd (cc)
stays_by program place ins more text op is false stays h = later_by program place ins more text op is stays (text_from program (place + 1) more) refl h

op_by : (program : List Ins) (place : ℕ) (ins : Ins) (more : List Ins) (text : List ℕ) (o : Option Op) → op_of ins.code ≡ o → line_by program place ins o (text_from program (place + 1) more) ≡ Ok text → HasLine program place ins more text
op_by program place ins more text None is h = absurd (cc)
op_by program place ins more text (Some op) is h = stays_by program place ins more text op is (leaves (length program) place op ins) refl h

pub has_line : (program : List Ins) (place : ℕ) (ins : Ins) (more : List Ins) (text : List ℕ) → text_from program place (ins ∷ more) ≡ Ok text → HasLine program place ins more text
has_line program place ins more text h = op_by program place ins more text (op_of ins.code) refl h

-- ---- jumps

below_one : (a len : ℕ) → not (nat_lt a len) ≡ false → a < len
below_one a len h = grind (arith, nat_tests)

below_both : (a b len : ℕ) → not (nat_lt a len && nat_lt b len) ≡ false → (a < len) × (b < len)
below_both a b len h = grind (arith, nat_tests)

pub jump_fine : (len place : ℕ) (op : Op) (ins : Ins) → leaves len place op ins ≡ false → IsJumpFine len place op ins
jump_fine len place Jump ins h = below_one (place + 1 + ins.k) len h
jump_fine len place (Branch test operand) ins h = below_both (place + 1 + ins.jt) (place + 1 + ins.jf) len h
jump_fine len place LoadConstant ins h = tt
jump_fine len place (LoadImage width) ins h = tt
jump_fine len place (LoadIndexed width) ins h = tt
jump_fine len place LoadScratch ins h = tt
jump_fine len place LoadLength ins h = tt
jump_fine len place IndexConstant ins h = tt
jump_fine len place IndexScratch ins h = tt
jump_fine len place IndexLength ins h = tt
jump_fine len place IndexHeader ins h = tt
jump_fine len place StoreA ins h = tt
jump_fine len place StoreX ins h = tt
jump_fine len place (Compute f operand) ins h = tt
jump_fine len place Negate ins h = tt
jump_fine len place ReturnConstant ins h = tt
jump_fine len place ReturnA ins h = tt
jump_fine len place IndexFromA ins h = tt
jump_fine len place LoadFromX ins h = tt

pub is_near : (len place : ℕ) (op : Op) (ins : Ins) → IsJumpFine len place op ins → len < 2 ^ 64 → IsNear place op ins
is_near len place Jump ins h low = omega arith
is_near len place (Branch test operand) ins h low = (omega (arith, h.0), omega (arith, h.1))
is_near len place LoadConstant ins h low = tt
is_near len place (LoadImage width) ins h low = tt
is_near len place (LoadIndexed width) ins h low = tt
is_near len place LoadScratch ins h low = tt
is_near len place LoadLength ins h low = tt
is_near len place IndexConstant ins h low = tt
is_near len place IndexScratch ins h low = tt
is_near len place IndexLength ins h low = tt
is_near len place IndexHeader ins h low = tt
is_near len place StoreA ins h low = tt
is_near len place StoreX ins h low = tt
is_near len place (Compute f operand) ins h low = tt
is_near len place Negate ins h low = tt
is_near len place ReturnConstant ins h low = tt
is_near len place ReturnA ins h low = tt
is_near len place IndexFromA ins h low = tt
is_near len place LoadFromX ins h low = tt

-- ---- all lines

lines_at : (program : List Ins) (place : ℕ) (ins : Ins) (more : List Ins) (text : List ℕ) (l : HasLine program place ins more text) → place < 2 ^ 64 → ins.k < 2 ^ 32 → IsNear place l.op ins → AreLines (lines_of l.later) (printed_lines program (place + 1) more) → AreLines (lines_of text) (printed_lines program place (ins ∷ more))
lines_at program place ins more text l low small near later =
    let target : Bool = is_target place 0 program in
    let lines : lines_of text ≡ body_text place target l.op ins ∷ lines_of l.later = ap lines_of (sym l.text_is) ∙ lines_printed place target l.op ins l.later low small near in
    let same : known_op ins ≡ l.op = known_is ins l.op l.is in
    rw (lines, same) (line_printed place target l.op ins low small near, later)

pub are_lines : (program : List Ins) (place : ℕ) (rest : List Ins) (text : List ℕ) → AllByRecursion IsInRange rest → place + length rest ≡ length program → length program < 2 ^ 64 → text_from program place rest ≡ Ok text → AreLines (lines_of text) (printed_lines program place rest)
are_lines program place [] text fits len low h =
    subst (λ (t : List ℕ). AreLines (lines_of t) (printed_lines program place [])) (same_ok [] text h) (empty_line, tt)
are_lines program place (ins ∷ more) text (fits, later) len low h =
    let l : HasLine program place ins more text = has_line program place ins more text h in
    let near : IsNear place l.op ins = is_near (length program) place l.op ins (jump_fine (length program) place l.op ins l.stays) low in
    let next : (place + 1) + length more ≡ length program = omega arith in
    lines_at program place ins more text l (omega arith) fits.k near (are_lines program (place + 1) more l.later later next low l.rest)
