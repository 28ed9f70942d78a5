-- The text that a program is printed as: one instruction a line, spelled as in the table of instructions (own, in
-- the manner of Linux's `bpf_asm`).
use Rattle.std.specs.Prelude.{◌≡◌, ℕ, ◌+◌, Bool, true, false, ◌&&◌, ◌||◌, not, List, [], ◌∷◌, ◌++◌, length, Option, Some, None, Result, Ok, Err, if◌then◌else◌, ◌==◌, nat_lt, codes, decimal}
use Rattle.bpf_code.specs.declared.instruction.Ins.{Ins}
use Rattle.bpf_code.specs.declared.error.CodeError.{CodeError}
use Rattle.bpf_code.specs.declared.error.CodeError.TheVariants as errors
use Rattle.bpf_code.specs.declared.operation.Op.{Op}
use Rattle.bpf_code.specs.declared.operation.Op.TheVariants.{LoadConstant, LoadImage, LoadIndexed, LoadScratch, LoadLength, IndexConstant, IndexScratch, IndexLength, IndexHeader, StoreA, StoreX, Compute, Negate, Jump, Branch, ReturnConstant, ReturnA, IndexFromA, LoadFromX}
use Rattle.bpf_code.specs.declared.operation.Width.{Width}
use Rattle.bpf_code.specs.declared.operation.Width.TheVariants.{Word, Half, Byte}
use Rattle.bpf_code.specs.declared.operation.Operand.TheVariants.{Constant, Index}
use Rattle.bpf_code.specs.declared.operation.Arithmetic.{Arithmetic}
use Rattle.bpf_code.specs.declared.operation.Arithmetic.TheVariants.{Add, Sub, Mul, Div, Or, And, ShiftLeft, ShiftRight, Mod, Xor}
use Rattle.bpf_code.specs.declared.operation.Test.{Test}
use Rattle.bpf_code.specs.declared.operation.Test.TheVariants.{Equal, Above, AtLeast, SharesBit}
use Rattle.bpf_code.specs.Table.{op_of}

abbrev pub load_word : Width → List ℕ
load_word Word = codes "ld"
load_word Half = codes "ldh"
load_word Byte = codes "ldb"

abbrev pub arithmetic_word : Arithmetic → List ℕ
arithmetic_word Add = codes "add"
arithmetic_word Sub = codes "sub"
arithmetic_word Mul = codes "mul"
arithmetic_word Div = codes "div"
arithmetic_word Or = codes "or"
arithmetic_word And = codes "and"
arithmetic_word ShiftLeft = codes "lsh"
arithmetic_word ShiftRight = codes "rsh"
arithmetic_word Mod = codes "mod"
arithmetic_word Xor = codes "xor"

abbrev pub test_word : Test → List ℕ
test_word Equal = codes "jeq"
test_word Above = codes "jgt"
test_word AtLeast = codes "jge"
test_word SharesBit = codes "jset"

-- the mnemonic
abbrev pub word_of : Op → List ℕ
word_of LoadConstant = codes "ld"
word_of (LoadImage width) = load_word width
word_of (LoadIndexed width) = load_word width
word_of LoadScratch = codes "ld"
word_of LoadLength = codes "ld"
word_of IndexConstant = codes "ldx"
word_of IndexScratch = codes "ldx"
word_of IndexLength = codes "ldx"
word_of IndexHeader = codes "ldxb"
word_of StoreA = codes "st"
word_of StoreX = codes "stx"
word_of (Compute f operand) = arithmetic_word f
word_of Negate = codes "neg"
word_of Jump = codes "ja"
word_of (Branch test operand) = test_word test
word_of ReturnConstant = codes "ret"
word_of ReturnA = codes "ret"
word_of IndexFromA = codes "tax"
word_of LoadFromX = codes "txa"

-- the operand but for the labels of a jump, with the decimal number of k
abbrev pub operand_text : Op → ℕ → List ℕ
operand_text LoadConstant k = codes " #" ++ decimal k
operand_text (LoadImage width) k = codes " [" ++ decimal k ++ codes "]"
operand_text (LoadIndexed width) k = codes " [x+" ++ decimal k ++ codes "]"
operand_text LoadScratch k = codes " M[" ++ decimal k ++ codes "]"
operand_text LoadLength k = codes " #len"
operand_text IndexConstant k = codes " #" ++ decimal k
operand_text IndexScratch k = codes " M[" ++ decimal k ++ codes "]"
operand_text IndexLength k = codes " #len"
operand_text IndexHeader k = codes " 4*([" ++ decimal k ++ codes "]&0xf)"
operand_text StoreA k = codes " M[" ++ decimal k ++ codes "]"
operand_text StoreX k = codes " M[" ++ decimal k ++ codes "]"
operand_text (Compute f Constant) k = codes " #" ++ decimal k
operand_text (Compute f Index) k = codes " x"
operand_text Negate k = []
operand_text Jump k = []
operand_text (Branch test Constant) k = codes " #" ++ decimal k
operand_text (Branch test Index) k = codes " x"
operand_text ReturnConstant k = codes " #" ++ decimal k
operand_text ReturnA k = codes " a"
operand_text IndexFromA k = []
operand_text LoadFromX k = []

-- the labels of a jump at a place: L and the target's place
abbrev pub targets_text : ℕ → Op → Ins → List ℕ
targets_text place Jump ins = codes " L" ++ decimal (place + 1 + ins.k)
targets_text place (Branch test operand) ins =
    codes ", L" ++ decimal (place + 1 + ins.jt) ++ codes ", L" ++ decimal (place + 1 + ins.jf)
targets_text place _ ins = []

-- an instruction at a place, without the label of its line
abbrev pub instruction_text : ℕ → Op → Ins → List ℕ
instruction_text place op ins = word_of op ++ operand_text op ins.k ++ targets_text place op ins

-- a jump at a place that leads to this one
abbrev pub jumps_by : ℕ → ℕ → Ins → Option Op → Bool
jumps_by to place ins (Some Jump) = to == place + 1 + ins.k
jumps_by to place ins (Some (Branch test operand)) = to == place + 1 + ins.jt || to == place + 1 + ins.jf
jumps_by to place ins _ = false

-- some jump leads to this place
abbrev pub is_target : ℕ → ℕ → List Ins → Bool
is_target to place [] = false
is_target to place (ins ∷ more) = jumps_by to place ins (op_of ins.code) || is_target to (place + 1) more

-- the label of a line that a jump leads to
abbrev pub label_text : ℕ → Bool → List ℕ
label_text place false = []
label_text place true = codes "L" ++ decimal place ++ codes ": "

-- a line
unfoldable pub line_text : ℕ → Bool → Op → Ins → List ℕ
line_text place target op ins =
    label_text place target ++ instruction_text place op ins ++ codes "\n"

-- a jump that leaves a program of this length
abbrev pub leaves : ℕ → ℕ → Op → Ins → Bool
leaves len place Jump ins = not (nat_lt (place + 1 + ins.k) len)
leaves len place (Branch test operand) ins = not (nat_lt (place + 1 + ins.jt) len && nat_lt (place + 1 + ins.jf) len)
leaves len place _ ins = false

abbrev pub then_text : List ℕ → Result (List ℕ) CodeError → Result (List ℕ) CodeError
then_text line (Ok rest) = Ok (line ++ rest)
then_text line (Err e) = Err e

abbrev pub line_by : List Ins → ℕ → Ins → Option Op → Result (List ℕ) CodeError → Result (List ℕ) CodeError
line_by program place ins None later = Err (errors.Code place)
line_by program place ins (Some op) later =
    if leaves (length program) place op ins then Err (errors.Label place)
    else then_text (line_text place (is_target place 0 program) op ins) later

-- the lines from a place on, or the fault of the lowest place that has one
abbrev pub text_from : List Ins → ℕ → List Ins → Result (List ℕ) CodeError
text_from program place [] = Ok []
text_from program place (ins ∷ more) = line_by program place ins (op_of ins.code) (text_from program (place + 1) more)

-- the text of a program
abbrev pub text_of : List Ins → Result (List ℕ) CodeError
text_of program = text_from program 0 program

-- The fault of a program that has no text: the lowest place whose code has no row, or whose jump leaves the
-- program. Want of memory says nothing of a program.
abbrev pub IsPrintFault : List Ins → CodeError → Type 0
IsPrintFault program errors.Length = ⊥
IsPrintFault program (errors.Code place) = text_of program ≡ Err (errors.Code place)
IsPrintFault program (errors.Line line) = ⊥
IsPrintFault program (errors.Label place) = text_of program ≡ Err (errors.Label place)
IsPrintFault program (errors.FarJump line) = ⊥
IsPrintFault program errors.NoMemory = Unit {0}
