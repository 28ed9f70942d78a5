-- A printed line is of the form of a line, and the lines of a printed text are the printed lines.
use Rattle.std.proofs.Common.{◌≡◌, ℕ, ◌+◌, ◌<◌, ◌^◌, Bool, true, false, not, List, [], ◌∷◌, ◌++◌, Some, None, refl, ap, ◌∙◌, arith, append_assoc, codes, decimal}
use Rattle.std.specs.Prelude.{◌==◌}
use Rattle.std.specs.List.{list_all}
use Rattle.std.specs.Char.{digit_value}
use Rattle.std.specs.Str.Parse.{AllDigits}
use Rattle.std.proofs.lemmas.Bool.Decides.{nat_tests}
use Rattle.std.proofs.lemmas.Fmt.{decimal_is_IsNumeral}
use Rattle.std.proofs.lemmas.List.Folds.{list_all-append}
use Rattle.std.proofs.lemmas.Bool.{and_parts}
use Rattle.bpf_code.specs.declared.instruction.Ins.{Ins}
use Rattle.bpf_code.specs.declared.operation.Op.{Op}
use Rattle.bpf_code.specs.declared.operation.Op.TheVariants.{LoadConstant, LoadImage, LoadIndexed, LoadScratch, LoadLength, IndexConstant, IndexScratch, IndexLength, IndexHeader, StoreA, StoreX, Compute, Negate, Jump, Branch, ReturnConstant, ReturnA, IndexFromA, LoadFromX}
use Rattle.bpf_code.specs.declared.operation.Width.{Width}
use Rattle.bpf_code.specs.declared.operation.Width.TheVariants.{Word as WordWidth, Half, Byte}
use Rattle.bpf_code.specs.declared.operation.Operand.TheVariants.{Constant, Index}
use Rattle.bpf_code.specs.declared.operation.Arithmetic.{Arithmetic}
use Rattle.bpf_code.specs.declared.operation.Arithmetic.TheVariants.{Add, Sub, Mul, Div, Or, And, ShiftLeft, ShiftRight, Mod, Xor}
use Rattle.bpf_code.specs.declared.operation.Test.{Test}
use Rattle.bpf_code.specs.declared.operation.Test.TheVariants.{Equal, Above, AtLeast, SharesBit}
use Rattle.bpf_text.specs.Lexis.{unblanked, is_over}
use Rattle.bpf_text.specs.Grammar.{Word, Sign, Front}
use Rattle.bpf_text.specs.Printing.{load_word, arithmetic_word, test_word, word_of, operand_text, targets_text, label_text, line_text}
use Rattle.bpf_text.specs.Source.{Line, IsLine, lines_of}
use Rattle.bpf_text.proofs.PrintedTokens.{sign_here, label_name, name_printed}
use Rattle.bpf_text.proofs.PrintedOperands.{row_for, IsNear, after_word}
use Rattle.bpf_text.proofs.PrintedRows.{instruction_printed, spells_after_blank}

-- ---- a line

-- a line without the LF that ends it
abbrev pub body_text : ℕ → Bool → Op → Ins → List ℕ
body_text place target op ins = label_text place target ++ (word_of op ++ after_word place op ins)

pub line_is : (place : ℕ) (target : Bool) (op : Op) (ins : Ins) (later : List ℕ) → line_text place target op ins ++ later ≡ body_text place target op ins ++ 10 ∷ later
unfolding line_text
line_is place target op ins later = simp append_assoc

-- the labels of a line
abbrev pub labels_for : ℕ → Bool → List (List ℕ)
labels_for place false = []
labels_for place true = label_name place ∷ []

abbrev pub line_for : ℕ → Bool → Op → Ins → Line
line_for place target op ins = record { labels = labels_for place target; row = Some (row_for place op ins) }

label_front : (place : ℕ) (rest : List ℕ) → place < 2 ^ 64 → Front (Word (label_name place) ∷ Sign 58 ∷ []) (label_text place true ++ rest) (32 ∷ rest)
label_front place rest low =
    let same : label_text place true ++ rest ≡ label_name place ++ 58 ∷ 32 ∷ rest = append_assoc (label_name place) (58 ∷ 32 ∷ []) rest in
    let front : Front (Word (label_name place) ∷ Sign 58 ∷ []) (label_name place ++ 58 ∷ 32 ∷ rest) (32 ∷ rest) = (58 ∷ 32 ∷ rest, name_printed place (58 ∷ 32 ∷ rest) low refl, (32 ∷ rest, sign_here 58 (32 ∷ rest) refl, refl)) in
    rw same front

pub line_printed : (place : ℕ) (target : Bool) (op : Op) (ins : Ins) → place < 2 ^ 64 → ins.k < 2 ^ 32 → IsNear place op ins → IsLine (body_text place target op ins) (line_for place target op ins)
line_printed place false op ins low small near =
    record { rest = word_of op ++ after_word place op ins; labels = refl; row = instruction_printed place op ins small near }
line_printed place true op ins low small near =
    let rest : List ℕ = word_of op ++ after_word place op ins in
    record { rest = 32 ∷ rest; labels = (32 ∷ rest, label_front place rest low, refl); row = spells_after_blank rest (row_for place op ins) (instruction_printed place op ins small near) }

-- after the last LF stands an empty line
pub empty_line : IsLine [] (record { labels = []; row = None })
unfolding is_over unblanked
empty_line = record { rest = []; labels = refl; row = refl }

-- ---- no LF in a line

abbrev no_lf : ℕ → Bool
no_lf b = not (b == 10)

abbrev pub HasNoLf : List ℕ → Type 0
HasNoLf bytes = list_all no_lf bytes ≡ true

both_have : (a b : List ℕ) → HasNoLf a → HasNoLf b → HasNoLf (a ++ b)
both_have a b p q = list_all-append no_lf a b ∙ rw (p, q)

digit_no_lf : (b : ℕ) → digit_value b < 10 → no_lf b ≡ true
digit_no_lf b low = grind (arith, nat_tests)

digits_no_lf : (ds : List ℕ) → AllDigits 10 ds → HasNoLf ds
digits_no_lf [] all = refl
digits_no_lf (d ∷ ds) (low, all) = rw (digit_no_lf d low, digits_no_lf ds all)

decimal_no_lf : (n : ℕ) → n < 2 ^ 64 → HasNoLf (decimal n)
decimal_no_lf n low = digits_no_lf (decimal n) (decimal_is_IsNumeral n low).0.1

number_no_lf : (n : ℕ) → n < 2 ^ 32 → HasNoLf (decimal n)
number_no_lf n low = decimal_no_lf n (omega arith)

label_no_lf : (place : ℕ) (target : Bool) → place < 2 ^ 64 → HasNoLf (label_text place target)
label_no_lf place false low = refl
label_no_lf place true low = both_have (label_name place) (58 ∷ 32 ∷ []) (decimal_no_lf place low) refl

load_no_lf : (width : Width) → HasNoLf (load_word width)
load_no_lf WordWidth = refl
load_no_lf Half = refl
load_no_lf Byte = refl

arithmetic_no_lf : (f : Arithmetic) → HasNoLf (arithmetic_word f)
arithmetic_no_lf Add = refl
arithmetic_no_lf Sub = refl
arithmetic_no_lf Mul = refl
arithmetic_no_lf Div = refl
arithmetic_no_lf Or = refl
arithmetic_no_lf And = refl
arithmetic_no_lf ShiftLeft = refl
arithmetic_no_lf ShiftRight = refl
arithmetic_no_lf Mod = refl
arithmetic_no_lf Xor = refl

test_no_lf : (test : Test) → HasNoLf (test_word test)
test_no_lf Equal = refl
test_no_lf Above = refl
test_no_lf AtLeast = refl
test_no_lf SharesBit = refl

word_no_lf : (op : Op) → HasNoLf (word_of op)
word_no_lf LoadConstant = refl
word_no_lf (LoadImage width) = load_no_lf width
word_no_lf (LoadIndexed width) = load_no_lf width
word_no_lf LoadScratch = refl
word_no_lf LoadLength = refl
word_no_lf IndexConstant = refl
word_no_lf IndexScratch = refl
word_no_lf IndexLength = refl
word_no_lf IndexHeader = refl
word_no_lf StoreA = refl
word_no_lf StoreX = refl
word_no_lf (Compute f operand) = arithmetic_no_lf f
word_no_lf Negate = refl
word_no_lf Jump = refl
word_no_lf (Branch test operand) = test_no_lf test
word_no_lf ReturnConstant = refl
word_no_lf ReturnA = refl
word_no_lf IndexFromA = refl
word_no_lf LoadFromX = refl

operand_no_lf : (op : Op) (k : ℕ) → k < 2 ^ 32 → HasNoLf (operand_text op k)
operand_no_lf LoadConstant k low = number_no_lf k low
operand_no_lf (LoadImage width) k low = both_have (decimal k) (93 ∷ []) (number_no_lf k low) refl
operand_no_lf (LoadIndexed width) k low = both_have (decimal k) (93 ∷ []) (number_no_lf k low) refl
operand_no_lf LoadScratch k low = both_have (decimal k) (93 ∷ []) (number_no_lf k low) refl
operand_no_lf LoadLength k low = refl
operand_no_lf IndexConstant k low = number_no_lf k low
operand_no_lf IndexScratch k low = both_have (decimal k) (93 ∷ []) (number_no_lf k low) refl
operand_no_lf IndexLength k low = refl
operand_no_lf IndexHeader k low = both_have (decimal k) (codes "]&0xf)") (number_no_lf k low) refl
operand_no_lf StoreA k low = both_have (decimal k) (93 ∷ []) (number_no_lf k low) refl
operand_no_lf StoreX k low = both_have (decimal k) (93 ∷ []) (number_no_lf k low) refl
operand_no_lf (Compute f Constant) k low = number_no_lf k low
operand_no_lf (Compute f Index) k low = refl
operand_no_lf Negate k low = refl
operand_no_lf Jump k low = refl
operand_no_lf (Branch test Constant) k low = number_no_lf k low
operand_no_lf (Branch test Index) k low = refl
operand_no_lf ReturnConstant k low = number_no_lf k low
operand_no_lf ReturnA k low = refl
operand_no_lf IndexFromA k low = refl
operand_no_lf LoadFromX k low = refl

targets_no_lf : (place : ℕ) (op : Op) (ins : Ins) → IsNear place op ins → HasNoLf (targets_text place op ins)
targets_no_lf place LoadConstant ins near = refl
targets_no_lf place (LoadImage width) ins near = refl
targets_no_lf place (LoadIndexed width) ins near = refl
targets_no_lf place LoadScratch ins near = refl
targets_no_lf place LoadLength ins near = refl
targets_no_lf place IndexConstant ins near = refl
targets_no_lf place IndexScratch ins near = refl
targets_no_lf place IndexLength ins near = refl
targets_no_lf place IndexHeader ins near = refl
targets_no_lf place StoreA ins near = refl
targets_no_lf place StoreX ins near = refl
targets_no_lf place (Compute f operand) ins near = refl
targets_no_lf place Negate ins near = refl
targets_no_lf place Jump ins near = decimal_no_lf (place + 1 + ins.k) near
targets_no_lf place (Branch test operand) ins near = both_have (decimal (place + 1 + ins.jt) ++ codes ", L") (decimal (place + 1 + ins.jf)) (both_have (decimal (place + 1 + ins.jt)) (codes ", L") (decimal_no_lf (place + 1 + ins.jt) near.0) refl) (decimal_no_lf (place + 1 + ins.jf) near.1)
targets_no_lf place ReturnConstant ins near = refl
targets_no_lf place ReturnA ins near = refl
targets_no_lf place IndexFromA ins near = refl
targets_no_lf place LoadFromX ins near = refl

body_no_lf : (place : ℕ) (target : Bool) (op : Op) (ins : Ins) → place < 2 ^ 64 → ins.k < 2 ^ 32 → IsNear place op ins → HasNoLf (body_text place target op ins)
body_no_lf place target op ins low small near =
    both_have (label_text place target) (word_of op ++ after_word place op ins) (label_no_lf place target low)
    (both_have (word_of op) (after_word place op ins) (word_no_lf op)
    (both_have (operand_text op ins.k) (targets_text place op ins) (operand_no_lf op ins.k small) (targets_no_lf place op ins near)))

-- ---- lines

no_lf_is : (b : ℕ) → no_lf b ≡ true → b == 10 ≡ false
no_lf_is b h = negated (b == 10) h
  where
    negated : (c : Bool) → not c ≡ true → c ≡ false
    negated true e = absurd (cc)
    negated false e = refl

split_at : (bytes later : List ℕ) → HasNoLf bytes → lines_of (bytes ++ 10 ∷ later) ≡ bytes ∷ lines_of later
split_at [] later none = refl
split_at (b ∷ bytes) later none =
    let here : b == 10 ≡ false = no_lf_is b (and_parts (no_lf b) (list_all no_lf bytes) none).0 in
    let more : lines_of (bytes ++ 10 ∷ later) ≡ bytes ∷ lines_of later = split_at bytes later (and_parts (no_lf b) (list_all no_lf bytes) none).1 in
    rw (here, more)

pub lines_printed : (place : ℕ) (target : Bool) (op : Op) (ins : Ins) (later : List ℕ) → place < 2 ^ 64 → ins.k < 2 ^ 32 → IsNear place op ins → lines_of (line_text place target op ins ++ later) ≡ body_text place target op ins ∷ lines_of later
lines_printed place target op ins later low small near =
    ap lines_of (line_is place target op ins later) ∙ split_at (body_text place target op ins) later (body_no_lf place target op ins low small near)
