-- A printed instruction spells its row.
use Rattle.std.proofs.Common.{◌≡◌, ℕ, ◌<◌, ◌^◌, Bool, true, false, ◌||◌, List, [], ◌∷◌, ◌++◌, Some, refl, drop}
use Rattle.bpf_code.specs.declared.instruction.Ins.{Ins}
use Rattle.bpf_code.specs.declared.operation.Op.{Op}
use Rattle.bpf_code.specs.declared.operation.Op.TheVariants.{LoadConstant, LoadImage, LoadIndexed, LoadScratch, LoadLength, IndexConstant, IndexScratch, IndexLength, IndexHeader, StoreA, StoreX, Compute, Negate, Jump, Branch, ReturnConstant, ReturnA, IndexFromA, LoadFromX}
use Rattle.bpf_code.specs.declared.operation.Width.{Width}
use Rattle.bpf_code.specs.declared.operation.Width.TheVariants.{Word as WordWidth, Half, Byte}
use Rattle.bpf_code.specs.declared.operation.Operand.TheVariants.{Constant, Index}
use Rattle.bpf_code.specs.declared.operation.Arithmetic.{Arithmetic}
use Rattle.bpf_code.specs.declared.operation.Arithmetic.TheVariants.{Add, Sub, Mul, Div, Or, And, ShiftLeft, ShiftRight, Mod, Xor}
use Rattle.bpf_code.specs.declared.operation.Test.{Test}
use Rattle.bpf_code.specs.declared.operation.Test.TheVariants.{Equal, Above, AtLeast, SharesBit}
use Rattle.bpf_text.specs.declared.mnemonic.Mnemonic.TheVariants as mnemonic
use Rattle.bpf_text.specs.Lexis.{word_at, begins_blank}
use Rattle.bpf_text.specs.Grammar.{Word}
use Rattle.bpf_text.specs.Mnemonics.{mnemonic_of}
use Rattle.bpf_text.specs.Operands.{Operands}
use Rattle.bpf_text.specs.Printing.{load_word, arithmetic_word, test_word, word_of}
use Rattle.bpf_text.specs.Rows.{LabelIns, is_absent, row_of}
use Rattle.bpf_text.specs.Source.{Spells}
use Rattle.bpf_text.proofs.Fronts.{some_length}
use Rattle.bpf_text.proofs.PrintedTokens.{Stops, token_after_blank, word_here}
use Rattle.bpf_text.proofs.PrintedOperands.{operands_for, mnemonic_for, row_for, IsNear, after_word, operands_printed}

-- ---- mnemonics

load_printed : (width : Width) (rest : List ℕ) → Stops rest → word_at (load_word width ++ rest) ≡ Some (load_word width, rest)
load_printed WordWidth rest stops = word_here 108 (100 ∷ []) rest refl refl refl stops
load_printed Half rest stops = word_here 108 (100 ∷ 104 ∷ []) rest refl refl refl stops
load_printed Byte rest stops = word_here 108 (100 ∷ 98 ∷ []) rest refl refl refl stops

arithmetic_printed : (f : Arithmetic) (rest : List ℕ) → Stops rest → word_at (arithmetic_word f ++ rest) ≡ Some (arithmetic_word f, rest)
arithmetic_printed Add rest stops = word_here 97 (100 ∷ 100 ∷ []) rest refl refl refl stops
arithmetic_printed Sub rest stops = word_here 115 (117 ∷ 98 ∷ []) rest refl refl refl stops
arithmetic_printed Mul rest stops = word_here 109 (117 ∷ 108 ∷ []) rest refl refl refl stops
arithmetic_printed Div rest stops = word_here 100 (105 ∷ 118 ∷ []) rest refl refl refl stops
arithmetic_printed Or rest stops = word_here 111 (114 ∷ []) rest refl refl refl stops
arithmetic_printed And rest stops = word_here 97 (110 ∷ 100 ∷ []) rest refl refl refl stops
arithmetic_printed ShiftLeft rest stops = word_here 108 (115 ∷ 104 ∷ []) rest refl refl refl stops
arithmetic_printed ShiftRight rest stops = word_here 114 (115 ∷ 104 ∷ []) rest refl refl refl stops
arithmetic_printed Mod rest stops = word_here 109 (111 ∷ 100 ∷ []) rest refl refl refl stops
arithmetic_printed Xor rest stops = word_here 120 (111 ∷ 114 ∷ []) rest refl refl refl stops

test_printed : (test : Test) (rest : List ℕ) → Stops rest → word_at (test_word test ++ rest) ≡ Some (test_word test, rest)
test_printed Equal rest stops = word_here 106 (101 ∷ 113 ∷ []) rest refl refl refl stops
test_printed Above rest stops = word_here 106 (103 ∷ 116 ∷ []) rest refl refl refl stops
test_printed AtLeast rest stops = word_here 106 (103 ∷ 101 ∷ []) rest refl refl refl stops
test_printed SharesBit rest stops = word_here 106 (115 ∷ 101 ∷ 116 ∷ []) rest refl refl refl stops

word_printed : (op : Op) (rest : List ℕ) → Stops rest → word_at (word_of op ++ rest) ≡ Some (word_of op, rest)
word_printed LoadConstant rest stops = word_here 108 (100 ∷ []) rest refl refl refl stops
word_printed (LoadImage width) rest stops = load_printed width rest stops
word_printed (LoadIndexed width) rest stops = load_printed width rest stops
word_printed LoadScratch rest stops = word_here 108 (100 ∷ []) rest refl refl refl stops
word_printed LoadLength rest stops = word_here 108 (100 ∷ []) rest refl refl refl stops
word_printed IndexConstant rest stops = word_here 108 (100 ∷ 120 ∷ []) rest refl refl refl stops
word_printed IndexScratch rest stops = word_here 108 (100 ∷ 120 ∷ []) rest refl refl refl stops
word_printed IndexLength rest stops = word_here 108 (100 ∷ 120 ∷ []) rest refl refl refl stops
word_printed IndexHeader rest stops = word_here 108 (100 ∷ 120 ∷ 98 ∷ []) rest refl refl refl stops
word_printed StoreA rest stops = word_here 115 (116 ∷ []) rest refl refl refl stops
word_printed StoreX rest stops = word_here 115 (116 ∷ 120 ∷ []) rest refl refl refl stops
word_printed (Compute f operand) rest stops = arithmetic_printed f rest stops
word_printed Negate rest stops = word_here 110 (101 ∷ 103 ∷ []) rest refl refl refl stops
word_printed Jump rest stops = word_here 106 (97 ∷ []) rest refl refl refl stops
word_printed (Branch test operand) rest stops = test_printed test rest stops
word_printed ReturnConstant rest stops = word_here 114 (101 ∷ 116 ∷ []) rest refl refl refl stops
word_printed ReturnA rest stops = word_here 114 (101 ∷ 116 ∷ []) rest refl refl refl stops
word_printed IndexFromA rest stops = word_here 116 (97 ∷ 120 ∷ []) rest refl refl refl stops
word_printed LoadFromX rest stops = word_here 116 (120 ∷ 97 ∷ []) rest refl refl refl stops

load_named : (width : Width) → mnemonic_of (load_word width) ≡ Some (mnemonic.Load width)
unfolding mnemonic_of
load_named WordWidth = refl
load_named Half = refl
load_named Byte = refl

arithmetic_named : (f : Arithmetic) → mnemonic_of (arithmetic_word f) ≡ Some (mnemonic.Compute f)
unfolding mnemonic_of
arithmetic_named Add = refl
arithmetic_named Sub = refl
arithmetic_named Mul = refl
arithmetic_named Div = refl
arithmetic_named Or = refl
arithmetic_named And = refl
arithmetic_named ShiftLeft = refl
arithmetic_named ShiftRight = refl
arithmetic_named Mod = refl
arithmetic_named Xor = refl

test_named : (test : Test) → mnemonic_of (test_word test) ≡ Some (mnemonic.When test)
unfolding mnemonic_of
test_named Equal = refl
test_named Above = refl
test_named AtLeast = refl
test_named SharesBit = refl

word_named : (op : Op) → mnemonic_of (word_of op) ≡ Some (mnemonic_for op)
unfolding mnemonic_of
word_named LoadConstant = refl
word_named (LoadImage width) = load_named width
word_named (LoadIndexed width) = load_named width
word_named LoadScratch = refl
word_named LoadLength = refl
word_named IndexConstant = refl
word_named IndexScratch = refl
word_named IndexLength = refl
word_named IndexHeader = refl
word_named StoreA = refl
word_named StoreX = refl
word_named (Compute f operand) = arithmetic_named f
word_named Negate = refl
word_named Jump = refl
word_named (Branch test operand) = test_named test
word_named ReturnConstant = refl
word_named ReturnA = refl
word_named IndexFromA = refl
word_named LoadFromX = refl

-- ---- what stands after a mnemonic

after_word_stops : (place : ℕ) (op : Op) (ins : Ins) → Stops (after_word place op ins)
after_word_stops place LoadConstant ins = refl
after_word_stops place (LoadImage width) ins = refl
after_word_stops place (LoadIndexed width) ins = refl
after_word_stops place LoadScratch ins = refl
after_word_stops place LoadLength ins = refl
after_word_stops place IndexConstant ins = refl
after_word_stops place IndexScratch ins = refl
after_word_stops place IndexLength ins = refl
after_word_stops place IndexHeader ins = refl
after_word_stops place StoreA ins = refl
after_word_stops place StoreX ins = refl
after_word_stops place (Compute f Constant) ins = refl
after_word_stops place (Compute f Index) ins = refl
after_word_stops place Negate ins = refl
after_word_stops place Jump ins = refl
after_word_stops place (Branch test Constant) ins = refl
after_word_stops place (Branch test Index) ins = refl
after_word_stops place ReturnConstant ins = refl
after_word_stops place ReturnA ins = refl
after_word_stops place IndexFromA ins = refl
after_word_stops place LoadFromX ins = refl

or_true : (b : Bool) → (b || true) ≡ true
or_true true = refl
or_true false = refl

apart_by : (operands : Operands) (rest : List ℕ) → (is_absent operands || begins_blank (32 ∷ rest)) ≡ true
apart_by operands rest = rw (some_length 32 rest) (or_true (is_absent operands))

after_word_apart : (place : ℕ) (op : Op) (ins : Ins) → (is_absent (operands_for place op ins) || begins_blank (after_word place op ins)) ≡ true
after_word_apart place LoadConstant ins = apart_by (operands_for place LoadConstant ins) (drop 1 (after_word place LoadConstant ins))
after_word_apart place (LoadImage width) ins = apart_by (operands_for place (LoadImage width) ins) (drop 1 (after_word place (LoadImage width) ins))
after_word_apart place (LoadIndexed width) ins = apart_by (operands_for place (LoadIndexed width) ins) (drop 1 (after_word place (LoadIndexed width) ins))
after_word_apart place LoadScratch ins = apart_by (operands_for place LoadScratch ins) (drop 1 (after_word place LoadScratch ins))
after_word_apart place LoadLength ins = apart_by (operands_for place LoadLength ins) (drop 1 (after_word place LoadLength ins))
after_word_apart place IndexConstant ins = apart_by (operands_for place IndexConstant ins) (drop 1 (after_word place IndexConstant ins))
after_word_apart place IndexScratch ins = apart_by (operands_for place IndexScratch ins) (drop 1 (after_word place IndexScratch ins))
after_word_apart place IndexLength ins = apart_by (operands_for place IndexLength ins) (drop 1 (after_word place IndexLength ins))
after_word_apart place IndexHeader ins = apart_by (operands_for place IndexHeader ins) (drop 1 (after_word place IndexHeader ins))
after_word_apart place StoreA ins = apart_by (operands_for place StoreA ins) (drop 1 (after_word place StoreA ins))
after_word_apart place StoreX ins = apart_by (operands_for place StoreX ins) (drop 1 (after_word place StoreX ins))
after_word_apart place (Compute f Constant) ins = apart_by (operands_for place (Compute f Constant) ins) (drop 1 (after_word place (Compute f Constant) ins))
after_word_apart place (Compute f Index) ins = apart_by (operands_for place (Compute f Index) ins) (drop 1 (after_word place (Compute f Index) ins))
after_word_apart place Negate ins = refl
after_word_apart place Jump ins = apart_by (operands_for place Jump ins) (drop 1 (after_word place Jump ins))
after_word_apart place (Branch test Constant) ins = apart_by (operands_for place (Branch test Constant) ins) (drop 1 (after_word place (Branch test Constant) ins))
after_word_apart place (Branch test Index) ins = apart_by (operands_for place (Branch test Index) ins) (drop 1 (after_word place (Branch test Index) ins))
after_word_apart place ReturnConstant ins = apart_by (operands_for place ReturnConstant ins) (drop 1 (after_word place ReturnConstant ins))
after_word_apart place ReturnA ins = apart_by (operands_for place ReturnA ins) (drop 1 (after_word place ReturnA ins))
after_word_apart place IndexFromA ins = refl
after_word_apart place LoadFromX ins = refl

row_named : (place : ℕ) (op : Op) (ins : Ins) → row_of (mnemonic_for op) (operands_for place op ins) ≡ Some (row_for place op ins)
row_named place LoadConstant ins = refl
row_named place (LoadImage WordWidth) ins = refl
row_named place (LoadImage Half) ins = refl
row_named place (LoadImage Byte) ins = refl
row_named place (LoadIndexed WordWidth) ins = refl
row_named place (LoadIndexed Half) ins = refl
row_named place (LoadIndexed Byte) ins = refl
row_named place LoadScratch ins = refl
row_named place LoadLength ins = refl
row_named place IndexConstant ins = refl
row_named place IndexScratch ins = refl
row_named place IndexLength ins = refl
row_named place IndexHeader ins = refl
row_named place StoreA ins = refl
row_named place StoreX ins = refl
row_named place (Compute f Constant) ins = refl
row_named place (Compute f Index) ins = refl
row_named place Negate ins = refl
row_named place Jump ins = refl
row_named place (Branch test Constant) ins = refl
row_named place (Branch test Index) ins = refl
row_named place ReturnConstant ins = refl
row_named place ReturnA ins = refl
row_named place IndexFromA ins = refl
row_named place LoadFromX ins = refl

pub instruction_printed : (place : ℕ) (op : Op) (ins : Ins) → ins.k < 2 ^ 32 → IsNear place op ins → Spells (word_of op ++ after_word place op ins) (row_for place op ins)
instruction_printed place op ins low near = record {
  word = word_of op;
  tail = after_word place op ins;
  mnemonic = mnemonic_for op;
  operands = operands_for place op ins;
  begins = word_printed op (after_word place op ins) (after_word_stops place op ins);
  names = word_named op;
  apart = after_word_apart place op ins;
  spelled = operands_printed place op ins low near;
  means = row_named place op ins;
}

-- a blank may stand before an instruction
pub spells_after_blank : (bytes : List ℕ) (row : LabelIns) → Spells bytes row → Spells (32 ∷ bytes) row
spells_after_blank bytes row s = record {
  word = s.word;
  tail = s.tail;
  mnemonic = s.mnemonic;
  operands = s.operands;
  begins = token_after_blank (Word s.word) bytes s.tail s.begins;
  names = s.names;
  apart = s.apart;
  spelled = s.spelled;
  means = s.means;
}
