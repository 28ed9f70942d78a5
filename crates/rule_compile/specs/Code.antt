-- Inner: the pieces of programs that rules are compiled to. A program is written from its last instruction to its
-- first: each piece stands in front of the rest, so that each jump has its target already. Of any rest the last
-- instruction is the one that says no match.
use Rattle.std.specs.Prelude.{ℕ, zero, suc, ◌+◌, ◌-◌, ◌*◌, ◌/◌, List, [], ◌∷◌, length, slice_index, ◌==◌, if◌then◌else◌, Bool}
use Rattle.bpf_code.specs.declared.instruction.Ins.{Ins}
use Rattle.bpf_code.specs.declared.operation.Op.{Op}
use Rattle.bpf_code.specs.declared.operation.Op.TheVariants.{LoadImage, LoadIndexed, IndexFromA, ReturnConstant}
use Rattle.bpf_code.specs.declared.operation.Width.{Width}
use Rattle.bpf_code.specs.declared.operation.Width.TheVariants.{Word, Half, Byte}
use Rattle.bpf_code.specs.declared.operation.Operand.TheVariants.{Constant}
use Rattle.bpf_code.specs.declared.operation.Test.{Test}
use Rattle.bpf_code.specs.declared.operation.Test.TheVariants.{Equal, Above}
use Rattle.bpf_code.specs.Table.{code_of}
use Rattle.jump_islands.specs.Source.{branch_over}

-- ---- instructions

-- an instruction that is no jump
abbrev pub plain : Op → ℕ → Ins
plain op k = record { code = code_of op; jt = 0; jf = 0; k = k }

-- A becomes the word of the image at a place
abbrev pub image_word : ℕ → Ins
image_word at = plain (LoadImage Word) at

-- A becomes what stands k bytes after X
abbrev pub load_indexed : Width → ℕ → Ins
load_indexed width k = plain (LoadIndexed width) k

-- X becomes A
abbrev pub index_from_a : Ins
index_from_a = plain IndexFromA 0

abbrev pub returns : ℕ → Ins
returns verdict = plain ReturnConstant verdict

-- a comparison of A with a number, and how many instructions it goes over where it holds and where it doesn't
abbrev pub branch : Test → ℕ → ℕ → ℕ → Ins
branch test k hit miss = branch_over test Constant k hit miss

-- ---- pieces

-- no match where the comparison doesn't hold
abbrev pub want : Test → ℕ → List Ins → List Ins
want test k rest = branch test k 0 (length rest - 1) ∷ rest

-- if the test holds, jump past the piece
abbrev pub settle : Test → ℕ → List Ins → List Ins → List Ins
settle test k exit rest = branch test k (length rest - length exit) 0 ∷ rest

-- two and four bytes as a number, the highest first
abbrev pub half_number : ℕ → ℕ → ℕ
half_number a b = a * 256 + b

abbrev pub four : ℕ → ℕ → ℕ → ℕ → ℕ
four a b c d = ((a * 256 + b) * 256 + c) * 256 + d

-- the four bytes from `at` + i after X on are those of a value from its byte i on
abbrev pub same_word : ℕ → List ℕ → ℕ → List Ins → List Ins
same_word at value i rest =
    load_indexed Word (at + i) ∷ want Equal (four (slice_index value i) (slice_index value (i + 1)) (slice_index value (i + 2)) (slice_index value (i + 3))) rest

-- the first n words of a value
abbrev pub same_words : ℕ → List ℕ → ℕ → List Ins → List Ins
same_words at value zero rest = rest
same_words at value (suc n) rest = same_words at value n (same_word at value (4 * n) rest)

-- The bytes from `at` after X on are these: of four or more the last four first, since many names begin alike, and then
-- as many words as have the other bytes, the last of which may overlap those four.
abbrev pub same_bytes : ℕ → List ℕ → List Ins → List Ins
same_bytes at [] rest = rest
same_bytes at (a ∷ []) rest = load_indexed Byte at ∷ want Equal a rest
same_bytes at (a ∷ b ∷ []) rest = load_indexed Half at ∷ want Equal (half_number a b) rest
same_bytes at (a ∷ b ∷ c ∷ []) rest = load_indexed Half at ∷ want Equal (half_number a b) (load_indexed Byte (at + 2) ∷ want Equal c rest)
same_bytes at (a ∷ b ∷ c ∷ d ∷ more) rest =
    same_word at (a ∷ b ∷ c ∷ d ∷ more) (length more) (same_words at (a ∷ b ∷ c ∷ d ∷ more) ((length more + 3) / 4) rest)

-- ---- texts, whose place and length the image tells in the two words from a place on

-- the length passes a comparison
abbrev pub has_len : Test → ℕ → ℕ → List Ins → List Ins
has_len test n at rest = image_word (at + 4) ∷ want test n rest

-- the text is there
abbrev pub is_there : ℕ → List Ins → List Ins
is_there at rest = image_word at ∷ want Above 0 rest

-- a length of 0 doesn't say whether the text is there
abbrev pub is_there_if : Bool → ℕ → List Ins → List Ins
is_there_if empty at rest = if empty then is_there at rest else rest

-- the text is there, and its length passes a comparison
abbrev pub has_text_len : Test → ℕ → ℕ → List Ins → List Ins
has_text_len test n at rest = has_len test n at (is_there_if (n == 0) at rest)

-- X becomes the text's place
abbrev pub index_text : ℕ → List Ins → List Ins
index_text at rest = image_word at ∷ index_from_a ∷ rest

-- the text, which isn't shorter, begins with these bytes
abbrev pub has_bytes : ℕ → List ℕ → List Ins → List Ins
has_bytes at value rest = index_text at (same_bytes 0 value rest)

-- if the text has `n` bytes, it ends here: jump past the piece
abbrev pub may_end : ℕ → ℕ → List Ins → List Ins → List Ins
may_end at n exit rest = image_word (at + 4) ∷ settle Equal n exit rest

-- the text, which isn't shorter, is this value, or begins with it and a separator
abbrev pub in_namespace : ℕ → ℕ → List ℕ → List Ins → List Ins
in_namespace at separator value rest =
    has_bytes at value (may_end at (length value) rest (load_indexed Byte (length value) ∷ want Equal separator rest))
