-- Inner: the pieces of programs that tests are compiled to. A program is written from its last instruction to its
-- first: each piece stands in front of the rest. A piece has two exits, places further on, each as the number of
-- instructions from it to the end. From its first instruction a run comes to the one exit where the piece's fact holds,
-- and to the other where it doesn't; either may be far. So `not` turns the exits, and `and` and `or` only choose them.
use Rattle.std.specs.Prelude.{ℕ, zero, suc, ◌+◌, ◌-◌, ◌*◌, ◌/◌, List, [], ◌∷◌, length, min, slice_index, ◌==◌, nat_lt, if◌then◌else◌}
use Rattle.bpf_code.specs.declared.instruction.Ins.{Ins}
use Rattle.bpf_code.specs.declared.operation.Arithmetic.TheVariants.{Add, Sub}
use Rattle.bpf_code.specs.declared.operation.Op.TheVariants.{Compute}
use Rattle.bpf_code.specs.declared.operation.Operand.TheVariants.{Constant, Index}
use Rattle.bpf_code.specs.declared.operation.Test.{Test}
use Rattle.bpf_code.specs.declared.operation.Test.TheVariants.{Equal, Above, AtLeast}
use Rattle.bpf_code.specs.declared.operation.Width.{Width}
use Rattle.bpf_code.specs.declared.operation.Width.TheVariants.{Word, Half, Byte}
use Rattle.rule_compile.specs.Code.{plain, image_word, load_indexed, index_from_a, branch, half_number, four}
use Rattle.rule_compile.specs.Folders.{parts_of}
use Rattle.match_rule.specs.Bytes.{ends_with}
use Rattle.filter_compile.specs.declared.exits.Exits.{Exits}

abbrev pub Piece : Type 0
Piece = Exits → List Ins → List Ins

-- ---- exits

abbrev pub turned : Exits → Exits
turned exits = record { holds = exits.fails; fails = exits.holds }

-- the first instruction of the rest, where the fact holds
abbrev pub holds_next : Exits → List Ins → Exits
holds_next exits rest = record { holds = length rest; fails = exits.fails }

-- where it doesn't
abbrev pub fails_next : Exits → List Ins → Exits
fails_next exits rest = record { holds = exits.holds; fails = length rest }

-- ---- pieces joined

-- the other doesn't hold
abbrev pub no : Piece → Piece
no f exits rest = f (turned exits) rest

-- the second need only do its work where the first holds
abbrev pub both : Piece → Piece → Piece
both f g exits rest = f (holds_next exits (g exits rest)) (g exits rest)

-- the second need only do its work where the first doesn't hold
abbrev pub either : Piece → Piece → Piece
either f g exits rest = f (fails_next exits (g exits rest)) (g exits rest)

-- ---- comparisons

-- How many instructions of a program stand before a place, which is the number of those from it to the end. A place is at least
-- the last instruction.
unfoldable pub over : List Ins → ℕ → ℕ
over rest place = min (length rest - place) (length rest - 1)

-- a comparison of A with a number
abbrev pub fork : Test → ℕ → Piece
fork test k exits rest = branch test k (over rest exits.holds) (over rest exits.fails) ∷ rest

-- the word of the image at a place passes a comparison
abbrev pub word_test : ℕ → Test → ℕ → Piece
word_test at test k exits rest = image_word at ∷ fork test k exits rest

-- so does what stands `at` bytes after X
abbrev pub indexed_test : Width → ℕ → Test → ℕ → Piece
indexed_test width at test k exits rest = load_indexed width at ∷ fork test k exits rest

-- ---- texts, whose place and length the image tells in the two words from a place on

-- the text is there
abbrev pub is_there : ℕ → Piece
is_there at = word_test at Above 0

-- its length passes a comparison
abbrev pub has_len : Test → ℕ → ℕ → Piece
has_len test n at = word_test (at + 4) test n

-- X becomes the text's place
abbrev pub index_start : ℕ → List Ins → List Ins
index_start at rest = image_word at ∷ index_from_a ∷ rest

abbrev pub from_start : ℕ → Piece → Piece
from_start at f exits rest = index_start at (f exits rest)

-- X becomes the place of its last n bytes
abbrev pub index_back : ℕ → ℕ → List Ins → List Ins
index_back n at rest =
    image_word (at + 4) ∷ plain (Compute Sub Constant) n ∷ index_from_a ∷ image_word at ∷ plain (Compute Add Index) 0 ∷ index_from_a ∷ rest

abbrev pub from_back : ℕ → ℕ → Piece → Piece
from_back n at f exits rest = index_back n at (f exits rest)

-- one, two or four bytes of a value as a number, the highest first
abbrev pub unit_number : Width → List ℕ → ℕ → ℕ
unit_number Byte value i = slice_index value i
unit_number Half value i = half_number (slice_index value i) (slice_index value (i + 1))
unit_number Word value i = four (slice_index value i) (slice_index value (i + 1)) (slice_index value (i + 2)) (slice_index value (i + 3))

abbrev pub unit_len : Width → ℕ
unit_len Byte = 1
unit_len Half = 2
unit_len Word = 4

-- the bytes from `at` + i after X on are those of a value from its byte i on
abbrev pub same_unit : Width → ℕ → List ℕ → ℕ → Piece
same_unit width at value i = indexed_test width (at + i) Equal (unit_number width value i)

-- so are the first n units of the value, which go on with the rest where that holds
abbrev pub same_units : Width → ℕ → List ℕ → ℕ → ℕ → List Ins → List Ins
same_units width at value zero fails rest = rest
same_units width at value (suc n) fails rest =
    same_units width at value n fails (same_unit width at value (unit_len width * n) (record { holds = length rest; fails = fails }) rest)

-- the greatest unit that a value has, whose last one may overlap the one before
abbrev pub unit_of : List ℕ → Width
unit_of value = if nat_lt (length value) 2 then Byte else if nat_lt (length value) 4 then Half else Word

-- the bytes from `at` after X on are those of a value that has some
abbrev pub same_by : Width → ℕ → List ℕ → Piece
same_by width at value exits rest =
    same_units width at value ((length value - 1) / unit_len width) exits.fails (same_unit width at value (length value - unit_len width) exits rest)

abbrev pub same_bytes : ℕ → List ℕ → Piece
same_bytes at value = same_by (unit_of value) at value

-- ---- a text that is there, and a value

-- a length, and where the value has bytes, those
abbrev pub len_then : Test → List ℕ → ℕ → Piece → Piece
len_then test value at f = if length value == 0 then has_len test 0 at else both (has_len test (length value) at) f

-- a length, and the first bytes
abbrev pub front : Test → List ℕ → ℕ → Piece
front test value at = len_then test value at (from_start at (same_bytes 0 value))

abbrev pub is_text : List ℕ → ℕ → Piece
is_text value at = front Equal value at

abbrev pub begins : List ℕ → ℕ → Piece
begins value at = front AtLeast value at

abbrev pub ends : List ℕ → ℕ → Piece
ends value at = len_then AtLeast value at (from_back (length value) at (same_bytes 0 value))

-- ---- paths and names

-- the text ends after the value, or a separator follows
abbrev pub end_or : ℕ → ℕ → ℕ → Piece
end_or separator n at = either (has_len Equal n at) (indexed_test Byte n Equal separator)

-- the bytes of a value, if it has some, in front of a piece
abbrev pub bytes_before : List ℕ → Exits → List Ins → List Ins
bytes_before value exits rest = if length value == 0 then rest else same_bytes 0 value (holds_next exits rest) rest

abbrev pub bytes_then : List ℕ → Piece → Piece
bytes_then value f exits rest = bytes_before value exits (f exits rest)

-- the text is the value, or begins with it and a separator
abbrev pub in_namespace : ℕ → List ℕ → ℕ → Piece
in_namespace separator value at =
    both (has_len AtLeast (length value) at) (from_start at (bytes_then value (end_or separator (length value) at)))

-- a length that a part of the value fits into, and the part at its place
abbrev pub part_test : Test → ℕ → ℕ → List ℕ → Piece
part_test test at place part = both (has_len test (place + length part) at) (same_bytes place part)

-- the same in front of the pieces of the later parts: the text may end after the part
abbrev pub inner_part : ℕ → ℕ → List ℕ → Exits → List Ins → List Ins
inner_part at place part exits later =
    let ended = has_len Equal (place + length part) at (fails_next exits later) later in
    part_test AtLeast at place part (holds_next exits ended) ended

-- The text goes on from a place with these parts of a value: it may end after each `/`, and go on after the value where
-- that ends with one.
abbrev pub follow_parts : ℕ → ℕ → List (List ℕ) → Exits → List Ins → List Ins
follow_parts at place [] exits rest = rest
follow_parts at place (part ∷ []) exits rest =
    if ends_with 47 part then part_test AtLeast at place part exits rest else part_test Equal at place part exits rest
follow_parts at place (part ∷ next ∷ more) exits rest =
    inner_part at place part exits (follow_parts at (place + length part) (next ∷ more) exits rest)

-- the text equals the value, or one of them ends with `/` and begins the other
abbrev pub is_nested : List ℕ → ℕ → Piece
is_nested value at = if length value == 0 then has_len Equal 0 at else from_start at (follow_parts at 0 (parts_of value))
