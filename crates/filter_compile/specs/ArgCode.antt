-- Inner: the piece that compares an argument's number with an integer. One chain over the bytes from the highest on serves
-- all types in a message of type `l`: each type has its entry. In one of type `B` words are compared.
use Rattle.std.specs.Prelude.{ℕ, zero, suc, ◌+◌, ◌-◌, ◌/◌, ◌%◌, ◌^◌, ◌&&◌, Bool, List, [], ◌∷◌, length, nat_lt, if◌then◌else◌}
use Rattle.std.specs.Int.{byte_at}
use Rattle.bpf_code.specs.declared.instruction.Ins.{Ins}
use Rattle.bpf_code.specs.declared.operation.Test.{Test}
use Rattle.bpf_code.specs.declared.operation.Test.TheVariants.{Equal, Above, AtLeast, SharesBit}
use Rattle.bpf_code.specs.declared.operation.Width.{Width}
use Rattle.bpf_code.specs.declared.operation.Width.TheVariants as widths
use Rattle.jump_islands.specs.Source.{jump_over}
use Rattle.message_value.specs.declared.order.Order.{Order}
use Rattle.message_value.specs.declared.order.Order.TheVariants.{Little, Big}
use Rattle.summary.specs.Layout.{order_place, argument_place}
use Rattle.filter.specs.declared.integer.Integer.{Integer}
use Rattle.filter.specs.declared.integer.Integer.TheVariants.{Natural, Negative}
use Rattle.filter.specs.declared.test.NumberRelation.{NumberRelation}
use Rattle.filter_compile.specs.declared.exits.Exits.{Exits}
use Rattle.filter_compile.specs.declared.integer_type.IntegerType.{IntegerType}
use Rattle.filter_compile.specs.declared.integer_type.IntegerType.TheVariants.{Byte, Boolean, Int16, Uint16, Int32, Uint32, Int64, Uint64}
use Rattle.filter_compile.specs.declared.digits.Sizes.{Sizes}
use Rattle.filter_compile.specs.Entered.{Entered, whole}
use Rattle.filter_compile.specs.Holds.{is_signed_code, bits_of_code}
use Rattle.filter_compile.specs.Pieces.{Piece, over, holds_next, fails_next, index_start, word_test, indexed_test}
use Rattle.filter_compile.specs.TestCode.{exits_for, comparison_of, equality_of}

-- ---- digits, from the highest on

-- A digit of the number, in front of the code of the lower ones: an order asks for those where the digits are the same, as
-- equality does, and `&` where they share no bit.
abbrev pub rung_code : Test → Width → ℕ → ℕ → Exits → List Ins → List Ins
rung_code Equal width at key exits code = indexed_test width at Equal key (holds_next exits code) code
rung_code SharesBit width at key exits code = indexed_test width at SharesBit key (fails_next exits code) code
rung_code _ width at key exits code =
    let same = indexed_test width at Equal key (holds_next exits code) code in indexed_test width at Above key (fails_next exits same) same

abbrev pub rung : Test → Width → ℕ → ℕ → Piece → Piece
rung test width at key f exits rest = rung_code test width at key exits (f exits rest)

-- the lowest j + 1 bytes of a number, as they lie in a message of type `l`
abbrev pub ladder : Test → ℕ → ℕ → Piece
ladder test bits zero = indexed_test widths.Byte 0 test (byte_at 0 bits)
ladder test bits (suc j) = rung test widths.Byte (suc j) (byte_at (suc j) bits) (ladder test bits j)

-- eight bytes as two words, as they lie in a message of type `B`
abbrev pub wide : Test → ℕ → Piece
wide test bits = rung test widths.Word 0 (bits / 2 ^ 32) (indexed_test widths.Word 4 test (bits % 2 ^ 32))

-- ---- integers and types

-- two's complement in 64 bits
abbrev pub bits_of : Integer → ℕ
bits_of (Natural n) = n
bits_of (Negative n) = 2 ^ 64 - 1 - n

-- what the integers of a type are below
abbrev pub limit_of : ℕ → ℕ
limit_of code = if is_signed_code code then 2 ^ (bits_of_code code - 1) else 2 ^ bits_of_code code

-- the type has the integer
abbrev pub is_inside : ℕ → Integer → Bool
is_inside code (Natural n) = nat_lt n (limit_of code)
is_inside code (Negative n) = is_signed_code code && nat_lt n (limit_of code)

-- where a comparison of a type goes that hasn't: each of its integers is above, or below
abbrev pub outside : Test → Integer → Exits → ℕ
outside Equal value exits = exits.fails
outside test (Natural n) exits = exits.fails
outside test (Negative n) exits = exits.holds

-- where the comparison of a type goes; `&` takes nothing below 0
abbrev pub way : Test → ℕ → Integer → Exits → ℕ → ℕ
way SharesBit code (Natural n) exits entry = entry
way SharesBit code (Negative n) exits entry = exits.fails
way test code value exits entry = if is_inside code value then entry else outside test value exits

-- ---- the sign: of two integers of one sign the bits are in the same order

abbrev pub sign_ways : Integer → Exits → ℕ → Exits
sign_ways (Natural n) exits entry = record { holds = exits.fails; fails = entry }
sign_ways (Negative n) exits entry = record { holds = entry; fails = exits.holds }

abbrev pub sign_step : Test → Integer → ℕ → Exits → ℕ → List Ins → Entered
sign_step Equal value at exits entry rest = record { code = rest; entry = entry }
sign_step SharesBit value at exits entry rest = record { code = rest; entry = entry }
sign_step _ value at exits entry rest = whole (indexed_test widths.Byte at AtLeast 128 (sign_ways value exits entry) rest)

-- where the highest byte of a number of k bytes lies
abbrev pub top_at : Order → ℕ → ℕ
top_at Little k = k - 1
top_at Big k = 0

-- a program under way, and the entries of numbers of one, two, four and eight bytes
pub record Sized : Type 0 where
  pub code : List Ins
  pub sizes : Sizes

abbrev pub signs : Test → Integer → Order → Exits → Sized → Sized
signs test value order exits s =
    let two = sign_step test value (top_at order 2) exits s.sizes.two s.code in
    let four = sign_step test value (top_at order 4) exits s.sizes.four two.code in
    let eight = sign_step test value (top_at order 8) exits s.sizes.eight four.code in
    record { code = eight.code; sizes = record { one = s.sizes.one; two = two.entry; four = four.entry; eight = eight.entry } }

-- ---- the types, each with its entry

abbrev pub code_of : IntegerType → ℕ
code_of Byte = 121
code_of Boolean = 98
code_of Int16 = 110
code_of Uint16 = 113
code_of Int32 = 105
code_of Uint32 = 117
code_of Int64 = 120
code_of Uint64 = 116

abbrev pub unsigned_types : Sizes → List (IntegerType × ℕ)
unsigned_types s = (Byte, s.one) ∷ (Boolean, s.four) ∷ (Uint16, s.two) ∷ (Uint32, s.four) ∷ (Uint64, s.eight) ∷ []

abbrev pub signed_types : Sizes → List (IntegerType × ℕ)
signed_types s = (Int16, s.two) ∷ (Int32, s.four) ∷ (Int64, s.eight) ∷ []

-- an argument of one of the types goes its way, and any other to another entry
abbrev pub dispatch : ℕ → Test → Integer → Exits → List (IntegerType × ℕ) → Entered → Entered
dispatch n test value exits [] other = other
dispatch n test value exits (t ∷ ts) other =
    let later = dispatch n test value exits ts other in
    whole (word_test (argument_place n) Equal (code_of t.0) (record { holds = way test (code_of t.0) value exits t.1; fails = later.entry }) later.code)

-- the types of a message of one order, after their signs
abbrev pub typed : ℕ → Test → Integer → Order → Exits → ℕ → Sized → Entered
typed n test value order exits other s =
    let signed = signs test value order exits s in
    let later = dispatch n test value exits (signed_types signed.sizes) (record { code = signed.code; entry = other }) in
    dispatch n test value exits (unsigned_types s.sizes) later

-- ---- the whole piece

-- those of up to four bytes
abbrev pub low_sizes : Test → ℕ → Exits → List Ins → Sizes
low_sizes test bits exits rest =
    record { one = length (ladder test bits 0 exits rest); two = length (ladder test bits 1 exits rest); four = length (ladder test bits 3 exits rest); eight = length (ladder test bits 3 exits rest) }

abbrev pub littles : Test → ℕ → Exits → List Ins → Sized
littles test bits exits rest = record {
  code = ladder test bits 7 exits rest;
  sizes = record { one = length (ladder test bits 0 exits rest); two = length (ladder test bits 1 exits rest); four = length (ladder test bits 3 exits rest); eight = length (ladder test bits 7 exits rest) };
}

-- one byte is the same in both
abbrev pub bigs : Test → ℕ → Exits → ℕ → List Ins → Sized
bigs test bits exits one rest =
    let eight = wide test bits exits rest in
    let four = indexed_test widths.Word 0 test (bits % 2 ^ 32) exits eight in
    let two = indexed_test widths.Half 0 test (bits % 2 ^ 16) exits four in
    record { code = two; sizes = record { one = one; two = length two; four = length four; eight = length eight } }

-- two jumps to the exits, so that those of the piece are near
abbrev pub fails_jump : Exits → List Ins → List Ins
fails_jump exits rest = jump_over (over rest exits.fails) ∷ rest

abbrev pub jumps : Exits → List Ins → List Ins
jumps exits rest = let other = fails_jump exits rest in jump_over (over other exits.holds) ∷ other

abbrev pub near_exits : Exits → List Ins → Exits
near_exits exits rest = record { holds = length (jumps exits rest); fails = length (fails_jump exits rest) }

-- A has the place of the value, and the types are told apart in either order
abbrev pub compared : ℕ → Test → Integer → Exits → ℕ → List Ins → List Ins
compared n test value exits other rest =
    let plain = littles test (bits_of value) exits rest in
    let little = typed n test value Little exits other plain in
    let big = typed n test value Big exits other (bigs test (bits_of value) exits plain.sizes.one little.code) in
    word_test order_place Equal 108 (record { holds = little.entry; fails = big.entry }) big.code

abbrev pub arg_number : ℕ → NumberRelation → Integer → Piece
arg_number n relation value exits rest =
    let near = near_exits exits rest in
    index_start (argument_place n + 4) (compared n (comparison_of relation) value (exits_for (equality_of relation) near) near.fails (jumps exits rest))
