-- Each type of integer, in either byte order: from its way on the integer is compared.
use Rattle.std.proofs.Common.{◌≡◌, ℕ, ◌%◌, ◌^◌, ◌<◌, ◌≤◌, List, ◌↔◌, refl, sym, arith, subst}
use Rattle.std.specs.Int.{byte_at}
use Rattle.bpf_code.specs.declared.instruction.Ins.{Ins}
use Rattle.bpf_code.specs.declared.operation.Test.{Test}
use Rattle.bpf_code.specs.declared.operation.Test.TheVariants as machine
use Rattle.message_value.specs.Order.{number_bytes}
use Rattle.message_value.specs.Spelling.{width_of}
use Rattle.message_value.specs.declared.order.Order.TheVariants.{Little}
use Rattle.rule_compile.proofs.Bytes.{At}
use Rattle.summary.specs.Shown.{Lies}
use Rattle.filter.specs.declared.integer.Integer.{Integer}
use Rattle.filter_compile.specs.ArgCode.{bits_of, way, code_of, Sized, littles, ladder}
use Rattle.filter_compile.specs.Entered.{Entered}
use Rattle.filter_compile.specs.Holds.{bits_of_code, integer_of}
use Rattle.filter_compile.specs.declared.integer_type.IntegerType.{IntegerType}
use Rattle.filter_compile.specs.declared.integer_type.IntegerType.TheVariants.{Byte, Boolean, Int16, Uint16, Int32, Uint32, Int64, Uint64}
use Rattle.filter_compile.specs.declared.exits.Exits.{Exits}
use Rattle.filter_compile.proofs.ArgOrders.{upon_littles, little_decides_one, little_decides_two, little_decides_four, little_decides_eight}
use Rattle.filter_compile.proofs.ArgSizes.{little_one, little_two, little_four, little_eight, little_shared}
use Rattle.filter_compile.proofs.ArgTypes.{eight, type_entry, unsigned_type, signed_type, entry_two, entry_four, entry_eight, shared_entries, shared_type}
use Rattle.filter_compile.proofs.Entries.{Decides}
use Rattle.filter_compile.proofs.NumberLoads.{little_loads}
use Rattle.filter_compile.proofs.SharedBits.{Share}
use Rattle.filter_compile.proofs.TwoExits.{Before, Tests}
use Rattle.filter_compile.proofs.TypeIntegers.{Compared, IsOrder}

-- the sign of a number by its highest byte
pub sign_two : (n : ℕ) → n < 2 ^ 16 → (128 ≤ byte_at 1 n) ↔ (32768 ≤ n)
sign_two n small = (λ le. omega (arith, le), λ le. omega (arith, le, small))

pub sign_four : (n : ℕ) → n < 2 ^ 32 → (128 ≤ byte_at 3 n) ↔ (2147483648 ≤ n)
sign_four n small = (λ le. omega (arith, le), λ le. omega (arith, le, small))

pub sign_eight : (n : ℕ) → n < 2 ^ 64 → (128 ≤ byte_at 7 n) ↔ (9223372036854775808 ≤ n)
sign_eight n small = (λ le. omega (arith, le), λ le. omega (arith, le, small))

module _ (image : List ℕ) (place : ℕ) (base : List Ins) (exits : Exits) (test : Test) (value : Integer) where
  abbrev Decided : List Ins → ℕ → Type 0 → Type 0
  Decided code entry C = Decides image (At place) base exits code entry C

  -- the number's bytes lie there
  abbrev pub There : ℕ → IntegerType → Type 0
  There n kind = n < 2 ^ bits_of_code (code_of kind)

  -- ---- type `l`

  abbrev pub s : Sized
  s = littles test (bits_of value) exits base

  abbrev pub up : Before base s.code
  up = upon_littles image place base exits test (bits_of value)

  abbrev pub after : Entered
  after = eight image place base exits test value Little s up

  abbrev pub entry_of : IntegerType → ℕ
  entry_of kind = type_entry image place base exits test value Little s up kind

  -- what a type's comparison gives from its way on
  abbrev pub Little_way : ℕ → IntegerType → Type 0
  Little_way n kind = Decided after.code (way test (code_of kind) value exits (entry_of kind)) (Compared test (n, integer_of (code_of kind) n) value)

  pub little_order : (kind : IntegerType) (n : ℕ) → IsOrder test → Lies image place (number_bytes Little (width_of (code_of kind)) n) → There n kind → Little_way n kind
  little_order Byte n order lies small =
      unsigned_type image place base exits test value Little s up order 121 256 n s.sizes.one refl refl small (λ v l. omega (arith, l)) (little_decides_one image place base exits test (bits_of value) _ (little_one image place test order n (bits_of value) lies small))
  little_order Boolean n order lies small =
      unsigned_type image place base exits test value Little s up order 98 (2 ^ 32) n s.sizes.four refl refl small (λ v l. omega (arith, l)) (little_decides_four image place base exits test (bits_of value) _ (little_four image place test order n (bits_of value) lies small))
  little_order Uint16 n order lies small =
      unsigned_type image place base exits test value Little s up order 113 (2 ^ 16) n s.sizes.two refl refl small (λ v l. omega (arith, l)) (little_decides_two image place base exits test (bits_of value) _ (little_two image place test order n (bits_of value) lies small))
  little_order Uint32 n order lies small =
      unsigned_type image place base exits test value Little s up order 117 (2 ^ 32) n s.sizes.four refl refl small (λ v l. omega (arith, l)) (little_decides_four image place base exits test (bits_of value) _ (little_four image place test order n (bits_of value) lies small))
  little_order Uint64 n order lies small =
      unsigned_type image place base exits test value Little s up order 116 (2 ^ 64) n s.sizes.eight refl refl small (λ v l. omega (arith, l)) (little_decides_eight image place base exits test (bits_of value) _ (little_eight image place test order n (bits_of value) lies small))
  little_order Int16 n order lies small =
      signed_type image place base exits test value Little s up order 110 32768 n (entry_of Int16) refl refl small (λ v l. omega (arith, l)) (λ m l. omega (arith, l)) (λ bits.
      entry_two image place base exits test value Little s up order 32768 n (bits_of value % 2 ^ 16) (byte_at 1 n) small (little_loads image place 2 n 1 lies (omega arith)) (sign_two n small) (little_decides_two image place base exits test (bits_of value) _ (little_two image place test order n (bits_of value) lies small)) bits)
  little_order Int32 n order lies small =
      signed_type image place base exits test value Little s up order 105 2147483648 n (entry_of Int32) refl refl small (λ v l. omega (arith, l)) (λ m l. omega (arith, l)) (λ bits.
      entry_four image place base exits test value Little s up order 2147483648 n (bits_of value % 2 ^ 32) (byte_at 3 n) small (little_loads image place 4 n 3 lies (omega arith)) (sign_four n small) (little_decides_four image place base exits test (bits_of value) _ (little_four image place test order n (bits_of value) lies small)) bits)
  little_order Int64 n order lies small =
      signed_type image place base exits test value Little s up order 120 9223372036854775808 n (entry_of Int64) refl refl small (λ v l. omega (arith, l)) (λ m l. omega (arith, l)) (λ bits.
      entry_eight image place base exits test value Little s up order 9223372036854775808 n (bits_of value % 2 ^ 64) (byte_at 7 n) small (little_loads image place 8 n 7 lies (omega arith)) (sign_eight n small) (little_decides_eight image place base exits test (bits_of value) _ (little_eight image place test order n (bits_of value) lies small)) bits)

  -- a ladder that looks for a bit
  pub ladder_shares : (n j : ℕ) → test ≡ machine.SharesBit → Tests image (At place) (Share n (bits_of value)) (ladder machine.SharesBit (bits_of value) j) → Tests image (At place) (Share n (bits_of value)) (ladder test (bits_of value) j)
  ladder_shares n j is t = subst (λ (u : Test). Tests image (At place) (Share n (bits_of value)) (ladder u (bits_of value) j)) (sym is) t

  pub little_shares : (kind : IntegerType) (n : ℕ) → test ≡ machine.SharesBit → Lies image place (number_bytes Little (width_of (code_of kind)) n) → There n kind → Little_way n kind
  little_shares Byte n is lies small =
      shared_type image place base exits test value Little s up 121 n s.sizes.one s.sizes.one _ is refl (little_decides_one image place base exits test (bits_of value) _ (ladder_shares n 0 is (little_shared image place n (bits_of value) 0 (omega arith) lies (omega (arith, small)))))
  little_shares Boolean n is lies small =
      shared_type image place base exits test value Little s up 98 n s.sizes.four s.sizes.four _ is refl (little_decides_four image place base exits test (bits_of value) _ (ladder_shares n 3 is (little_shared image place n (bits_of value) 3 (omega arith) lies (omega (arith, small)))))
  little_shares Uint16 n is lies small =
      shared_type image place base exits test value Little s up 113 n s.sizes.two s.sizes.two _ is refl (little_decides_two image place base exits test (bits_of value) _ (ladder_shares n 1 is (little_shared image place n (bits_of value) 1 (omega arith) lies (omega (arith, small)))))
  little_shares Uint32 n is lies small =
      shared_type image place base exits test value Little s up 117 n s.sizes.four s.sizes.four _ is refl (little_decides_four image place base exits test (bits_of value) _ (ladder_shares n 3 is (little_shared image place n (bits_of value) 3 (omega arith) lies (omega (arith, small)))))
  little_shares Uint64 n is lies small =
      shared_type image place base exits test value Little s up 116 n s.sizes.eight s.sizes.eight _ is refl (little_decides_eight image place base exits test (bits_of value) _ (ladder_shares n 7 is (little_shared image place n (bits_of value) 7 (omega arith) lies (omega (arith, small)))))
  little_shares Int16 n is lies small =
      shared_type image place base exits test value Little s up 110 n (entry_of Int16) s.sizes.two _ is (shared_entries image place base exits test value Little s up is).0 (little_decides_two image place base exits test (bits_of value) _ (ladder_shares n 1 is (little_shared image place n (bits_of value) 1 (omega arith) lies (omega (arith, small)))))
  little_shares Int32 n is lies small =
      shared_type image place base exits test value Little s up 105 n (entry_of Int32) s.sizes.four _ is (shared_entries image place base exits test value Little s up is).1 (little_decides_four image place base exits test (bits_of value) _ (ladder_shares n 3 is (little_shared image place n (bits_of value) 3 (omega arith) lies (omega (arith, small)))))
  little_shares Int64 n is lies small =
      shared_type image place base exits test value Little s up 120 n (entry_of Int64) s.sizes.eight _ is (shared_entries image place base exits test value Little s up is).2 (little_decides_eight image place base exits test (bits_of value) _ (ladder_shares n 7 is (little_shared image place n (bits_of value) 7 (omega arith) lies (omega (arith, small)))))
