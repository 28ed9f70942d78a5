-- Each type of integer in a message of type `B`: from its way on the integer is compared.
use Rattle.std.proofs.Common.{◌≡◌, ℕ, ◌-◌, ◌%◌, ◌^◌, ◌<◌, List, refl, sym, ap, arith, subst}
use Rattle.std.specs.Int.{byte_at, w16, w32, w64}
use Rattle.bpf_code.specs.declared.instruction.Ins.{Ins}
use Rattle.bpf_code.specs.declared.operation.Test.{Test}
use Rattle.bpf_code.specs.declared.operation.Test.TheVariants as machine
use Rattle.bpf_code.specs.declared.operation.Width.TheVariants as widths
use Rattle.message_value.specs.Order.{number_bytes}
use Rattle.message_value.specs.Spelling.{width_of}
use Rattle.message_value.specs.declared.order.Order.TheVariants.{Big}
use Rattle.rule_compile.proofs.Bytes.{At}
use Rattle.summary.specs.Shown.{Lies}
use Rattle.filter.specs.declared.integer.Integer.{Integer}
use Rattle.filter.specs.declared.integer.Integer.TheVariants.{Natural, Negative}
use Rattle.filter_compile.specs.ArgCode.{bits_of, way, code_of, Sized, littles, bigs, ladder, wide}
use Rattle.filter_compile.specs.Entered.{Entered}
use Rattle.filter_compile.specs.Holds.{integer_of}
use Rattle.filter_compile.specs.Pieces.{indexed_test}
use Rattle.filter_compile.specs.declared.integer_type.IntegerType.{IntegerType}
use Rattle.filter_compile.specs.declared.integer_type.IntegerType.TheVariants.{Byte, Boolean, Int16, Uint16, Int32, Uint32, Int64, Uint64}
use Rattle.filter_compile.specs.declared.exits.Exits.{Exits}
use Rattle.filter_compile.proofs.ArgOrders.{upon_littles, little_decides_one, upon_bigs, grows_bigs, big_decides_one, big_decides_two, big_decides_four, big_decides_eight}
use Rattle.filter_compile.proofs.ArgSizes.{little_one, big_size, big_eight, little_shared, big_shared_four, big_shared_two, big_shared_eight}
use Rattle.filter_compile.proofs.ArgTypes.{eight, type_entry, upon_eight, on_all, unsigned_type, Bits, signed_type, entry_two, entry_four, entry_eight, shared_entries, shared_type}
use Rattle.filter_compile.proofs.ArgKinds.{There, sign_two, sign_four, sign_eight, ladder_shares}
use Rattle.filter_compile.proofs.Entries.{Decides, decides_on}
use Rattle.filter_compile.proofs.Ladders.{Ordered}
use Rattle.filter_compile.proofs.NumberLoads.{big_eight_high, big_eight_low, big_four, big_two, big_top}
use Rattle.filter_compile.proofs.SharedBits.{Share}
use Rattle.filter_compile.proofs.TwoExits.{Before, joined, Tests}
use Rattle.filter_compile.proofs.TypeEntries.{from_unsigned}
use Rattle.filter_compile.proofs.TypeIntegers.{Compared, IsOrder}

module _ (image : List ℕ) (place : ℕ) (base : List Ins) (exits : Exits) (test : Test) (value : Integer) (rest : List Ins) (above : Before (littles test (bits_of value) exits base).code rest) where
  abbrev Decided : List Ins → ℕ → Type 0 → Type 0
  Decided code entry C = Decides image (At place) base exits code entry C

  abbrev pub lower : Before base (littles test (bits_of value) exits base).code
  lower = upon_littles image place base exits test (bits_of value)

  pub over : Before base rest
  over = joined base (littles test (bits_of value) exits base).code rest above lower

  -- one byte is compared as in a message of type `l`
  abbrev pub one : ℕ
  one = (littles test (bits_of value) exits base).sizes.one

  abbrev pub words : Sized
  words = bigs test (bits_of value) exits one rest

  abbrev pub up : Before base words.code
  up = upon_bigs image place base exits test (bits_of value) one rest over

  pub grown : Before rest words.code
  grown = grows_bigs image place base exits test (bits_of value) one rest over

  abbrev pub after : Entered
  after = eight image place base exits test value Big words up

  abbrev pub entry_of : IntegerType → ℕ
  entry_of kind = type_entry image place base exits test value Big words up kind

  -- what a type's comparison gives from its way on
  abbrev pub Big_way : ℕ → IntegerType → Type 0
  Big_way n kind = Decided after.code (way test (code_of kind) value exits (entry_of kind)) (Compared test (n, integer_of (code_of kind) n) value)

  -- ---- from the entries on

  from_one : (C : Type 0) → Tests image (At place) C (ladder test (bits_of value) 0) → Decided words.code words.sizes.one C
  from_one C t =
      let low = little_decides_one image place base exits test (bits_of value) C t in
      big_decides_one image place base exits test (bits_of value) one rest over C
      (decides_on image (At place) base exits (littles test (bits_of value) exits base).code rest one C above low)

  from_two : (C : Type 0) → Tests image (At place) C (indexed_test widths.Half 0 test (bits_of value % 2 ^ 16)) → Decided words.code words.sizes.two C
  from_two C t = big_decides_two image place base exits test (bits_of value) one rest over C t

  from_four : (C : Type 0) → Tests image (At place) C (indexed_test widths.Word 0 test (bits_of value % 2 ^ 32)) → Decided words.code words.sizes.four C
  from_four C t = big_decides_four image place base exits test (bits_of value) one rest over C t

  from_eight : (C : Type 0) → Tests image (At place) C (wide test (bits_of value)) → Decided words.code words.sizes.eight C
  from_eight C t = big_decides_eight image place base exits test (bits_of value) one rest over C t

  -- ---- orders

  module _ (order : IsOrder test) where
    half : (n : ℕ) → Lies image place (number_bytes Big w16 n) → n < 2 ^ 16 → Decided words.code words.sizes.two (Ordered test n (bits_of value % 2 ^ 16))
    half n lies small = from_two _ (big_size image place test order widths.Half n (bits_of value % 2 ^ 16) (big_two image place n lies small))

    word : (n : ℕ) → Lies image place (number_bytes Big w32 n) → n < 2 ^ 32 → Decided words.code words.sizes.four (Ordered test n (bits_of value % 2 ^ 32))
    word n lies small = from_four _ (big_size image place test order widths.Word n (bits_of value % 2 ^ 32) (big_four image place n lies small))

    long : (n : ℕ) → Lies image place (number_bytes Big w64 n) → n < 2 ^ 64 → bits_of value < 2 ^ 64 → Decided words.code words.sizes.eight (Ordered test n (bits_of value))
    long n lies small fits = from_eight _ (big_eight image place test order n (bits_of value) small fits (big_eight_high image place n lies small) (big_eight_low image place n lies))

    -- an integer that a type of eight bytes has
    signed_fits : Bits image place base exits test value Big words up order 9223372036854775808 (bits_of value % 2 ^ 64) → bits_of value < 2 ^ 64
    signed_fits bits = go value refl
      where
        go : (i : Integer) → value ≡ i → bits_of value < 2 ^ 64
        go (Natural v) is = let l = (bits.0 v is).0 in let e : bits_of value ≡ v = ap bits_of is in omega (arith, l, e)
        go (Negative m) is = let e : bits_of value ≡ 2 ^ 64 - 1 - m = ap bits_of is in omega (arith, e)

    pub big_order : (kind : IntegerType) (n : ℕ) → Lies image place (number_bytes Big (width_of (code_of kind)) n) → There image place base exits test value n kind → Big_way n kind
    big_order Byte n lies small =
        unsigned_type image place base exits test value Big words up order 121 256 n words.sizes.one refl refl small (λ v l. omega (arith, l)) (from_one _ (little_one image place test order n (bits_of value) lies small))
    big_order Boolean n lies small =
        unsigned_type image place base exits test value Big words up order 98 (2 ^ 32) n words.sizes.four refl refl small (λ v l. omega (arith, l)) (word n lies small)
    big_order Uint16 n lies small =
        unsigned_type image place base exits test value Big words up order 113 (2 ^ 16) n words.sizes.two refl refl small (λ v l. omega (arith, l)) (half n lies small)
    big_order Uint32 n lies small =
        unsigned_type image place base exits test value Big words up order 117 (2 ^ 32) n words.sizes.four refl refl small (λ v l. omega (arith, l)) (word n lies small)
    big_order Uint64 n lies small =
        from_unsigned image place base exits test 116 (2 ^ 64) n value after.code words.sizes.eight order (upon_eight image place base exits test value Big words up) refl refl small (λ v is less.
        let e : bits_of value ≡ v = ap bits_of is in
        subst (λ (k : ℕ). Decided after.code words.sizes.eight (Ordered test n k)) e (on_all image place base exits test value Big words up words.sizes.eight _ (long n lies small (omega (arith, e, less)))))
    big_order Int16 n lies small =
        signed_type image place base exits test value Big words up order 110 32768 n (entry_of Int16) refl refl small (λ v l. omega (arith, l)) (λ m l. omega (arith, l)) (λ bits.
        entry_two image place base exits test value Big words up order 32768 n (bits_of value % 2 ^ 16) (byte_at 1 n) small (big_top image place 1 n lies) (sign_two n small) (half n lies small) bits)
    big_order Int32 n lies small =
        signed_type image place base exits test value Big words up order 105 2147483648 n (entry_of Int32) refl refl small (λ v l. omega (arith, l)) (λ m l. omega (arith, l)) (λ bits.
        entry_four image place base exits test value Big words up order 2147483648 n (bits_of value % 2 ^ 32) (byte_at 3 n) small (big_top image place 3 n lies) (sign_four n small) (word n lies small) bits)
    big_order Int64 n lies small =
        signed_type image place base exits test value Big words up order 120 9223372036854775808 n (entry_of Int64) refl refl small (λ v l. omega (arith, l)) (λ m l. omega (arith, l)) (λ bits.
        let fits = signed_fits bits in
        let e : bits_of value ≡ bits_of value % 2 ^ 64 = omega (arith, fits) in
        entry_eight image place base exits test value Big words up order 9223372036854775808 n (bits_of value % 2 ^ 64) (byte_at 7 n) small (big_top image place 7 n lies) (sign_eight n small)
        (subst (λ (k : ℕ). Decided words.code words.sizes.eight (Ordered test n k)) e (long n lies small fits)) bits)

  -- ---- bits that are shared

  half_shares : (n : ℕ) → test ≡ machine.SharesBit → Lies image place (number_bytes Big w16 n) → n < 2 ^ 16 → Decided words.code words.sizes.two (Share n (bits_of value))
  half_shares n is lies small =
      from_two _ (subst (λ (u : Test). Tests image (At place) (Share n (bits_of value)) (indexed_test widths.Half 0 u (bits_of value % 2 ^ 16))) (sym is) (big_shared_two image place n (bits_of value) small (big_two image place n lies small)))

  word_shares : (n : ℕ) → test ≡ machine.SharesBit → Lies image place (number_bytes Big w32 n) → n < 2 ^ 32 → Decided words.code words.sizes.four (Share n (bits_of value))
  word_shares n is lies small =
      from_four _ (subst (λ (u : Test). Tests image (At place) (Share n (bits_of value)) (indexed_test widths.Word 0 u (bits_of value % 2 ^ 32))) (sym is) (big_shared_four image place n (bits_of value) small (big_four image place n lies small)))

  long_shares : (n : ℕ) → test ≡ machine.SharesBit → Lies image place (number_bytes Big w64 n) → n < 2 ^ 64 → Decided words.code words.sizes.eight (Share n (bits_of value))
  long_shares n is lies small =
      from_eight _ (subst (λ (u : Test). Tests image (At place) (Share n (bits_of value)) (wide u (bits_of value))) (sym is) (big_shared_eight image place n (bits_of value) small (big_eight_high image place n lies small) (big_eight_low image place n lies)))

  pub big_shares : (kind : IntegerType) (n : ℕ) → test ≡ machine.SharesBit → Lies image place (number_bytes Big (width_of (code_of kind)) n) → There image place base exits test value n kind → Big_way n kind
  big_shares Byte n is lies small =
      shared_type image place base exits test value Big words up 121 n words.sizes.one words.sizes.one _ is refl (from_one _ (ladder_shares image place base exits test value n 0 is (little_shared image place n (bits_of value) 0 (omega arith) lies (omega (arith, small)))))
  big_shares Boolean n is lies small = shared_type image place base exits test value Big words up 98 n words.sizes.four words.sizes.four _ is refl (word_shares n is lies small)
  big_shares Uint16 n is lies small = shared_type image place base exits test value Big words up 113 n words.sizes.two words.sizes.two _ is refl (half_shares n is lies small)
  big_shares Uint32 n is lies small = shared_type image place base exits test value Big words up 117 n words.sizes.four words.sizes.four _ is refl (word_shares n is lies small)
  big_shares Uint64 n is lies small = shared_type image place base exits test value Big words up 116 n words.sizes.eight words.sizes.eight _ is refl (long_shares n is lies small)
  big_shares Int16 n is lies small =
      shared_type image place base exits test value Big words up 110 n (entry_of Int16) words.sizes.two _ is (shared_entries image place base exits test value Big words up is).0 (half_shares n is lies small)
  big_shares Int32 n is lies small =
      shared_type image place base exits test value Big words up 105 n (entry_of Int32) words.sizes.four _ is (shared_entries image place base exits test value Big words up is).1 (word_shares n is lies small)
  big_shares Int64 n is lies small =
      shared_type image place base exits test value Big words up 120 n (entry_of Int64) words.sizes.eight _ is (shared_entries image place base exits test value Big words up is).2 (long_shares n is lies small)
