-- The types of a message of one order: each goes its way to the entry of its size, and is compared from there on.
use Rattle.std.proofs.Common.{◌≡◌, ℕ, ◌+◌, ◌-◌, ◌*◌, ◌%◌, ◌<◌, ◌≤◌, Bool, true, false, List, [], ◌∷◌, Some, ◌↔◌, refl, sym, ap, ◌∙◌, arith, subst}
use Rattle.std.specs.Prelude.{nat_lt, ◌&&◌}
use Rattle.std.proofs.lemmas.Bool.{false≢true, and_parts, ltb-true, ltb-false}
use Rattle.bpf_code.specs.Loads.{load}
use Rattle.bpf_code.specs.declared.instruction.Ins.{Ins}
use Rattle.bpf_code.specs.declared.operation.Test.{Test}
use Rattle.bpf_code.specs.declared.operation.Test.TheVariants.{Equal, SharesBit}
use Rattle.bpf_code.specs.declared.operation.Width.TheVariants as widths
use Rattle.message_value.specs.declared.order.Order.{Order}
use Rattle.rule_compile.proofs.Bytes.{At}
use Rattle.filter.specs.declared.integer.Integer.{Integer}
use Rattle.filter.specs.declared.integer.Integer.TheVariants.{Natural, Negative}
use Rattle.filter_compile.specs.ArgCode.{bits_of, limit_of, is_inside, way, sign_step, top_at, Sized, signs}
use Rattle.filter_compile.specs.Entered.{Entered}
use Rattle.filter_compile.specs.Holds.{is_signed_code, shares}
use Rattle.filter_compile.specs.declared.integer_type.IntegerType.{IntegerType}
use Rattle.filter_compile.specs.declared.integer_type.IntegerType.TheVariants.{Byte, Boolean, Int16, Uint16, Int32, Uint32, Int64, Uint64}
use Rattle.filter_compile.specs.declared.exits.Exits.{Exits}
use Rattle.filter_compile.proofs.Entries.{Decides, decides_on, decides_same}
use Rattle.filter_compile.proofs.Ladders.{Ordered}
use Rattle.filter_compile.proofs.SharedBits.{Share, shares_word}
use Rattle.filter_compile.proofs.TwoExits.{Before, joined}
use Rattle.filter_compile.proofs.TypeEntries.{from_false, from_way, from_unsigned, signed_integer, from_sign, signed_outside}
use Rattle.filter_compile.proofs.TypeIntegers.{Compared, IsOrder}

other_false : (a b : Bool) → a ≡ true → (a && b) ≡ false → b ≡ false
other_false true b is e = e
other_false false b is e = absurd (false≢true is)

sign_grows : (test : Test) (value : Integer) (at : ℕ) (exits : Exits) (entry : ℕ) (code : List Ins) → Before code (sign_step test value at exits entry code).code
sign_grows Equal value at exits entry code = ([], refl)
sign_grows SharesBit value at exits entry code = ([], refl)
sign_grows _ value at exits entry code = (_ ∷ _ ∷ [], refl)

module _ (image : List ℕ) (place : ℕ) (base : List Ins) (exits : Exits) (test : Test) (value : Integer) (o : Order) (s : Sized) (upon : Before base s.code) where
  pub two : Entered
  two = sign_step test value (top_at o 2) exits s.sizes.two s.code

  pub four : Entered
  four = sign_step test value (top_at o 4) exits s.sizes.four two.code

  pub eight : Entered
  eight = sign_step test value (top_at o 8) exits s.sizes.eight four.code

  -- the entry of each type after the signs
  abbrev pub type_entry : IntegerType → ℕ
  type_entry Byte = s.sizes.one
  type_entry Boolean = s.sizes.four
  type_entry Uint16 = s.sizes.two
  type_entry Uint32 = s.sizes.four
  type_entry Uint64 = s.sizes.eight
  type_entry Int16 = two.entry
  type_entry Int32 = four.entry
  type_entry Int64 = eight.entry

  abbrev Decided : List Ins → ℕ → Type 0 → Type 0
  Decided code entry C = Decides image (At place) base exits code entry C

  grows_two : Before s.code two.code
  unfolding two
  grows_two = sign_grows test value (top_at o 2) exits s.sizes.two s.code

  grows_four : Before two.code four.code
  unfolding four
  grows_four = sign_grows test value (top_at o 4) exits s.sizes.four two.code

  grows_eight : Before four.code eight.code
  unfolding eight
  grows_eight = sign_grows test value (top_at o 8) exits s.sizes.eight four.code

  upon_two : Before base two.code
  upon_two = joined base s.code two.code grows_two upon

  upon_four : Before base four.code
  upon_four = joined base two.code four.code grows_four upon_two

  pub upon_eight : Before base eight.code
  upon_eight = joined base four.code eight.code grows_eight upon_four

  pub grows_all : Before s.code eight.code
  grows_all = joined s.code two.code eight.code (joined two.code four.code eight.code grows_eight grows_four) grows_two

  on_two : (entry : ℕ) (C : Type 0) → Decided s.code entry C → Decided two.code entry C
  on_two entry C d = decides_on image (At place) base exits s.code two.code entry C grows_two d

  on_four : (entry : ℕ) (C : Type 0) → Decided two.code entry C → Decided four.code entry C
  on_four entry C d = decides_on image (At place) base exits two.code four.code entry C grows_four d

  on_eight : (entry : ℕ) (C : Type 0) → Decided four.code entry C → Decided eight.code entry C
  on_eight entry C d = decides_on image (At place) base exits four.code eight.code entry C grows_eight d

  pub on_all : (entry : ℕ) (C : Type 0) → Decided s.code entry C → Decided eight.code entry C
  on_all entry C d = on_eight entry C (on_four entry C (on_two entry C d))

  -- the code and the entries after the signs
  pub signs_are : signs test value o exits s ≡ record { code = eight.code; sizes = record { one = s.sizes.one; two = two.entry; four = four.entry; eight = eight.entry } }
  unfolding two four eight
  signs_are = refl

  module _ (order : IsOrder test) where
    -- a type without a sign
    pub unsigned_type : (kind w n entry : ℕ) → is_signed_code kind ≡ false → limit_of kind ≡ w → n < w → ((v : ℕ) → v < w → v % w ≡ v) → Decided s.code entry (Ordered test n (bits_of value % w)) → Decided eight.code (way test kind value exits entry) (Compared test (n, Natural n) value)
    unsigned_type kind w n entry plain limit small low d =
        from_unsigned image place base exits test kind w n value eight.code entry order upon_eight plain limit small (λ v is less.
        let e : bits_of value % w ≡ v = ap (λ (i : Integer). bits_of i % w) is ∙ low v less in
        subst (λ (k : ℕ). Decided eight.code entry (Ordered test n k)) e (on_all entry (Ordered test n (bits_of value % w)) d))

    -- what an integer that a signed type has is by its bits
    abbrev pub Bits : ℕ → ℕ → Type 0
    Bits h k = ((v : ℕ) → value ≡ Natural v → (v < h) × (k ≡ v)) × ((m : ℕ) → value ≡ Negative m → (m < h) × (k ≡ 2 * h - 1 - m))

    -- a signed type, whose entry is reached from some code on
    pub signed_type : (kind h n entry : ℕ) → is_signed_code kind ≡ true → limit_of kind ≡ h → n < 2 * h → ((v : ℕ) → v < h → bits_of (Natural v) % (2 * h) ≡ v) → ((m : ℕ) → m < h → bits_of (Negative m) % (2 * h) ≡ 2 * h - 1 - m) → (Bits h (bits_of value % (2 * h)) → Decided eight.code entry (Compared test (n, signed_integer image place base exits h n) value)) → Decided eight.code (way test kind value exits entry) (Compared test (n, signed_integer image place base exits h n) value)
    signed_type kind h n entry signed limit small low_natural low_negative d =
        from_way image place base exits test kind value eight.code entry _ order upon_eight (λ inside. d (
          λ v is. let l = natural_inside v is inside in (l, ap (λ (i : Integer). bits_of i % (2 * h)) is ∙ low_natural v l),
          λ m is. let l = negative_inside m is inside in (l, ap (λ (i : Integer). bits_of i % (2 * h)) is ∙ low_negative m l),
        )) (λ out. signed_outside image place base exits test h n value order small (λ v is. natural_out v is out) (λ m is. negative_out m is out))
      where
        natural_inside : (v : ℕ) → value ≡ Natural v → is_inside kind value ≡ true → v < h
        natural_inside v is inside =
            let e : nat_lt v (limit_of kind) ≡ true = sym (ap (is_inside kind) is) ∙ inside in
            let l = ltb-true v (limit_of kind) e in omega (arith, l, limit)

        negative_inside : (m : ℕ) → value ≡ Negative m → is_inside kind value ≡ true → m < h
        negative_inside m is inside =
            let e : (is_signed_code kind && nat_lt m (limit_of kind)) ≡ true = sym (ap (is_inside kind) is) ∙ inside in
            let l = ltb-true m (limit_of kind) (and_parts (is_signed_code kind) (nat_lt m (limit_of kind)) e).1 in omega (arith, l, limit)

        natural_out : (v : ℕ) → value ≡ Natural v → is_inside kind value ≡ false → h ≤ v
        natural_out v is out =
            let e : nat_lt v (limit_of kind) ≡ false = sym (ap (is_inside kind) is) ∙ out in
            let l = ltb-false v (limit_of kind) e in omega (arith, l, limit)

        negative_out : (m : ℕ) → value ≡ Negative m → is_inside kind value ≡ false → h ≤ m
        negative_out m is out =
            let e : (is_signed_code kind && nat_lt m (limit_of kind)) ≡ false = sym (ap (is_inside kind) is) ∙ out in
            let f : nat_lt m (limit_of kind) ≡ false = other_false (is_signed_code kind) (nat_lt m (limit_of kind)) signed e in
            let l = ltb-false m (limit_of kind) f in omega (arith, l, limit)

    -- the entries after the signs
    pub entry_two : (h n k top : ℕ) → n < 2 * h → load widths.Byte image (place + top_at o 2) ≡ Some top → ((128 ≤ top) ↔ (h ≤ n)) → Decided s.code s.sizes.two (Ordered test n k) → Bits h k → Decided eight.code two.entry (Compared test (n, signed_integer image place base exits h n) value)
    unfolding two
    entry_two h n k top small loads sign d bits = on_eight two.entry _ (on_four two.entry _ (here d))
      where
        here : Decided s.code s.sizes.two (Ordered test n k) → Decided two.code two.entry (Compared test (n, signed_integer image place base exits h n) value)
        here d = from_sign image place base exits test h n value s.code s.sizes.two k (top_at o 2) top order upon small loads sign d bits.0 bits.1

    pub entry_four : (h n k top : ℕ) → n < 2 * h → load widths.Byte image (place + top_at o 4) ≡ Some top → ((128 ≤ top) ↔ (h ≤ n)) → Decided s.code s.sizes.four (Ordered test n k) → Bits h k → Decided eight.code four.entry (Compared test (n, signed_integer image place base exits h n) value)
    unfolding four
    entry_four h n k top small loads sign d bits = on_eight four.entry _ (here (on_two s.sizes.four _ d))
      where
        here : Decided two.code s.sizes.four (Ordered test n k) → Decided four.code four.entry (Compared test (n, signed_integer image place base exits h n) value)
        here d = from_sign image place base exits test h n value two.code s.sizes.four k (top_at o 4) top order upon_two small loads sign d bits.0 bits.1

    pub entry_eight : (h n k top : ℕ) → n < 2 * h → load widths.Byte image (place + top_at o 8) ≡ Some top → ((128 ≤ top) ↔ (h ≤ n)) → Decided s.code s.sizes.eight (Ordered test n k) → Bits h k → Decided eight.code eight.entry (Compared test (n, signed_integer image place base exits h n) value)
    unfolding eight
    entry_eight h n k top small loads sign d bits = here (on_four s.sizes.eight _ (on_two s.sizes.eight _ d))
      where
        here : Decided four.code s.sizes.eight (Ordered test n k) → Decided eight.code eight.entry (Compared test (n, signed_integer image place base exits h n) value)
        here d = from_sign image place base exits test h n value four.code s.sizes.eight k (top_at o 8) top order upon_four small loads sign d bits.0 bits.1

  -- ---- bits that are shared: no sign is looked at

  pub shared_entries : test ≡ SharesBit → (two.entry ≡ s.sizes.two) × (four.entry ≡ s.sizes.four) × (eight.entry ≡ s.sizes.eight)
  unfolding two four eight
  shared_entries is = (
    ap (λ (t : Test). (sign_step t value (top_at o 2) exits s.sizes.two s.code).entry) is,
    ap (λ (t : Test). (sign_step t value (top_at o 4) exits s.sizes.four two.code).entry) is,
    ap (λ (t : Test). (sign_step t value (top_at o 8) exits s.sizes.eight four.code).entry) is,
  )

-- the way of `&`
shared_way : (image : List ℕ) (place : ℕ) (base : List Ins) (exits : Exits) (kind n entry : ℕ) (i value : Integer) (code : List Ins) → Before base code → Decides image (At place) base exits code entry (Share n (bits_of value)) → Decides image (At place) base exits code (way SharesBit kind value exits entry) (shares n value ≡ true)
shared_way image place base exits kind n entry i (Natural v) code upon d =
    decides_same image (At place) base exits code entry (Share n v) (shares n (Natural v) ≡ true) ((shares_word n v).1, (shares_word n v).0) d
shared_way image place base exits kind n entry i (Negative m) code upon d = from_false image place base exits code (false ≡ true) upon false≢true

pub shared_type : (image : List ℕ) (place : ℕ) (base : List Ins) (exits : Exits) (test : Test) (value : Integer) (o : Order) (s : Sized) (upon : Before base s.code) (kind n entry plain : ℕ) (i : Integer) → test ≡ SharesBit → entry ≡ plain → Decides image (At place) base exits s.code plain (Share n (bits_of value)) → Decides image (At place) base exits (eight image place base exits test value o s upon).code (way test kind value exits entry) (Compared test (n, i) value)
shared_type image place base exits test value o s upon kind n entry plain i is same d =
    let code = (eight image place base exits test value o s upon).code in
    let here : Decides image (At place) base exits code (way SharesBit kind value exits plain) (shares n value ≡ true) = shared_way image place base exits kind n plain i value code (upon_eight image place base exits test value o s upon) (on_all image place base exits test value o s upon plain (Share n (bits_of value)) d) in
    subst (λ (t : Test). Decides image (At place) base exits code (way t kind value exits entry) (Compared t (n, i) value)) (sym is)
    (subst (λ (e : ℕ). Decides image (At place) base exits code (way SharesBit kind value exits e) (shares n value ≡ true)) (sym same) here)
