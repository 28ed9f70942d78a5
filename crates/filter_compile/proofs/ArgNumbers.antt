-- The piece that compares an argument's number with an integer.
use Rattle.std.proofs.Common.{◌≡◌, ℕ, ◌+◌, ◌^◌, ◌<◌, true, false, List, [], ◌∷◌, length, Some, None, Option, ◌⊎◌, ◌↔◌, inl, inr, refl, sym, ap, ◌∙◌, arith, subst}
use Rattle.std.specs.Prelude.{IsSomeAnd}
use Rattle.std.proofs.lemmas.Bool.{false≢true, cases_Bool, ne_eqb}
use Rattle.signature.specs.DataType.{DataType, basic, variant, array, dict, struct}
use Rattle.bpf_code.specs.Loads.{load_word}
use Rattle.bpf_code.specs.declared.instruction.Ins.{Ins}
use Rattle.bpf_code.specs.declared.operation.Test.{Test}
use Rattle.bpf_code.specs.declared.operation.Test.TheVariants as machine
use Rattle.message_value.specs.Arguments.{Argument, argument_of}
use Rattle.message_value.specs.Fits.{BareFits}
use Rattle.message_value.specs.Fits as fits
use Rattle.message_value.specs.Order.{order_byte, number_bytes}
use Rattle.message_value.specs.Spelling.{bare_bytes, width_of}
use Rattle.message_value.specs.Value.{Value, number}
use Rattle.message_value.specs.declared.order.Order.{Order}
use Rattle.message_value.specs.declared.order.Order.TheVariants.{Little, Big}
use Rattle.jump_islands.specs.Source.{jump_over}
use Rattle.rule_compile.specs.Code.{image_word, index_from_a, branch}
use Rattle.rule_compile.proofs.Bytes.{At}
use Rattle.rule_compile.proofs.Pieces.{Any}
use Rattle.summary.specs.declared.edition.Edition.TheVariants.{Two}
use Rattle.summary.specs.Layout.{order_place, argument_place}
use Rattle.summary.specs.Shown.{Lies, ShowsArgument}
use Rattle.filter.specs.declared.integer.Integer.{Integer}
use Rattle.filter.specs.declared.test.NumberRelation.{NumberRelation}
use Rattle.filter_compile.specs.ArgCode.{fails_jump, bits_of, way, code_of, Sized, littles, bigs, dispatch, unsigned_types, signed_types, typed, jumps, near_exits, compared, arg_number}
use Rattle.filter_compile.specs.Entered.{Entered}
use Rattle.filter_compile.specs.Holds.{Says, number_in, integer_in, integer_of, bits_of_code, NumberRelates, is_integer_code}
use Rattle.filter_compile.specs.Pieces.{over}
use Rattle.filter_compile.specs.TestCode.{exits_for, comparison_of, equality_of}
use Rattle.filter_compile.specs.declared.integer_type.IntegerType.{IntegerType}
use Rattle.filter_compile.specs.declared.integer_type.IntegerType.TheVariants.{Byte, Boolean, Int16, Uint16, Int32, Uint32, Int64, Uint64}
use Rattle.filter_compile.specs.declared.exits.Exits.{Exits}
use Rattle.filter_compile.proofs.ArgBigKinds.{up, grown, big_order, big_shares}
use Rattle.filter_compile.proofs.ArgEntries.{NoneOf, dispatch_grows, dispatch_decides, orders_decide, tests_near}
use Rattle.filter_compile.proofs.ArgKinds.{little_order, little_shares}
use Rattle.filter_compile.proofs.ArgOrders.{upon_littles}
use Rattle.filter_compile.proofs.ArgTypes.{eight, type_entry, upon_eight, grows_all, signs_are}
use Rattle.filter_compile.proofs.ArgumentValues.{Laid, AtPlace, IsNumberCode, is_number}
use Rattle.filter_compile.proofs.Entries.{Decides, decides_on, decides_same, decides_false}
use Rattle.filter_compile.proofs.TwoExits.{Before, joined, Extends, Tests}
use Rattle.filter_compile.proofs.TypeEntries.{decides_says}
use Rattle.filter_compile.proofs.TypeIntegers.{Compared, IsOrder, relation_says}

-- ---- the types in a message of one order

module _ (image : List ℕ) (place n : ℕ) (test : Test) (value : Integer) (base : List Ins) (near chosen : Exits) (o : Order) (s : Sized) (upon : Before base s.code) where
  abbrev pub after : Entered
  after = eight image place base chosen test value o s upon

  abbrev pub entry_of : IntegerType → ℕ
  entry_of kind = type_entry image place base chosen test value o s upon kind

  abbrev last : Entered
  last = record { code = after.code; entry = near.fails }

  abbrev signed_list : List (IntegerType × ℕ)
  signed_list = (Int16, entry_of Int16) ∷ (Int32, entry_of Int32) ∷ (Int64, entry_of Int64) ∷ []

  later : Entered
  later = dispatch n test value chosen signed_list last

  abbrev whole : Entered
  whole = typed n test value o chosen near.fails s

  whole_is : whole ≡ dispatch n test value chosen (unsigned_types s.sizes) later
  unfolding later
  whole_is =
      ap (λ (signed : Sized). dispatch n test value chosen (unsigned_types s.sizes) (dispatch n test value chosen (signed_types signed.sizes) (record { code = signed.code; entry = near.fails })))
      (signs_are image place base chosen test value o s upon)

  later_grows : Before after.code later.code
  unfolding later
  later_grows = dispatch_grows n test value chosen signed_list last

  pub typed_grows : Before s.code whole.code
  typed_grows =
      let all = joined s.code after.code later.code later_grows (grows_all image place base chosen test value o s upon) in
      subst (λ (e : Entered). Before s.code e.code) (sym whole_is)
      (joined s.code later.code _ (dispatch_grows n test value chosen (unsigned_types s.sizes) later) all)

  module _ (F : Type 0) where
    abbrev Decided : List Ins → ℕ → Type 0
    Decided code entry = Decides image (At place) base near code entry F

    pub typed_decides : (code : ℕ) → load_word image (argument_place n) ≡ Some code → ((kind : IntegerType) → code ≡ code_of kind → Decided after.code (way test (code_of kind) value chosen (entry_of kind))) → (((kind : IntegerType) → code ≡ code_of kind → ⊥) → F → ⊥) → Decided whole.code whole.entry
    unfolding later
    typed_decides code loads each none =
        subst (λ (e : Entered). Decided e.code e.entry) (sym whole_is)
        (dispatch_decides image place base near F n code test value chosen (unsigned_types s.sizes) later loads (on Byte, (on Boolean, (on Uint16, (on Uint32, (on Uint64, tt))))) (λ no. signed no))
      where
        on : (kind : IntegerType) → code ≡ code_of kind → Decided later.code (way test (code_of kind) value chosen (entry_of kind))
        on kind is = decides_on image (At place) base near after.code later.code (way test (code_of kind) value chosen (entry_of kind)) F later_grows (each kind is)

        no_kind : NoneOf code (unsigned_types s.sizes) → NoneOf code signed_list → (kind : IntegerType) → code ≡ code_of kind → ⊥
        no_kind plain signed Byte = plain.0
        no_kind plain signed Boolean = plain.1.0
        no_kind plain signed Uint16 = plain.1.1.0
        no_kind plain signed Uint32 = plain.1.1.1.0
        no_kind plain signed Uint64 = plain.1.1.1.1.0
        no_kind plain signed Int16 = signed.0
        no_kind plain signed Int32 = signed.1.0
        no_kind plain signed Int64 = signed.1.1.0

        signed : NoneOf code (unsigned_types s.sizes) → Decided later.code later.entry
        signed plain =
            dispatch_decides image place base near F n code test value chosen signed_list last loads (each Int16, (each Int32, (each Int64, tt)))
            (λ no. decides_on image (At place) base near base after.code near.fails F (upon_eight image place base chosen test value o s upon) (decides_false image (At place) base near F (none (no_kind plain no))))

-- ---- both orders

-- bits are compared, or looked for
order_or_bit : (test : Test) → IsOrder test ⊎ (test ≡ machine.SharesBit)
order_or_bit machine.SharesBit = inr refl
order_or_bit _ = inl tt

-- what the test says of a value
abbrev pub Found : NumberRelation → Integer → DataType → Value → Type 0
Found relation value t v = IsSomeAnd (integer_in (number_in (Some (t, v)))) (λ found. NumberRelates relation found value)

found_kind : (relation : NumberRelation) (value : Integer) (kind : IntegerType) (bits : ℕ) → Says (equality_of relation) (Compared (comparison_of relation) (bits, integer_of (code_of kind) bits) value) ↔ Found relation value (basic (code_of kind)) (number bits)
found_kind relation value Byte bits = relation_says relation (bits, integer_of 121 bits) value
found_kind relation value kind bits = relation_says relation (bits, integer_of (code_of kind) bits) value

known : (kind : IntegerType) → IsNumberCode (code_of kind)
known Byte = (refl, (λ e. omega arith), (λ e. omega arith), (λ e. omega arith))
known _ = (refl, (λ e. omega arith), (λ e. omega arith), (λ e. omega arith))

small_of : (kind : IntegerType) (bits : ℕ) → bits < fits.limit_of (code_of kind) → bits < 2 ^ bits_of_code (code_of kind)
small_of Boolean bits l = omega (arith, l)
small_of _ bits l = l

-- a code of none of the types
none_of : (c : ℕ) → is_integer_code c ≡ true → ((kind : IntegerType) → c ≡ code_of kind → ⊥) → ⊥
none_of c is none =
    let no : is_integer_code c ≡ false = (rw (ne_eqb c 121 (none Byte), ne_eqb c 98 (none Boolean), ne_eqb c 110 (none Int16), ne_eqb c 113 (none Uint16), ne_eqb c 105 (none Int32), ne_eqb c 117 (none Uint32), ne_eqb c 120 (none Int64), ne_eqb c 116 (none Uint64)) refl) in
    false≢true (sym no ∙ is)

none_found : (order : Order) (start : ℕ) (relation : NumberRelation) (value : Integer) (t : DataType) (v : Value) → ((kind : IntegerType) → (argument_of order start t v).code ≡ code_of kind → ⊥) → Found relation value t v → ⊥
none_found order start relation value (basic c) (number bits) none found = elim (cases_Bool (is_integer_code c)) [
  | inl is ↦ none_of c is none
  | inr other ↦ rw other at found
]
none_found order start relation value (basic c) _ none found = found
none_found order start relation value variant v none found = found
none_found order start relation value (array t) v none found = found
none_found order start relation value (dict k t) v none found = found
none_found order start relation value (struct t ts) v none found = found

module _ (image : List ℕ) (place n : ℕ) (relation : NumberRelation) (value : Integer) (exits : Exits) (rest : List Ins) where
  abbrev test : Test
  test = comparison_of relation

  abbrev pub base : List Ins
  base = jumps exits rest

  abbrev pub near : Exits
  near = near_exits exits rest

  abbrev chosen : Exits
  chosen = exits_for (equality_of relation) near

  abbrev plain : Sized
  plain = littles test (bits_of value) chosen base

  abbrev little_up : Before base plain.code
  little_up = upon_littles image place base chosen test (bits_of value)

  abbrev little : Entered
  little = typed n test value Little chosen near.fails plain

  abbrev little_grows : Before plain.code little.code
  little_grows = typed_grows image place n test value base near chosen Little plain little_up

  abbrev words : Sized
  words = bigs test (bits_of value) chosen plain.sizes.one little.code

  abbrev big_up : Before base words.code
  big_up = up image place base chosen test value little.code little_grows

  abbrev big : Entered
  big = typed n test value Big chosen near.fails words

  big_grows : Before little.code big.code
  big_grows =
      joined little.code words.code big.code (typed_grows image place n test value base near chosen Big words big_up) (grown image place base chosen test value little.code little_grows)

  -- the comparison of a type in a message of either order, from its way on
  abbrev pub Little_way : IntegerType → Type 0 → Type 0
  Little_way kind F = Decides image (At place) base near (after image place n test value base near chosen Little plain little_up).code (way test (code_of kind) value chosen (entry_of image place n test value base near chosen Little plain little_up kind)) F

  abbrev pub Big_way : IntegerType → Type 0 → Type 0
  Big_way kind F = Decides image (At place) base near (after image place n test value base near chosen Big words big_up).code (way test (code_of kind) value chosen (entry_of image place n test value base near chosen Big words big_up kind)) F

  pub compared_decides : (order : Order) (code : ℕ) (F : Type 0) → load_word image order_place ≡ Some (order_byte order) → load_word image (argument_place n) ≡ Some code → (order ≡ Little → (kind : IntegerType) → code ≡ code_of kind → Little_way kind F) → (order ≡ Big → (kind : IntegerType) → code ≡ code_of kind → Big_way kind F) → (((kind : IntegerType) → code ≡ code_of kind → ⊥) → F → ⊥) → Decides image (At place) base near (compared n test value chosen near.fails base) (length (compared n test value chosen near.fails base)) F
  compared_decides order code F loads word first second none =
      orders_decide image place base near F order little big loads big_grows
      (λ e. typed_decides image place n test value base near chosen Little plain little_up F code word (first e) none)
      (λ e. typed_decides image place n test value base near chosen Big words big_up F code word (second e) none)

  little_way : (kind : IntegerType) (bits : ℕ) → Lies image place (number_bytes Little (width_of (code_of kind)) bits) → bits < 2 ^ bits_of_code (code_of kind) → Little_way kind (Found relation value (basic (code_of kind)) (number bits))
  little_way kind bits lies small =
      let code = (after image place n test value base near chosen Little plain little_up).code in
      let entry = way test (code_of kind) value chosen (entry_of image place n test value base near chosen Little plain little_up kind) in
      let C = Compared test (bits, integer_of (code_of kind) bits) value in
      let d : Decides image (At place) base chosen code entry C = elim (order_or_bit test) [
        | inl order ↦ little_order image place base chosen test value kind bits order lies small
        | inr is ↦ little_shares image place base chosen test value kind bits is lies small
      ] in
      decides_same image (At place) base near code entry (Says (equality_of relation) C) _ (found_kind relation value kind bits) (decides_says image (At place) base near code entry (equality_of relation) C d)

  big_way : (kind : IntegerType) (bits : ℕ) → Lies image place (number_bytes Big (width_of (code_of kind)) bits) → bits < 2 ^ bits_of_code (code_of kind) → Big_way kind (Found relation value (basic (code_of kind)) (number bits))
  big_way kind bits lies small =
      let code = (after image place n test value base near chosen Big words big_up).code in
      let entry = way test (code_of kind) value chosen (entry_of image place n test value base near chosen Big words big_up kind) in
      let C = Compared test (bits, integer_of (code_of kind) bits) value in
      let d : Decides image (At place) base chosen code entry C = elim (order_or_bit test) [
        | inl order ↦ big_order image place base chosen test value little.code little_grows order kind bits lies small
        | inr is ↦ big_shares image place base chosen test value little.code little_grows kind bits is lies small
      ] in
      decides_same image (At place) base near code entry (Says (equality_of relation) C) _ (found_kind relation value kind bits) (decides_says image (At place) base near code entry (equality_of relation) C d)

-- ---- the argument

-- of a value at a place, in a message of either order
module _ (image : List ℕ) (n : ℕ) (relation : NumberRelation) (value : Integer) (levels start : ℕ) (exits : Exits) (rest : List Ins) where
  abbrev Little_value : IntegerType → DataType → Value → Type 0
  Little_value kind t v =
      BareFits Little levels start t v → Lies image (976 + start) (bare_bytes Little start t v) → Little_way image (976 + (argument_of Little start t v).place) n relation value exits rest kind (Found relation value t v)

  abbrev Big_value : IntegerType → DataType → Value → Type 0
  Big_value kind t v =
      BareFits Big levels start t v → Lies image (976 + start) (bare_bytes Big start t v) → Big_way image (976 + (argument_of Big start t v).place) n relation value exits rest kind (Found relation value t v)

  little_value : (kind : IntegerType) (t : DataType) (v : Value) → (bits : ℕ) × ((t ≡ basic (code_of kind)) × (v ≡ number bits)) → Little_value kind t v
  little_value kind t v (bits, (type, is)) =
      subst (λ (u : DataType). Little_value kind u v) (sym type) (subst (λ (w : Value). Little_value kind (basic (code_of kind)) w) (sym is)
      (λ fits lies. little_way image (976 + start) n relation value exits rest kind bits lies (small_of kind bits fits.1)))

  big_value : (kind : IntegerType) (t : DataType) (v : Value) → (bits : ℕ) × ((t ≡ basic (code_of kind)) × (v ≡ number bits)) → Big_value kind t v
  big_value kind t v (bits, (type, is)) =
      subst (λ (u : DataType). Big_value kind u v) (sym type) (subst (λ (w : Value). Big_value kind (basic (code_of kind)) w) (sym is)
      (λ fits lies. big_way image (976 + start) n relation value exits rest kind bits lies (small_of kind bits fits.1)))

  abbrev Ordered_value : Order → DataType → Value → Type 0
  Ordered_value order t v =
      BareFits order levels start t v
      → Lies image (976 + start) (bare_bytes order start t v)
      → load_word image order_place ≡ Some (order_byte order)
      → load_word image (argument_place n) ≡ Some (argument_of order start t v).code
      → Decides image (At (976 + (argument_of order start t v).place)) (jumps exits rest) (near_exits exits rest) (compared n (comparison_of relation) value (exits_for (equality_of relation) (near_exits exits rest)) (near_exits exits rest).fails (jumps exits rest)) (length (compared n (comparison_of relation) value (exits_for (equality_of relation) (near_exits exits rest)) (near_exits exits rest).fails (jumps exits rest))) (Found relation value t v)

  pub value_decides : (order : Order) (t : DataType) (v : Value) → Ordered_value order t v
  value_decides Little t v fits lies loads word =
      compared_decides image (976 + (argument_of Little start t v).place) n relation value exits rest Little (argument_of Little start t v).code (Found relation value t v) loads word
      (λ e kind is. little_value kind t v (is_number Little levels start t v (code_of kind) fits is (known kind)) fits lies)
      (λ e. absurd cc)
      (none_found Little start relation value t v)
  value_decides Big t v fits lies loads word =
      compared_decides image (976 + (argument_of Big start t v).place) n relation value exits rest Big (argument_of Big start t v).code (Found relation value t v) loads word
      (λ e. absurd cc)
      (λ e kind is. big_value kind t v (is_number Big levels start t v (code_of kind) fits is (known kind)) fits lies)
      (none_found Big start relation value t v)

no_zero : (kind : IntegerType) → 0 ≡ code_of kind → ⊥
no_zero Byte e = omega (arith, e)
no_zero _ e = omega (arith, e)

-- an exit and a rest of any kind
abbrev some_exits : Exits
some_exits = record { holds = 0; fails = 0 }

pub tests_arg_number : (image bytes : List ℕ) (order : Order) (levels n : ℕ) (o : Option Argument) (v : Option (DataType × Value)) (relation : NumberRelation) (value : Integer) → load_word image order_place ≡ Some (order_byte order) → ShowsArgument Two image (argument_place n) o → AtPlace order levels bytes o v → ((laid : Laid order levels bytes o v) → Lies image (976 + laid.start) (bare_bytes order laid.start laid.type laid.value)) → Tests image Any (IsSomeAnd (integer_in (number_in v)) (λ found. NumberRelates relation found value)) (arg_number n relation value)
tests_arg_number image bytes order levels n o v relation value loads shows (inl none) lies =
    let absent : ShowsArgument Two image (argument_place n) None = subst (λ (o : Option Argument). ShowsArgument Two image (argument_place n) o) none.0 shows in
    subst (λ (v : Option (DataType × Value)). Tests image Any (IsSomeAnd (integer_in (number_in v)) (λ found. NumberRelates relation found value)) (arg_number n relation value)) (sym none.1)
    (tests_near image (argument_place n + 4) 0 ⊥ _ absent.1 (inr (λ f. f)) (λ exits rest. compared_decides image 0 n relation value exits rest order 0 ⊥ loads absent.0 (λ e kind is. absurd (no_zero kind is)) (λ e kind is. absurd (no_zero kind is)) (λ no f. f)))
tests_arg_number image bytes order levels n o v relation value loads shows (inr laid) lies =
    let a = argument_of order laid.start laid.type laid.value in
    let there : ShowsArgument Two image (argument_place n) (Some a) = subst (λ (o : Option Argument). ShowsArgument Two image (argument_place n) o) laid.argument shows in
    let F : Type 0 = Found relation value laid.type laid.value in
    let inner : Exits → List Ins → List Ins = λ exits rest. compared n (comparison_of relation) value (exits_for (equality_of relation) (near_exits exits rest)) (near_exits exits rest).fails (jumps exits rest) in
    let d : (exits : Exits) (rest : List Ins) → Decides image (At (976 + a.place)) (jumps exits rest) (near_exits exits rest) (inner exits rest) (length (inner exits rest)) F = λ exits rest. value_decides image n relation value levels laid.start exits rest order laid.type laid.value laid.fits (lies laid) loads there.code_word in
    subst (λ (v : Option (DataType × Value)). Tests image Any (IsSomeAnd (integer_in (number_in v)) (λ found. NumberRelates relation found value)) (arg_number n relation value)) (sym laid.found)
    (tests_near image (argument_place n + 4) (976 + a.place) F inner there.place_word (d some_exits []).decided d)

-- ---- in front of its rest

pub extends_arg_number : (n : ℕ) (relation : NumberRelation) (value : Integer) → Extends (arg_number n relation value)
extends_arg_number n relation value exits rest =
    let base = jumps exits rest in
    let near = near_exits exits rest in
    let chosen = exits_for (equality_of relation) near in
    let test = comparison_of relation in
    let s = littles test (bits_of value) chosen base in
    let little = typed n test value Little chosen near.fails s in
    let big = typed n test value Big chosen near.fails (bigs test (bits_of value) chosen s.sizes.one little.code) in
    let inner = compared n test value chosen near.fails base in
    let u = upon_littles [] 0 base chosen test (bits_of value) in
    let l = typed_grows [] 0 n test value base near chosen Little s u in
    let g = big_grows [] 0 n relation value exits rest in
    let load = image_word order_place in
    let fork = branch machine.Equal 108 (over big.code little.entry) (over big.code big.entry) in
    let first : Before rest base = (jump_over (over (fails_jump exits rest) exits.holds) ∷ jump_over (over rest exits.fails) ∷ [], refl) in
    let all = joined rest little.code big.code g (joined rest s.code little.code l (joined rest base s.code u first)) in
    let start = image_word (argument_place n + 4) in
    (start ∷ index_from_a ∷ load ∷ fork ∷ all.0, ap (λ (code : List Ins). start ∷ index_from_a ∷ load ∷ fork ∷ code) all.1)
