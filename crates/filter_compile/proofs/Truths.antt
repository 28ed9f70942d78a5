-- The pieces that compare a boolean.
use Rattle.std.proofs.Common.{◌≡◌, ℕ, zero, suc, ◌+◌, ◌<◌, Bool, true, false, List, length, Option, Some, None, ◌↔◌, inl, inr, refl, sym, arith, subst}
use Rattle.std.specs.Prelude.{IsSomeAnd}
use Rattle.std.specs.Int.{w32}
use Rattle.std.proofs.lemmas.Bool.{false≢true}
use Rattle.bpf_code.specs.Loads.{load_word}
use Rattle.bpf_code.specs.declared.operation.Test.TheVariants.{Equal, Above}
use Rattle.bpf_code.specs.declared.operation.Width.TheVariants.{Word}
use Rattle.bpf_code.specs.Effects.{passes}
use Rattle.signature.specs.DataType.{DataType, basic, variant, array, dict, struct}
use Rattle.message_value.specs.Arguments.{Argument, argument_of}
use Rattle.message_value.specs.Fits.{BareFits}
use Rattle.message_value.specs.Order.{number_bytes}
use Rattle.message_value.specs.Spelling.{bare_bytes}
use Rattle.message_value.specs.Value.{Value, number}
use Rattle.message_value.specs.declared.order.Order.{Order}
use Rattle.message_value.specs.declared.order.Order.TheVariants.{Little, Big}
use Rattle.summary.specs.declared.edition.Edition.TheVariants.{Two}
use Rattle.summary.specs.Layout.{argument_place}
use Rattle.summary.specs.Shown.{Lies, ShowsArgument}
use Rattle.rule_compile.proofs.Bytes.{At}
use Rattle.rule_compile.proofs.Pieces.{Any}
use Rattle.filter.specs.declared.test.Equality.{Equality}
use Rattle.filter_compile.specs.Holds.{Says, number_in, truth_bits}
use Rattle.filter_compile.specs.Pieces.{Piece, from_start, unit_number}
use Rattle.filter_compile.specs.TestCode.{says, has_type, truth_word, truth_code}
use Rattle.filter_compile.proofs.TwoExits.{Extends, extends_both, extends_word, extends_indexed, extends_from_start, Tests, tests_same, tests_then, tests_indexed, tests_from_start}
use Rattle.filter_compile.proofs.ArgumentValues.{Laid, AtPlace, IsNumberCode, is_number}
use Rattle.filter_compile.proofs.Fields.{tests_says, extends_says, tests_type}
use Rattle.filter_compile.proofs.Units.{unit_loads}

-- ---- the word of a boolean

extends_truth_word : (truth : Bool) → Extends (truth_word truth)
extends_truth_word true = extends_indexed Word 0 Above 0
extends_truth_word false = extends_indexed Word 0 Equal 0

-- what is 1 isn't 0
is_true : (order : Order) (bits : ℕ) → bits < 2 → (passes Above (unit_number Word (number_bytes order w32 bits) 0) 0 ≡ true) ↔ (bits ≡ 1)
is_true Little zero small = (λ e. absurd (false≢true e), λ e. absurd (omega (arith, e)))
is_true Little (suc zero) small = (λ _. refl, λ _. refl)
is_true Big zero small = (λ e. absurd (false≢true e), λ e. absurd (omega (arith, e)))
is_true Big (suc zero) small = (λ _. refl, λ _. refl)
is_true order (suc (suc bits)) small = absurd (omega (arith, small))

is_false : (order : Order) (bits : ℕ) → bits < 2 → (passes Equal (unit_number Word (number_bytes order w32 bits) 0) 0 ≡ true) ↔ (bits ≡ 0)
is_false Little zero small = (λ _. refl, λ _. refl)
is_false Little (suc zero) small = (λ e. absurd (false≢true e), λ e. absurd (omega (arith, e)))
is_false Big zero small = (λ _. refl, λ _. refl)
is_false Big (suc zero) small = (λ e. absurd (false≢true e), λ e. absurd (omega (arith, e)))
is_false order (suc (suc bits)) small = absurd (omega (arith, small))

four_bytes : (order : Order) (bits : ℕ) → length (number_bytes order w32 bits) ≡ 4
four_bytes Little bits = refl
four_bytes Big bits = refl

tests_truth_word : (image : List ℕ) (place : ℕ) (order : Order) (bits : ℕ) (truth : Bool) → Lies image place (number_bytes order w32 bits) → bits < 2 → Tests image (At place) (bits ≡ truth_bits truth) (truth_word truth)
tests_truth_word image place order bits true lies small =
    let bytes : List ℕ = number_bytes order w32 bits in
    tests_same image (At place) _ (bits ≡ 1) (truth_word true) (is_true order bits small) (tests_indexed image place Word 0 (unit_number Word bytes 0) Above 0 (unit_loads Word image place bytes 0 lies (omega (arith, four_bytes order bits))))
tests_truth_word image place order bits false lies small =
    let bytes : List ℕ = number_bytes order w32 bits in
    tests_same image (At place) _ (bits ≡ 0) (truth_word false) (is_false order bits small) (tests_indexed image place Word 0 (unit_number Word bytes 0) Equal 0 (unit_loads Word image place bytes 0 lies (omega (arith, four_bytes order bits))))

-- ---- the argument

-- a number's argument has its code
pub number_code : (order : Order) (start code : ℕ) (t : DataType) (v : Value) (Q : ℕ → Type 0) → IsSomeAnd (number_in (Some (t, v))) (λ found. (found.0 ≡ code) × Q found.1) → (argument_of order start t v).code ≡ code
number_code order start code (basic c) (number bits) Q is = is.0
number_code order start code (basic c) _ Q is = absurd is
number_code order start code variant v Q is = absurd is
number_code order start code (array t) v Q is = absurd is
number_code order start code (dict k t) v Q is = absurd is
number_code order start code (struct t ts) v Q is = absurd is

pub extends_truth : (n : ℕ) (equality : Equality) (truth : Bool) → Extends (truth_code n equality truth)
extends_truth n equality truth =
    let word : Piece = says equality (truth_word truth) in
    extends_both (has_type n 98) (from_start (argument_place n + 4) word) (extends_word (argument_place n) Equal 98) (extends_from_start (argument_place n + 4) word (extends_says equality (truth_word truth) (extends_truth_word truth)))

-- the number that an argument is, if it is one of this code
abbrev Numbers : Option (DataType × Value) → ℕ → (ℕ → Type 0) → Type 0
Numbers v code Q = IsSomeAnd (number_in v) (λ found. (found.0 ≡ code) × Q found.1)

known : IsNumberCode 98
known = (refl, (λ e. omega arith), (λ e. omega arith), (λ e. omega arith))

-- what is to be shown of a value of type `b`
abbrev Boolean : List ℕ → Order → ℕ → ℕ → ℕ → Equality → Bool → DataType → Value → Type 0
Boolean image order levels start n equality truth t v =
    BareFits order levels start t v
    → load_word image (argument_place n + 4) ≡ Some (976 + (argument_of order start t v).place)
    → Lies image (976 + start) (bare_bytes order start t v)
    → Tests image Any (Numbers (Some (t, v)) 98 (λ bits. Says equality (bits ≡ truth_bits truth))) (from_start (argument_place n + 4) (says equality (truth_word truth)))

boolean : (image : List ℕ) (order : Order) (levels start n : ℕ) (equality : Equality) (truth : Bool) (bits : ℕ) → Boolean image order levels start n equality truth (basic 98) (number bits)
boolean image order levels start n equality truth bits fits word lies =
    let at = 976 + start in
    let t = tests_says image (At at) equality (bits ≡ truth_bits truth) (truth_word truth) (tests_truth_word image at order bits truth lies fits.1) in
    tests_same image Any (Says equality (bits ≡ truth_bits truth)) _ (from_start (argument_place n + 4) (says equality (truth_word truth))) (λ s. (refl, s), λ each. each.1) (tests_from_start image _ (says equality (truth_word truth)) (argument_place n + 4) at word t)

some_boolean : (image : List ℕ) (order : Order) (levels start n : ℕ) (equality : Equality) (truth : Bool) (t : DataType) (v : Value) → ((bits : ℕ) × ((t ≡ basic 98) × (v ≡ number bits))) → Boolean image order levels start n equality truth t v
some_boolean image order levels start n equality truth t v (bits, (type, value)) =
    subst (λ (u : DataType). Boolean image order levels start n equality truth u v) (sym type) (subst (λ (w : Value). Boolean image order levels start n equality truth (basic 98) w) (sym value) (boolean image order levels start n equality truth bits))

pub tests_truth : (image bytes : List ℕ) (order : Order) (levels n : ℕ) (o : Option Argument) (v : Option (DataType × Value)) (equality : Equality) (truth : Bool) → ShowsArgument Two image (argument_place n) o → AtPlace order levels bytes o v → ((laid : Laid order levels bytes o v) → Lies image (976 + laid.start) (bare_bytes order laid.start laid.type laid.value)) → Tests image Any (IsSomeAnd (number_in v) (λ found. (found.0 ≡ 98) × Says equality (found.1 ≡ truth_bits truth))) (truth_code n equality truth)
tests_truth image bytes order levels n o v equality truth shows (inl none) lies =
    let word : Piece = says equality (truth_word truth) in
    let piece : Piece = from_start (argument_place n + 4) word in
    let absent : ShowsArgument Two image (argument_place n) None = subst (λ (o : Option Argument). ShowsArgument Two image (argument_place n) o) none.0 shows in
    subst (λ (v : Option (DataType × Value)). Tests image Any (Numbers v 98 (λ bits. Says equality (bits ≡ truth_bits truth))) (truth_code n equality truth)) (sym none.1)
    (tests_same image Any (⊥ × ⊥) ⊥ (truth_code n equality truth) (λ each. each.1, λ none. absurd none) (tests_then image Any ⊥ ⊥ (has_type n 98) piece (tests_type image Any n 98 None absent (omega arith)) (extends_from_start (argument_place n + 4) word (extends_says equality (truth_word truth) (extends_truth_word truth))) (λ none. absurd none)))
tests_truth image bytes order levels n o v equality truth shows (inr laid) lies =
    let word : Piece = says equality (truth_word truth) in
    let piece : Piece = from_start (argument_place n + 4) word in
    let a = argument_of order laid.start laid.type laid.value in
    let Q : ℕ → Type 0 = λ bits. Says equality (bits ≡ truth_bits truth) in
    let there : ShowsArgument Two image (argument_place n) (Some a) = subst (λ (o : Option Argument). ShowsArgument Two image (argument_place n) o) laid.argument shows in
    let F : Type 0 = Numbers (Some (laid.type, laid.value)) 98 Q in
    subst (λ (v : Option (DataType × Value)). Tests image Any (Numbers v 98 Q) (truth_code n equality truth)) (sym laid.found)
    (tests_same image Any ((a.code ≡ 98) × F) F (truth_code n equality truth) (λ each. each.1, λ f. (number_code order laid.start 98 laid.type laid.value Q f, f))
    (tests_then image Any (a.code ≡ 98) F (has_type n 98) piece (tests_type image Any n 98 (Some a) there (omega arith)) (extends_from_start (argument_place n + 4) word (extends_says equality (truth_word truth) (extends_truth_word truth))) (λ is.
    some_boolean image order levels laid.start n equality truth laid.type laid.value (is_number order levels laid.start laid.type laid.value 98 laid.fits is known) laid.fits there.place_word (lies laid))))
