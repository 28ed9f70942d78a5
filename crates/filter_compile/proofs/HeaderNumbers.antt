-- The pieces that compare a number of the header with an integer.
use Rattle.std.proofs.Common.{◌≡◌, ℕ, ◌%◌, ◌^◌, ◌<◌, ◌≤◌, Bool, true, false, not, List, [], ◌∷◌, eqb, ◌↔◌, refl, sym, ap, ◌∙◌, arith}
use Rattle.std.specs.Prelude.{nat_lt, bit_and, if◌then◌else◌}
use Rattle.std.proofs.lemmas.Bool.{false≢true, eqb-true, eq-eqb, ltb-true, ltb-false, leb-true, le-leb}
use Rattle.std.proofs.lemmas.Nat.{and_mod, and_le_l}
use Rattle.bpf_code.specs.declared.instruction.Ins.{Ins}
use Rattle.bpf_code.specs.declared.operation.Arithmetic.TheVariants.{Sub}
use Rattle.bpf_code.specs.declared.operation.Op.TheVariants.{Compute, LoadLength}
use Rattle.bpf_code.specs.declared.operation.Operand.TheVariants.{Constant}
use Rattle.rule_compile.specs.Code.{plain, image_word}
use Rattle.bpf_code.specs.declared.operation.Test.{Test}
use Rattle.bpf_code.specs.declared.operation.Test.TheVariants.{Equal, Above, AtLeast, SharesBit}
use Rattle.bpf_code.specs.Effects.{passes}
use Rattle.rule_compile.proofs.Pieces.{RunsTo, Leads, Any}
use Rattle.filter.specs.declared.integer.Integer.{Integer}
use Rattle.filter.specs.declared.integer.Integer.TheVariants.{Natural, Negative}
use Rattle.filter.specs.declared.test.NumberRelation.{NumberRelation}
use Rattle.filter_compile.specs.Holds.{natural, NumberRelates}
use Rattle.filter_compile.specs.Pieces.{Piece, fork}
use Rattle.filter_compile.specs.TestCode.{says, comparison_of, equality_of, compare, compare_natural, number_relates, word_number, message_len}
use Rattle.filter_compile.proofs.TwoExits.{Extends, extends_choice, extends_more, Tests, tests_same, tests_loaded}
use Rattle.filter_compile.proofs.Fields.{tests_says, extends_says}
use Rattle.filter_compile.proofs.TypeIntegers.{Compared, relation_says, less_false}

-- instructions that make A a number
abbrev pub Loads : List ℕ → ℕ → (List Ins → List Ins) → Type 0
Loads image n load = (rest : List Ins) (v : ℕ) → ((x : ℕ) → Any x → RunsTo rest image n x v) → Leads (load rest) image Any v

module _ (image : List ℕ) (n : ℕ) (load : List Ins → List Ins) (small : n < 2 ^ 32) (loads : Loads image n load) where
  tests_fork : (test : Test) (k : ℕ) → Tests image Any (passes test n k ≡ true) (λ exits rest. load (fork test k exits rest))
  tests_fork test k = tests_loaded image Any Any n test k load loads (λ x any. any)

  tests_never : (P : Type 0) → (P → ⊥) → Tests image Any P (λ exits rest. load (fork Above 0xffffffff exits rest))
  tests_never P none =
      tests_same image Any _ P (λ exits rest. load (fork Above 0xffffffff exits rest)) (λ e. absurd (let h = ltb-true 0xffffffff n e in omega arith), λ p. absurd (none p)) (tests_fork Above 0xffffffff)

  tests_always : (P : Type 0) → P → Tests image Any P (λ exits rest. load (fork AtLeast 0 exits rest))
  tests_always P p =
      tests_same image Any _ P (λ exits rest. load (fork AtLeast 0 exits rest)) (λ e. p, λ _. le-leb 0 n (omega arith)) (tests_fork AtLeast 0)

  -- a number that fits is compared, and of a greater one nothing but `below` holds
  tests_in_range : (test : Test) (k : ℕ) (P : Type 0) → (passes test n k ≡ true) ↔ P → (n < k → P → ⊥) → (in_range : Bool) → nat_lt k (2 ^ 32) ≡ in_range → Tests image Any P (λ exits rest. load ((if in_range then fork test k else fork Above 0xffffffff) exits rest))
  tests_in_range test k P same none true is = tests_same image Any _ P (λ exits rest. load (fork test k exits rest)) same (tests_fork test k)
  tests_in_range test k P same none false is =
      let h = ltb-false k (2 ^ 32) is in tests_never P (none (omega arith))

  same_bits : (k : ℕ) → bit_and n (k % 2 ^ 32) ≡ bit_and n k
  same_bits k =
      let e : n % 2 ^ 32 ≡ n = omega arith in
      let l : bit_and n k ≤ n = and_le_l n k in
      let f : bit_and n k % 2 ^ 32 ≡ bit_and n k = omega arith in
      ap (λ (a : ℕ). bit_and a (k % 2 ^ 32)) (sym e) ∙ sym (and_mod n k 32) ∙ f

  tests_natural : (test : Test) (k : ℕ) → Tests image Any (Compared test (natural n) (Natural k)) (λ exits rest. load (compare_natural test k exits rest))
  tests_natural Equal k =
      tests_in_range Equal k (Natural n ≡ Natural k) (λ e. ap Natural (eqb-true n k e), λ e. let same : n ≡ k = cc in eq-eqb n k same) (λ less e. let same : n ≡ k = cc in omega arith) (nat_lt k (2 ^ 32)) refl
  tests_natural Above k =
      tests_in_range Above k (nat_lt k n ≡ true) (λ e. e, λ e. e) (λ less e. let h = ltb-true k n e in omega arith) (nat_lt k (2 ^ 32)) refl
  tests_natural AtLeast k =
      tests_in_range AtLeast k (nat_lt n k ≡ false) (λ e. (less_false n k).1 (leb-true k n e), λ e. le-leb k n ((less_false n k).0 e)) (λ less e. let h = (less_false n k).0 e in omega arith) (nat_lt k (2 ^ 32)) refl
  tests_natural SharesBit k =
      let e : not (eqb (bit_and n (k % 2 ^ 32)) 0) ≡ not (eqb (bit_and n k) 0) = ap (λ (bits : ℕ). not (eqb bits 0)) (same_bits k) in
      tests_same image Any _ _ (λ exits rest. load (fork SharesBit (k % 2 ^ 32) exits rest)) (λ h. sym e ∙ h, λ h. e ∙ h) (tests_fork SharesBit (k % 2 ^ 32))

  tests_compare : (test : Test) (value : Integer) → Tests image Any (Compared test (natural n) value) (λ exits rest. load (compare test value exits rest))
  tests_compare test (Natural k) = tests_natural test k
  tests_compare Equal (Negative k) = tests_never (Natural n ≡ Negative k) (λ e. cc)
  tests_compare Above (Negative k) = tests_always (true ≡ true) refl
  tests_compare AtLeast (Negative k) = tests_always (false ≡ false) refl
  tests_compare SharesBit (Negative k) = tests_never (false ≡ true) false≢true

  -- the number is in the relation to an integer
  pub tests_number : (relation : NumberRelation) (value : Integer) → Tests image Any (NumberRelates relation (natural n) value) (λ exits rest. load (number_relates relation value exits rest))
  tests_number relation value =
      let piece : Piece = λ exits rest. load (compare (comparison_of relation) value exits rest) in
      tests_same image Any _ _ (says (equality_of relation) piece) (relation_says relation (natural n) value) (tests_says image Any (equality_of relation) (Compared (comparison_of relation) (natural n) value) piece (tests_compare (comparison_of relation) value))

-- ---- pieces stand in front of their rest

extends_fork : (test : Test) (k : ℕ) → Extends (fork test k)
extends_fork test k exits rest = (_ ∷ [], refl)

extends_natural : (test : Test) (n : ℕ) → Extends (compare_natural test n)
extends_natural SharesBit n = extends_fork SharesBit (n % 2 ^ 32)
extends_natural test n =
    extends_choice (nat_lt n (2 ^ 32)) (fork test n) (fork Above 0xffffffff) (extends_fork test n) (extends_fork Above 0xffffffff)

extends_compare : (test : Test) (value : Integer) → Extends (compare test value)
extends_compare test (Natural n) = extends_natural test n
extends_compare Above (Negative n) = extends_fork AtLeast 0
extends_compare AtLeast (Negative n) = extends_fork AtLeast 0
extends_compare test (Negative n) = extends_fork Above 0xffffffff

extends_relates : (relation : NumberRelation) (value : Integer) → Extends (number_relates relation value)
extends_relates relation value =
    extends_says (equality_of relation) (compare (comparison_of relation) value) (extends_compare (comparison_of relation) value)

pub extends_word_number : (at : ℕ) (relation : NumberRelation) (value : Integer) → Extends (word_number at relation value)
extends_word_number at relation value = extends_more (image_word at) (number_relates relation value) (extends_relates relation value)

pub extends_message_len : (relation : NumberRelation) (value : Integer) → Extends (message_len relation value)
extends_message_len relation value =
    extends_more (plain LoadLength 0) _ (extends_more (plain (Compute Sub Constant) 976) (number_relates relation value) (extends_relates relation value))
