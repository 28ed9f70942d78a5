-- The code that compares an argument's number with an integer, from its parts.
use Rattle.std.proofs.Common.{◌≡◌, ℕ, ◌+◌, List, refl, ap, ◌∙◌}
use Rattle.bpf_code.specs.declared.instruction.Ins.{Ins}
use Rattle.bpf_code.specs.declared.operation.Test.{Test}
use Rattle.bpf_code.specs.declared.operation.Test.TheVariants.{Equal}
use Rattle.message_value.specs.declared.order.Order.TheVariants.{Little, Big}
use Rattle.summary.specs.Layout.{order_place, argument_place}
use Rattle.filter.specs.declared.integer.Integer.{Integer}
use Rattle.filter.specs.declared.test.Equality.{Equality}
use Rattle.filter.specs.declared.test.NumberRelation.{NumberRelation}
use Rattle.filter_compile.specs.ArgCode.{bits_of, Sized, typed, littles, bigs, jumps, near_exits, compared, arg_number}
use Rattle.filter_compile.specs.Entered.{Entered}
use Rattle.filter_compile.specs.Pieces.{index_start, word_test}
use Rattle.filter_compile.specs.TestCode.{exits_for, comparison_of, equality_of}
use Rattle.filter_compile.specs.declared.exits.Exits.{Exits}

-- parts that are put together in this way are the whole, whatever they are
two_orders : (F : ℕ → Sized) (G K : Sized → Entered) (H : ℕ → Sized → Entered → Sized) (W : Entered → Entered → List Ins) (k bits : ℕ) (plain words : Sized) (little big : Entered) (code : List Ins) → bits ≡ k → plain ≡ F bits → little ≡ G plain → words ≡ H bits plain little → big ≡ K words → code ≡ W little big → code ≡ W (G (F k)) (K (H k (F k) (G (F k))))
two_orders F G K H W k bits plain words little big code b p l w g c = rw (c, g, w, l, p, b) refl

pub compared_is : (n : ℕ) (test : Test) (value : Integer) (exits : Exits) (other bits : ℕ) (rest code : List Ins) (plain words : Sized) (little big : Entered) → bits ≡ bits_of value → plain ≡ littles test bits exits rest → little ≡ typed n test value Little exits other plain → words ≡ bigs test bits exits plain.sizes.one little.code → big ≡ typed n test value Big exits other words → code ≡ word_test order_place Equal 108 (record { holds = little.entry; fails = big.entry }) big.code → code ≡ compared n test value exits other rest
compared_is n test value exits other bits rest code plain words little big b p l w g c =
    two_orders (λ bits. littles test bits exits rest) (λ plain. typed n test value Little exits other plain) (λ words. typed n test value Big exits other words) (λ bits plain little. bigs test bits exits plain.sizes.one little.code) (λ little big. word_test order_place Equal 108 (record { holds = little.entry; fails = big.entry }) big.code) (bits_of value) bits plain words little big code b p l w g c

after_jumps : (C : Test → Exits → ℕ → List Ins → List Ins) (I : ℕ → List Ins → List Ins) (X : Equality → Exits → Exits) (near near_is chosen : Exits) (base base_is inner code : List Ins) (equality equality_is : Equality) (test test_is : Test) (at at_is : ℕ) → near ≡ near_is → base ≡ base_is → chosen ≡ X equality near → equality ≡ equality_is → test ≡ test_is → inner ≡ C test chosen near.fails base → at ≡ at_is → code ≡ I at inner → code ≡ I at_is (C test_is (X equality_is near_is) near_is.fails base_is)
after_jumps C I X near near_is chosen base base_is inner code equality equality_is test test_is at at_is e b c q t i a is = rw (is, a, i, t, c, q, b, e) refl

pub arg_number_is : (n k at : ℕ) (relation : NumberRelation) (value : Integer) (exits near chosen : Exits) (equality : Equality) (test : Test) (rest base inner code : List Ins) → near ≡ near_exits exits rest → base ≡ jumps exits rest → chosen ≡ exits_for equality near → equality ≡ equality_of relation → test ≡ comparison_of relation → inner ≡ compared n test value chosen near.fails base → k ≡ n → at ≡ argument_place k → code ≡ index_start (at + 4) inner → code ≡ arg_number n relation value exits rest
arg_number_is n k at relation value exits near chosen equality test rest base inner code e b c q t i m a is =
    after_jumps (λ test chosen other base. compared n test value chosen other base) (λ at inner. index_start (at + 4) inner) exits_for near (near_exits exits rest) chosen base (jumps exits rest) inner code equality (equality_of relation) test (comparison_of relation) at (argument_place n) e b c q t i (a ∙ ap (λ (k : ℕ). argument_place k) m) is
