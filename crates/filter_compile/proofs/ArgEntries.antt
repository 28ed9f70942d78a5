-- The types are told apart, in either order, and the exits are reached by two jumps.
use Rattle.std.proofs.Common.{◌≡◌, ℕ, List, [], ◌∷◌, ◌++◌, length, Some, ◌⊎◌, refl, sym, ap, ◌∙◌, arith, subst}
use Rattle.std.proofs.lemmas.Bool.{eqb-true, eq-eqb}
use Rattle.std.proofs.lemmas.List.{length-append, nil_from_length}
use Rattle.bpf_code.specs.Loads.{load_word}
use Rattle.bpf_code.specs.declared.instruction.Ins.{Ins}
use Rattle.bpf_code.specs.declared.operation.Test.{Test}
use Rattle.bpf_code.specs.declared.operation.Test.TheVariants.{Equal}
use Rattle.jump_islands.specs.Source.{jump_over}
use Rattle.message_value.specs.Order.{order_byte}
use Rattle.message_value.specs.declared.order.Order.{Order}
use Rattle.message_value.specs.declared.order.Order.TheVariants.{Little, Big}
use Rattle.rule_compile.proofs.Bytes.{At}
use Rattle.rule_compile.proofs.Pieces.{RunsTo, Leads, Any}
use Rattle.rule_compile.proofs.Runs.{runs_image_word, runs_index_from_a}
use Rattle.rule_compile.specs.Code.{image_word, branch, index_from_a}
use Rattle.summary.specs.Layout.{order_place, argument_place}
use Rattle.filter.specs.declared.integer.Integer.{Integer}
use Rattle.filter_compile.specs.ArgCode.{way, code_of, dispatch, fails_jump, jumps, near_exits}
use Rattle.filter_compile.specs.declared.integer_type.IntegerType.{IntegerType}
use Rattle.filter_compile.specs.Entered.{Entered}
use Rattle.filter_compile.specs.Pieces.{over, index_start, word_test}
use Rattle.filter_compile.specs.declared.exits.Exits.{Exits}
use Rattle.filter_compile.proofs.Entries.{Decides, decides_on, decides_test}
use Rattle.filter_compile.proofs.Runs.{runs_jump}
use Rattle.filter_compile.proofs.TwoExits.{Before, LeadsAt, leads_here, leads_on, over_front, Tests, tests_same, tests_word}

-- ---- the types

-- each type of a list, where the argument has it
abbrev pub EachWay : (IntegerType → ℕ → Type 0) → List (IntegerType × ℕ) → Type 0
EachWay P [] = Unit {0}
EachWay P (t ∷ ts) = P t.0 t.1 × EachWay P ts

-- the argument has none of the types
abbrev pub NoneOf : ℕ → List (IntegerType × ℕ) → Type 0
NoneOf code [] = Unit {0}
NoneOf code (t ∷ ts) = (code ≡ code_of t.0 → ⊥) × NoneOf code ts

pub dispatch_grows : (n : ℕ) (test : Test) (value : Integer) (exits : Exits) (ts : List (IntegerType × ℕ)) (other : Entered) → Before other.code (dispatch n test value exits ts other).code
dispatch_grows n test value exits [] other = ([], refl)
dispatch_grows n test value exits (t ∷ ts) other =
    let more = dispatch_grows n test value exits ts other in
    let later = dispatch n test value exits ts other in
    let ways : Exits = record { holds = way test (code_of t.0) value exits t.1; fails = later.entry } in
    let jump = branch Equal (code_of t.0) (over later.code ways.holds) (over later.code ways.fails) in
    (image_word (argument_place n) ∷ jump ∷ more.0, ap (λ (code : List Ins). image_word (argument_place n) ∷ jump ∷ code) more.1)

module _ (image : List ℕ) (place : ℕ) (base : List Ins) (near : Exits) (F : Type 0) where
  abbrev Decided : List Ins → ℕ → Type 0
  Decided code entry = Decides image (At place) base near code entry F

  pub dispatch_decides : (n code : ℕ) (test : Test) (value : Integer) (exits : Exits) (ts : List (IntegerType × ℕ)) (other : Entered) → load_word image (argument_place n) ≡ Some code → EachWay (λ kind entry. code ≡ code_of kind → Decided other.code (way test (code_of kind) value exits entry)) ts → (NoneOf code ts → Decided other.code other.entry) → Decided (dispatch n test value exits ts other).code (dispatch n test value exits ts other).entry
  dispatch_decides n code test value exits [] other loads each none = none tt
  dispatch_decides n code test value exits (t ∷ ts) other loads each none =
      let later = dispatch n test value exits ts other in
      let key = code_of t.0 in
      let entry = way test key value exits t.1 in
      decides_test image (At place) base near later.code (code ≡ key) F (word_test (argument_place n) Equal key) (record { holds = entry; fails = later.entry })
      (tests_same image (At place) _ (code ≡ key) (word_test (argument_place n) Equal key) (eqb-true code key, eq-eqb code key) (tests_word image (At place) (argument_place n) code Equal key loads))
      (λ is. decides_on image (At place) base near other.code later.code entry F (dispatch_grows n test value exits ts other) (each.0 is))
      (λ isnt. dispatch_decides n code test value exits ts other loads each.1 (λ others. none (isnt, others)))

  -- ---- the orders

  pub orders_decide : (order : Order) (little big : Entered) → load_word image order_place ≡ Some (order_byte order) → Before little.code big.code → (order ≡ Little → Decided little.code little.entry) → (order ≡ Big → Decided big.code big.entry) → Decided (word_test order_place Equal 108 (record { holds = little.entry; fails = big.entry }) big.code) (length (word_test order_place Equal 108 (record { holds = little.entry; fails = big.entry }) big.code))
  orders_decide order little big loads before first second =
      decides_test image (At place) base near big.code (order_byte order ≡ 108) F (word_test order_place Equal 108) (record { holds = little.entry; fails = big.entry })
      (tests_same image (At place) _ (order_byte order ≡ 108) (word_test order_place Equal 108) (eqb-true (order_byte order) 108, eq-eqb (order_byte order) 108) (tests_word image (At place) order_place (order_byte order) Equal 108 loads))
      (λ e. decides_on image (At place) base near little.code big.code little.entry F before (first (is_little order e)))
      (λ n. second (is_big order n))
    where
      is_little : (order : Order) → order_byte order ≡ 108 → order ≡ Little
      is_little Little e = refl
      is_little Big e = absurd (omega (arith, e))

      is_big : (order : Order) → (order_byte order ≡ 108 → ⊥) → order ≡ Big
      is_big Little n = absurd (n refl)
      is_big Big n = refl

-- ---- the jumps to the exits

pub jumps_hold : (image : List ℕ) (X : ℕ → Type 0) (exits : Exits) (rest : List Ins) (v : ℕ) → LeadsAt rest exits.holds image Any v → LeadsAt (jumps exits rest) (near_exits exits rest).holds image X v
jumps_hold image X exits rest v l =
    let jump = jump_over (over rest exits.fails) in
    let other = fails_jump exits rest in
    let later : LeadsAt other exits.holds image Any v = leads_on other rest exits.holds image Any v (jump ∷ [], refl) l in
    leads_here (jumps exits rest) image X v (λ a x _. subst (λ (code : List Ins). RunsTo (jump_over (over other exits.holds) ∷ code) image a x v) (sym later.is) (runs_jump later.front later.exit image (over other exits.holds) a x v (over_front other exits.holds image Any v a x later tt) (later.leads a x tt)))

pub jumps_fail : (image : List ℕ) (X : ℕ → Type 0) (exits : Exits) (rest : List Ins) (v : ℕ) → LeadsAt rest exits.fails image Any v → LeadsAt (jumps exits rest) (near_exits exits rest).fails image X v
jumps_fail image X exits rest v l =
    let other = fails_jump exits rest in
    let over_fails = over rest exits.fails in
    record {
      front = jump_over (over other exits.holds) ∷ [];
      exit = other;
      is = refl;
      len = refl;
      leads = λ a x _. subst (λ (code : List Ins). RunsTo (jump_over over_fails ∷ code) image a x v) (sym l.is) (runs_jump l.front l.exit image over_fails a x v (over_front rest exits.fails image Any v a x l tt) (l.leads a x tt));
    }

-- from the first instruction on
pub leads_whole : (code : List Ins) (image : List ℕ) (X : ℕ → Type 0) (v : ℕ) → LeadsAt code (length code) image X v → Leads code image X v
leads_whole code image X v l =
    let none : l.front ≡ [] = nil_from_length l.front (omega (arith, ap length l.is, length-append l.front l.exit, l.len)) in
    let same : code ≡ l.exit = l.is ∙ ap (λ (front : List Ins). front ++ l.exit) none in
    subst (λ (code : List Ins). Leads code image X v) (sym same) l.leads

-- A piece that first makes X a place, and chooses one of two jumps from there.
pub tests_near : (image : List ℕ) (at place : ℕ) (F : Type 0) (inner : Exits → List Ins → List Ins) → load_word image at ≡ Some place → F ⊎ (F → ⊥) → ((exits : Exits) (rest : List Ins) → Decides image (At place) (jumps exits rest) (near_exits exits rest) (inner exits rest) (length (inner exits rest)) F) → Tests image Any F (λ exits rest. index_start at (inner exits rest))
tests_near image at place F inner loads decided d = record {
  decided = decided;
  holds = λ exits rest v leads f a x _.
      let code : List Ins = inner exits rest in
      runs_image_word (index_from_a ∷ code) image at place a x v loads (runs_index_from_a code image place x v (leads_whole code image (At place) v ((d exits rest).holds v (jumps_hold image (At place) exits rest v leads) f) place place refl));
  fails = λ exits rest v leads n a x _.
      let code : List Ins = inner exits rest in
      runs_image_word (index_from_a ∷ code) image at place a x v loads (runs_index_from_a code image place x v (leads_whole code image (At place) v ((d exits rest).fails v (jumps_fail image (At place) exits rest v leads) n) place place refl));
}
