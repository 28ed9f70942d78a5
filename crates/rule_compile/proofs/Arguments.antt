-- The pieces that test an argument: its type, and then its text.
use Rattle.std.proofs.Common.{◌≡◌, ℕ, ◌+◌, Bool, true, false, List, [], ◌∷◌, eqb, Option, Some, None, ◌↔◌, inl, inr, refl, sym, subst, arith, IfSome, if◌then◌else◌}
use Rattle.std.specs.Prelude.{◌==◌, ◌||◌, IsSomeAnd, option_map}
use Rattle.std.proofs.lemmas.Bool.{false≢true, cases_Bool, eqb-true, eqb-false, eq-eqb, ne_eqb}
use Rattle.bpf_code.specs.declared.instruction.Ins.{Ins}
use Rattle.bpf_code.specs.declared.operation.Test.TheVariants.{Equal}
use Rattle.bpf_code.specs.Loads.{load_word}
use Rattle.message_value.specs.Arguments.{Argument}
use Rattle.match_key.specs.declared.relation.Relation.{Relation}
use Rattle.match_key.specs.declared.relation.Relation.TheVariants as relations
use Rattle.match_rule.specs.Arguments.{text_in}
use Rattle.match_rule.specs.Holds.{is_compared, compared_text}
use Rattle.summary.specs.declared.edition.Edition.TheVariants.{Two}
use Rattle.summary.specs.Shown.{Tells, ShowsArgument}
use Rattle.summary.specs.Layout.{argument_place}
use Rattle.rule_compile.specs.Code.{want, settle}
use Rattle.rule_compile.specs.RuleCode.{has_text_type, type_code}
use Rattle.rule_compile.proofs.Pieces.{Any, Tests}
use Rattle.rule_compile.proofs.Runs.{runs_image_word, runs_want, stops_want, runs_settle, stays_settle}
use Rattle.rule_compile.proofs.Combined.{Extends, extends_want, extends_settle, guards, tests_same, tests_word}
use Rattle.rule_compile.proofs.InTurn.{InTurn, turn_same, turn_after}
use Rattle.rule_compile.proofs.TextArguments.{IsText}

-- ---- the type

extends_has_text_type : (n : ℕ) → Extends (has_text_type n)
extends_has_text_type n = extends_settle (want Equal 111) (argument_place n) Equal 115 (extends_want Equal 111)

-- A has the code after the first comparison too
tests_has_text_type : (image : List ℕ) (n w : ℕ) → load_word image (argument_place n) ≡ Some w → Tests image Any (IsText w) (has_text_type n)
tests_has_text_type image n w is = elim (cases_Bool (eqb w 115)) [
  | inl string ↦ record {
    decided = inl (inl (eqb-true w 115 string));
    guarded = guards (has_text_type n) (extends_has_text_type n);
    passes = λ rest v g leads _ a x fits. runs_image_word (settle Equal 115 rest (want Equal 111 rest)) image (argument_place n) w a x v is (runs_settle (_ ∷ []) rest (want Equal 111 rest) image Equal 115 w x v refl string (leads w x fits));
    fails = λ rest g none. absurd (none (inl (eqb-true w 115 string)));
  }
  | inr other ↦ record {
    decided = elim (cases_Bool (eqb w 111)) [
      | inl path ↦ inl (inr (eqb-true w 111 path))
      | inr no_path ↦ inr (λ text. elim text [ inl e ↦ eqb-false w 115 other e | inr e ↦ eqb-false w 111 no_path e ])
    ];
    guarded = guards (has_text_type n) (extends_has_text_type n);
    passes = λ rest v g leads text a x fits. runs_image_word (settle Equal 115 rest (want Equal 111 rest)) image (argument_place n) w a x v is (stays_settle rest (want Equal 111 rest) image Equal 115 w x v other (runs_want rest image Equal 111 w x v (elim text [ inl e ↦ absurd (eqb-false w 115 other e) | inr e ↦ eq-eqb w 111 e ]) (leads w x fits)));
    fails = λ rest g none a x fits. runs_image_word (settle Equal 115 rest (want Equal 111 rest)) image (argument_place n) w a x 0 is (stays_settle rest (want Equal 111 rest) image Equal 115 w x 0 other (stops_want rest image Equal 111 w x g (ne_eqb w 111 (λ e. none (inr e)))));
  }
]

-- ---- the types that a relation compares

pub compared_text_type : (w : ℕ) → IsText w ↔ ((w == 115 || w == 111) ≡ true)
compared_text_type w = (
  λ text. elim text [ inl e ↦ rw e refl | inr e ↦ rw e refl ],
  λ e. elim (cases_Bool (w == 115)) [ inl string ↦ inl (eqb-true w 115 string) | inr other ↦ inr (eqb-true w 111 (rw other at e)) ],
)

-- what a relation compares is a string or an object path
compared_is_text : (relation : Relation) (code : ℕ) → is_compared relation code ≡ true → IsText code
compared_is_text relations.NestedPath code e = (compared_text_type code).1 e
compared_is_text _ code e = inl (eqb-true code 115 e)

tests_type : (relation : Relation) (image : List ℕ) (n w : ℕ) → load_word image (argument_place n) ≡ Some w → Tests image Any (is_compared relation w ≡ true) (type_code relation n)
tests_type relations.NestedPath image n w is = tests_same image Any _ _ (has_text_type n) (compared_text_type w) (tests_has_text_type image n w is)
tests_type _ image n w is = tests_word image Any (argument_place n) w Equal 115 is

-- ---- the type, and then the text

either : (b : Bool) (text : List ℕ) (Q : List ℕ → Type 0) → ((b ≡ true) × Q text) ↔ IsSomeAnd (if b then Some text else None) Q
either true text Q = (λ both. both.1, λ q. (refl, q))
either false text Q = (λ both. false≢true both.0, λ none. absurd none)

-- the text of an argument whose type is compared
pub compared_argument : (relation : Relation) (a : Argument) (Q : List ℕ → Type 0) → ((is_compared relation a.code ≡ true) × IsSomeAnd a.text Q) ↔ IsSomeAnd (compared_text relation (text_in (Some a))) Q
compared_argument relation a Q = go a.text
  where
    go : (t : Option (List ℕ)) → ((is_compared relation a.code ≡ true) × IsSomeAnd t Q) ↔ IsSomeAnd (compared_text relation (option_map {U = ℕ × List ℕ} (λ (text : List ℕ). (a.code, text)) t)) Q
    go None = (λ both. both.1, λ none. absurd none)
    go (Some text) = either (is_compared relation a.code) text Q

not_compared : (relation : Relation) → is_compared relation 0 ≡ true → ⊥
not_compared relation e = elim (compared_is_text relation 0 e) [ inl is ↦ omega arith | inr is ↦ omega arith ]

-- some text of which something holds
pub shown_text : (a : Argument) (t : List ℕ) (Q : List ℕ → Type 0) → a.text ≡ Some t → Q t ↔ IsSomeAnd a.text Q
shown_text a t Q is = (
  λ q. subst (λ (o : Option (List ℕ)). IsSomeAnd o Q) (sym is) q,
  λ q. subst (λ (o : Option (List ℕ)). IsSomeAnd o Q) is q,
)

-- an argument is there and has a text that the relation compares, of which something holds
pub turn_argument : (image : List ℕ) (n : ℕ) (relation : Relation) (o : Option Argument) (Q : List ℕ → Type 0) (f g : List Ins → List Ins) → ShowsArgument Two image (argument_place n) o → ((a : Argument) → o ≡ Some a → IsText a.code → (t : List ℕ) × (a.text ≡ Some t)) → Extends f → Extends g → ((t : List ℕ) → Tells image (argument_place n + 4) t → InTurn image (Q t) f g) → InTurn image (IsSomeAnd (compared_text relation (text_in o)) Q) (λ rest. type_code relation n (f rest)) g
turn_argument image n relation None Q f g shows has extends_f extends_g tail =
    turn_same image _ _ (λ rest. type_code relation n (f rest)) g (λ both. both.1, λ none. absurd none) (turn_after image (is_compared relation 0 ≡ true) ⊥ (type_code relation n) f g (tests_type relation image n 0 shows.0) extends_f extends_g (λ c. absurd (not_compared relation c)))
turn_argument image n relation (Some a) Q f g shows has extends_f extends_g tail =
    turn_same image _ _ (λ rest. type_code relation n (f rest)) g (compared_argument relation a Q)
    (turn_after image (is_compared relation a.code ≡ true) (IsSomeAnd a.text Q) (type_code relation n) f g (tests_type relation image n a.code shows.code_word) extends_f extends_g (λ c.
    let t = has a refl (compared_is_text relation a.code c) in
    turn_same image (Q t.0) (IsSomeAnd a.text Q) f g (shown_text a t.0 Q t.1) (tail t.0 (subst (λ (o : Option (List ℕ)). IfSome o (Tells image (argument_place n + 4))) t.1 shows.text))))
