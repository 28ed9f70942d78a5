-- The pieces that compare a text of a field or of an argument, which may be absent, or of another type.
use Rattle.std.proofs.Common.{◌≡◌, ℕ, ◌+◌, ◌<◌, true, false, List, eqb, Option, Some, None, ◌↔◌, inl, inr, refl, subst}
use Rattle.std.specs.Prelude.{IsSomeAnd, IfSome, is_some, option_map}
use Rattle.std.proofs.lemmas.Bool.{false≢true, cases_Bool, eqb-true, eqb-false}
use Rattle.message_value.specs.Arguments.{Argument}
use Rattle.message_value.specs.Bytes.{AreBytes}
use Rattle.match_rule.specs.Arguments.{text_in}
use Rattle.summary.specs.declared.edition.Edition.TheVariants.{Two}
use Rattle.summary.specs.Layout.{argument_place}
use Rattle.summary.specs.Shown.{Tells, ShowsText, ShowsArgument}
use Rattle.rule_compile.proofs.Arguments.{shown_text}
use Rattle.rule_compile.proofs.Pieces.{Any}
use Rattle.filter.specs.declared.test.TextRelation.{TextRelation}
use Rattle.filter.specs.declared.test.TextRelation.TheVariants as relations
use Rattle.filter_compile.specs.Holds.{text_of_code, TextRelates}
use Rattle.filter_compile.specs.Pieces.{Piece, both, is_there}
use Rattle.filter_compile.specs.TestCode.{has_type, text_relates}
use Rattle.filter_compile.proofs.TwoExits.{Extends, extends_no, Tests, tests_same, tests_no, tests_then}
use Rattle.filter_compile.proofs.Fields.{tests_there, tests_type}
use Rattle.filter_compile.proofs.Texts.{extends_is_text, tests_is_text, extends_begins, tests_begins, extends_ends, tests_ends}

-- ---- a text that is there

pub extends_relates : (relation : TextRelation) (value : List ℕ) (at : ℕ) → Extends (text_relates relation value at)
extends_relates relations.Equal value at = extends_is_text value at
extends_relates relations.Unequal value at = extends_no _ (extends_is_text value at)
extends_relates relations.Begins value at = extends_begins value at
extends_relates relations.Ends value at = extends_ends value at

pub tests_relates : (relation : TextRelation) (image : List ℕ) (at : ℕ) (text value : List ℕ) → Tells image at text → AreBytes value → Tests image Any (TextRelates relation text value) (text_relates relation value at)
tests_relates relations.Equal image at text value tells bytes = tests_is_text image at text value tells bytes
tests_relates relations.Unequal image at text value tells bytes = tests_no image Any (text ≡ value) _ (tests_is_text image at text value tells bytes)
tests_relates relations.Begins image at text value tells bytes = tests_begins image at text value tells bytes
tests_relates relations.Ends image at text value tells bytes = tests_ends image at text value tells bytes

-- ---- of a field

pub tests_field : (image : List ℕ) (at : ℕ) (shown : Option (List ℕ)) (Q : List ℕ → Type 0) (f : Piece) → ShowsText image at shown → Extends f → ((text : List ℕ) → Tells image at text → Tests image Any (Q text) f) → Tests image Any (IsSomeAnd shown Q) (both (is_there at) f)
tests_field image at None Q f shows extends t =
    tests_same image Any ((false ≡ true) × ⊥) ⊥ (both (is_there at) f) (λ each. each.1, λ none. absurd none) (tests_then image Any _ ⊥ (is_there at) f (tests_there image Any at None shows) extends (λ e. absurd (false≢true e)))
tests_field image at (Some text) Q f tells extends t =
    tests_same image Any ((is_some (Some text) ≡ true) × Q text) (Q text) (both (is_there at) f) (λ each. each.1, λ q. (refl, q)) (tests_then image Any _ (Q text) (is_there at) f (tests_there image Any at (Some text) tells) extends (λ e. t text tells))

-- ---- of an argument

-- the text of an argument of a type
typed : (code : ℕ) (a : Argument) (Q : List ℕ → Type 0) → ((a.code ≡ code) × IsSomeAnd a.text Q) ↔ IsSomeAnd (text_of_code code (text_in (Some a))) Q
typed code a Q = go a.text
  where
    go : (t : Option (List ℕ)) → ((a.code ≡ code) × IsSomeAnd t Q) ↔ IsSomeAnd (text_of_code code (option_map {U = ℕ × List ℕ} (λ (text : List ℕ). (a.code, text)) t)) Q
    go None = (λ each. each.1, λ none. absurd none)
    go (Some text) = elim (cases_Bool (eqb a.code code)) [
      | inl same ↦ rw same (λ each. each.1, λ q. (eqb-true a.code code same, q))
      | inr other ↦ rw other (λ each. absurd (eqb-false a.code code other each.0), λ none. absurd none)
    ]

pub tests_argument : (image : List ℕ) (n code : ℕ) (o : Option Argument) (Q : List ℕ → Type 0) (f : Piece) → ShowsArgument Two image (argument_place n) o → 0 < code → ((a : Argument) → o ≡ Some a → a.code ≡ code → (t : List ℕ) × (a.text ≡ Some t)) → Extends f → ((text : List ℕ) → Tells image (argument_place n + 4) text → Tests image Any (Q text) f) → Tests image Any (IsSomeAnd (text_of_code code (text_in o)) Q) (both (has_type n code) f)
tests_argument image n code None Q f shows above has extends t =
    tests_same image Any (⊥ × ⊥) ⊥ (both (has_type n code) f) (λ each. each.1, λ none. absurd none) (tests_then image Any ⊥ ⊥ (has_type n code) f (tests_type image Any n code None shows above) extends (λ none. absurd none))
tests_argument image n code (Some a) Q f shows above has extends t =
    tests_same image Any ((a.code ≡ code) × IsSomeAnd a.text Q) _ (both (has_type n code) f) (typed code a Q)
    (tests_then image Any (a.code ≡ code) (IsSomeAnd a.text Q) (has_type n code) f (tests_type image Any n code (Some a) shows above) extends (λ is.
    let h = has a refl is in
    tests_same image Any (Q h.0) (IsSomeAnd a.text Q) f (shown_text a h.0 Q h.1) (t h.0 (subst (λ (o : Option (List ℕ)). IfSome o (Tells image (argument_place n + 4))) h.1 shows.text))))
