-- What the program of a path's condition tests: whether the paths are nested.
use Rattle.std.proofs.Common.{◌≡◌, ℕ, zero, suc, ◌+◌, ◌<◌, ◌≤◌, Bool, true, false, List, [], ◌∷◌, length, inl, inr, ◌⊎◌, arith}
use Rattle.std.specs.Prelude.{◌==◌, MatchBool, if◌then◌else◌}
use Rattle.std.proofs.lemmas.Bool.{eqb-true, eq-eqb, ne_eqb}
use Rattle.bpf_code.specs.declared.instruction.Ins.{Ins}
use Rattle.bpf_code.specs.declared.operation.Test.{Test}
use Rattle.bpf_code.specs.declared.operation.Test.TheVariants.{Equal, AtLeast}
use Rattle.match_rule.specs.Bytes.{ends_with}
use Rattle.match_rule.specs.Holds.{AreNested}
use Rattle.summary.specs.Shown.{Tells}
use Rattle.message_value.specs.Bytes.{AreBytes}
use Rattle.rule_compile.specs.Code.{image_word, same_bytes, has_len, may_end}
use Rattle.rule_compile.specs.Folders.{with_front, parts_of, follow_parts, is_nested}
use Rattle.rule_compile.proofs.Pieces.{Any, Tests}
use Rattle.rule_compile.proofs.Combined.{Extends, extends_none, extends_choice, extends_then, extends_test, extends_settle, extends_index_text, tests_none, tests_same, tests_then, tests_both, tests_settle, tests_index_text}
use Rattle.rule_compile.proofs.Bytes.{Stands, At, extends_same_bytes, tests_same_bytes}
use Rattle.rule_compile.proofs.Texts.{tests_len_is, tests_len_from}
use Rattle.rule_compile.proofs.NestedTexts.{AlongParts, nested_follow_parts, nested_empty}

-- ---- the bytes of the parts

abbrev PartsAreBytes : List (List ℕ) → Type 0
PartsAreBytes [] = Unit {0}
PartsAreBytes (part ∷ more) = AreBytes part × PartsAreBytes more

pub bytes_more : (b : ℕ) (bs : List ℕ) → b < 256 → AreBytes bs → AreBytes (b ∷ bs)
bytes_more b bs small are zero = small
bytes_more b bs small are (suc i) = are i

pub bytes_none : AreBytes []
bytes_none i = omega arith

parts_front : (b : ℕ) (parts : List (List ℕ)) → b < 256 → PartsAreBytes parts → PartsAreBytes (with_front b parts)
parts_front b [] small are = (bytes_more b [] small bytes_none, tt)
parts_front b (part ∷ more) small are = (bytes_more b part small are.0, are.1)

parts_are_bytes : (value : List ℕ) → AreBytes value → PartsAreBytes (parts_of value)
parts_are_bytes [] are = tt
parts_are_bytes (b ∷ bs) are = go (b == 47) (parts_are_bytes bs (λ i. are (suc i)))
  where
    go : (slash : Bool) → PartsAreBytes (parts_of bs) → PartsAreBytes (if slash then (b ∷ []) ∷ parts_of bs else with_front b (parts_of bs))
    go true parts = (bytes_more b [] (are 0) bytes_none, parts)
    go false parts = parts_front b (parts_of bs) (are 0) parts

-- ---- pieces

-- a length that a part fits into, and the part
part_tests : (image : List ℕ) (at : ℕ) (text : List ℕ) (place : ℕ) (part : List ℕ) (test : Test) (P : Type 0) (tells : Tells image at text) → AreBytes part → (P → place + length part ≤ length text) → Tests image (At tells.place) P (has_len test (place + length part) at) → Tests image (At tells.place) (P × Stands text place part) (λ rest. has_len test (place + length part) at (same_bytes place part rest))
part_tests image at text place part test P tells are fits t =
    tests_then image (At tells.place) P (Stands text place part) (has_len test (place + length part) at) (same_bytes place part) t (extends_same_bytes place part) (λ p. tests_same_bytes image tells.place text place part tells.lies tells.bytes are (fits p))

-- the text ends here, or the piece tests the rest
ends_here : (image : List ℕ) (X : ℕ → Type 0) (P : Type 0) (f : List Ins → List Ins) (at : ℕ) (text : List ℕ) (n : ℕ) → Tells image at text → Extends f → Tests image X P f → Tests image X ((length text ≡ n) ⊎ P) (λ rest. may_end at n rest (f rest))
ends_here image X P f at text n tells extends t =
    tests_same image X _ ((length text ≡ n) ⊎ P) (λ rest. may_end at n rest (f rest)) (
      λ h. elim h [ inl e ↦ inl (eqb-true (length text) n e) | inr p ↦ inr p ],
      λ h. elim h [ inl e ↦ inl (eq-eqb (length text) n e) | inr p ↦ inr p ],
    ) (tests_settle image X P f (at + 4) (length text) Equal n tells.len_word extends (λ _. t))

-- ---- along the parts

extends_part : (test : Test) (n at place : ℕ) (part : List ℕ) (f : List Ins → List Ins) → Extends f → Extends (λ rest. has_len test n at (same_bytes place part (f rest)))
extends_part test n at place part f more =
    let bytes = extends_then (same_bytes place part) f (extends_same_bytes place part) more in
    extends_then (has_len test n at) (λ rest. same_bytes place part (f rest)) (extends_test (image_word (at + 4)) test n) bytes

extends_follow_parts : (at place : ℕ) (parts : List (List ℕ)) → Extends (follow_parts at place parts)
extends_follow_parts at place [] = extends_none
extends_follow_parts at place (part ∷ []) =
    let n = place + length part in
    let from = extends_part AtLeast n at place part (λ rest. rest) extends_none in
    extends_choice (ends_with 47 part) _ _ from (extends_part Equal n at place part (λ rest. rest) extends_none)
extends_follow_parts at place (part ∷ next ∷ more) =
    let n = place + length part in
    let later = extends_settle (follow_parts at n (next ∷ more)) (at + 4) Equal n (extends_follow_parts at n (next ∷ more)) in
    extends_part AtLeast n at place part (λ rest. may_end at n rest (follow_parts at n (next ∷ more) rest)) later

follow_parts_tests : (parts : List (List ℕ)) (image : List ℕ) (at : ℕ) (text : List ℕ) (place : ℕ) → (tells : Tells image at text) → PartsAreBytes parts → Tests image (At tells.place) (AlongParts text place parts) (follow_parts at place parts)
follow_parts_tests [] image at text place tells are = tests_none image (At tells.place) (Unit {0}) tt
follow_parts_tests (part ∷ []) image at text place tells are = go (ends_with 47 part)
  where
    n : ℕ
    n = place + length part

    go : (slash : Bool) → Tests image (At tells.place) (MatchBool slash ((n ≤ length text) × Stands text place part) ((length text ≡ n) × Stands text place part)) (λ rest. if slash then has_len AtLeast n at (same_bytes place part rest) else has_len Equal n at (same_bytes place part rest))
    go true = part_tests image at text place part AtLeast (n ≤ length text) tells are.0 (λ fits. fits) (tests_len_from image (At tells.place) at (length text) n tells.len_word)
    go false = part_tests image at text place part Equal (length text ≡ n) tells are.0 (λ is. omega arith) (tests_len_is image (At tells.place) at (length text) n tells.len_word)
follow_parts_tests (part ∷ next ∷ more) image at text place tells are =
    let n = place + length part in
    let X = At tells.place in
    let rest_of = follow_parts at n (next ∷ more) in
    let first = part_tests image at text place part AtLeast (n ≤ length text) tells are.0 (λ fits. fits) (tests_len_from image X at (length text) n tells.len_word) in
    let later = ends_here image X (AlongParts text n (next ∷ more)) rest_of at text n tells (extends_follow_parts at n (next ∷ more)) (follow_parts_tests (next ∷ more) image at text n tells are.1) in
    tests_same image X _ (AlongParts text place (part ∷ next ∷ more)) (follow_parts at place (part ∷ next ∷ more)) (λ both. (both.0.0, both.0.1, both.1), λ all. ((all.0, all.1), all.2))
    (tests_both image X ((n ≤ length text) × Stands text place part) ((length text ≡ n) ⊎ AlongParts text n (next ∷ more)) (λ rest. has_len AtLeast n at (same_bytes place part rest)) (λ rest. may_end at n rest (rest_of rest)) first later)

-- ---- the whole piece

pub extends_is_nested : (at : ℕ) (value : List ℕ) → Extends (is_nested at value)
extends_is_nested at value =
    let parts = parts_of value in
    let parts_extend = extends_index_text (follow_parts at 0 parts) at (extends_follow_parts at 0 parts) in
    extends_choice (length value == 0) (has_len Equal 0 at) _ (extends_test (image_word (at + 4)) Equal 0) parts_extend

-- the piece tests whether the text and the value are nested
pub is_nested_tests : (image : List ℕ) (at : ℕ) (text value : List ℕ) → Tells image at text → AreBytes value → Tests image Any (AreNested text value) (is_nested at value)
is_nested_tests image at text [] tells are =
    let same = nested_empty text in
    tests_same image Any (length text ≡ 0) (AreNested text []) (is_nested at []) (same.1, same.0) (tests_len_is image Any at (length text) 0 tells.len_word)
is_nested_tests image at text (b ∷ bs) tells are =
    let parts = parts_of (b ∷ bs) in
    let same = nested_follow_parts text b bs in
    let filled : (length (b ∷ bs) == 0) ≡ false = ne_eqb (length (b ∷ bs)) 0 (λ e. omega arith) in
    tests_same image Any (AlongParts text 0 parts) (AreNested text (b ∷ bs)) (is_nested at (b ∷ bs)) (same.1, same.0)
    (rw (filled, is_nested) (tests_index_text image (AlongParts text 0 parts) (follow_parts at 0 parts) at tells.place tells.place_word (follow_parts_tests parts image at text 0 tells (parts_are_bytes (b ∷ bs) are))))
