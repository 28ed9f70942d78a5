-- What the pieces of a path's test do: they test whether the paths are nested.
use Rattle.std.proofs.Common.{◌≡◌, ◌≢◌, ℕ, suc, ◌+◌, ◌-◌, ◌<◌, ◌≤◌, Bool, true, false, List, [], ◌∷◌, length, get_or, take, drop, Option, Some, None, ◌⊎◌, ◌↔◌, inl, inr, refl, ap, ◌∙◌, arith, subst, length-drop}
use Rattle.std.specs.Prelude.{◌==◌, IsSomeAnd, IfSome, MatchBool, if◌then◌else◌}
use Rattle.std.proofs.lemmas.Bool.{ne_eqb}
use Rattle.bpf_code.specs.declared.instruction.Ins.{Ins}
use Rattle.bpf_code.specs.declared.operation.Test.{Test}
use Rattle.bpf_code.specs.declared.operation.Test.TheVariants.{Equal, AtLeast}
use Rattle.message_value.specs.Arguments.{Argument}
use Rattle.message_value.specs.Bytes.{AreBytes}
use Rattle.match_key.specs.declared.relation.Relation.TheVariants.{NestedPath}
use Rattle.match_rule.specs.Arguments.{text_in}
use Rattle.match_rule.specs.Bytes.{ends_with}
use Rattle.match_rule.specs.Holds.{AreNested, compared_text}
use Rattle.summary.specs.declared.edition.Edition.TheVariants.{Two}
use Rattle.summary.specs.Layout.{argument_place}
use Rattle.summary.specs.Shown.{Tells, ShowsArgument}
use Rattle.rule_compile.proofs.Bytes.{Stands, At}
use Rattle.rule_compile.proofs.Arguments.{compared_text_type, compared_argument, shown_text}
use Rattle.rule_compile.proofs.FolderParts.{some_parts, part_before, part_end, part_last}
use Rattle.rule_compile.proofs.NestedPaths.{bytes_more, bytes_none}
use Rattle.rule_compile.proofs.NestedTexts.{AlongParts, nested_follow_parts, nested_empty}
use Rattle.rule_compile.proofs.Pieces.{Any}
use Rattle.rule_compile.proofs.TextArguments.{IsText}
use Rattle.rule_compile.specs.Folders.{with_front, parts_of}
use Rattle.filter_compile.specs.declared.exits.Exits.{Exits}
use Rattle.filter_compile.specs.Pieces.{Piece, both, either, has_len, from_start, same_bytes, part_test, inner_part, follow_parts, is_nested}
use Rattle.filter_compile.specs.TestCode.{has_type}
use Rattle.filter_compile.proofs.TwoExits.{Before, Extends, extends_both, extends_either, extends_choice, extends_word, extends_from_start, Tests, tests_same, tests_then, tests_else, tests_both, tests_from_start}
use Rattle.filter_compile.proofs.Fields.{tests_type}
use Rattle.filter_compile.proofs.Texts.{tests_len_is, tests_len_from}
use Rattle.filter_compile.proofs.Units.{extends_same_bytes, tests_same_bytes}

-- ---- the parts have bytes

abbrev PartsFit : List (List ℕ) → Type 0
PartsFit [] = Unit {0}
PartsFit (part ∷ more) = (AreBytes part × (0 < length part)) × PartsFit more

parts_front : (b : ℕ) (parts : List (List ℕ)) → b < 256 → PartsFit parts → PartsFit (with_front b parts)
parts_front b [] small fit = ((bytes_more b [] small bytes_none, omega arith), tt)
parts_front b (part ∷ more) small fit = ((bytes_more b part small fit.0.0, omega arith), fit.1)

parts_fit : (value : List ℕ) → AreBytes value → PartsFit (parts_of value)
parts_fit [] are = tt
parts_fit (b ∷ bs) are = go (b == 47) (parts_fit bs (λ i. are (suc i)))
  where
    go : (slash : Bool) → PartsFit (parts_of bs) → PartsFit (if slash then (b ∷ []) ∷ parts_of bs else with_front b (parts_of bs))
    go true fit = ((bytes_more b [] (are 0) bytes_none, omega arith), fit)
    go false fit = parts_front b (parts_of bs) (are 0) fit

-- ---- a part

extends_part : (test : Test) (at place : ℕ) (part : List ℕ) → Extends (part_test test at place part)
extends_part test at place part =
    extends_both (has_len test (place + length part) at) (same_bytes place part) (extends_word (at + 4) test (place + length part)) (extends_same_bytes place part)

tests_part : (image : List ℕ) (at : ℕ) (text : List ℕ) (place : ℕ) (part : List ℕ) (test : Test) (P : Type 0) → (tells : Tells image at text) → AreBytes part → 0 < length part → (P → place + length part ≤ length text) → Tests image (At tells.place) P (has_len test (place + length part) at) → Tests image (At tells.place) (P × Stands text place part) (part_test test at place part)
tests_part image at text place part test P tells are some fits t =
    tests_then image (At tells.place) P (Stands text place part) (has_len test (place + length part) at) (same_bytes place part) t (extends_same_bytes place part) (λ p. tests_same_bytes image tells.place text place part tells.lies tells.bytes are some (fits p))

-- a part that isn't the last one, and the later ones
abbrev inner_then : ℕ → ℕ → List ℕ → Piece → Piece
inner_then at place part later =
    both (has_len AtLeast (place + length part) at) (both (same_bytes place part) (either (has_len Equal (place + length part) at) later))

extends_inner : (at place : ℕ) (part : List ℕ) (later : Piece) → Extends later → Extends (inner_then at place part later)
extends_inner at place part later extends =
    let n = place + length part in
    let ended = either (has_len Equal n at) later in
    let more = both (same_bytes place part) ended in
    extends_both (has_len AtLeast n at) more (extends_word (at + 4) AtLeast n) (extends_both (same_bytes place part) ended (extends_same_bytes place part) (extends_either (has_len Equal n at) later (extends_word (at + 4) Equal n) extends))

extends_follow : (at place : ℕ) (parts : List (List ℕ)) → 0 < length parts → Extends (follow_parts at place parts)
extends_follow at place [] some = absurd (omega (arith, some))
extends_follow at place (part ∷ []) some = λ exits rest. go exits rest (ends_with 47 part)
  where
    go : (exits : Exits) (rest : List Ins) (slash : Bool) → Before rest (if slash then part_test AtLeast at place part exits rest else part_test Equal at place part exits rest)
    go exits rest true = extends_part AtLeast at place part exits rest
    go exits rest false = extends_part Equal at place part exits rest
extends_follow at place (part ∷ next ∷ more) some =
    extends_inner at place part (follow_parts at (place + length part) (next ∷ more)) (extends_follow at (place + length part) (next ∷ more) (omega arith))

tests_follow : (parts : List (List ℕ)) (image : List ℕ) (at : ℕ) (text : List ℕ) (place : ℕ) → (tells : Tells image at text) → 0 < length parts → PartsFit parts → Tests image (At tells.place) (AlongParts text place parts) (follow_parts at place parts)
tests_follow [] image at text place tells some fit = absurd (omega (arith, some))
tests_follow (part ∷ []) image at text place tells some fit = go (ends_with 47 part)
  where
    n : ℕ
    n = place + length part

    go : (slash : Bool) → Tests image (At tells.place) (MatchBool slash ((n ≤ length text) × Stands text place part) ((length text ≡ n) × Stands text place part)) (λ exits rest. if slash then part_test AtLeast at place part exits rest else part_test Equal at place part exits rest)
    go true = tests_part image at text place part AtLeast (n ≤ length text) tells fit.0.0 fit.0.1 (λ fits. fits) (tests_len_from image (At tells.place) at (length text) n tells.len_word)
    go false = tests_part image at text place part Equal (length text ≡ n) tells fit.0.0 fit.0.1 (λ is. omega arith) (tests_len_is image (At tells.place) at (length text) n tells.len_word)
tests_follow (part ∷ next ∷ more) image at text place tells some fit =
    let n = place + length part in
    let X = At tells.place in
    let later = follow_parts at n (next ∷ more) in
    let Along : Type 0 = AlongParts text n (next ∷ more) in
    let extends = extends_follow at n (next ∷ more) (omega arith) in
    let ended = either (has_len Equal n at) later in
    let extends_ended = extends_either (has_len Equal n at) later (extends_word (at + 4) Equal n) extends in
    let t = tests_else image X (length text ≡ n) Along (has_len Equal n at) later (tests_len_is image X at (length text) n tells.len_word) extends (λ _. tests_follow (next ∷ more) image at text n tells (omega arith) fit.1) in
    tests_same image X ((n ≤ length text) × (Stands text place part × ((length text ≡ n) ⊎ Along))) (AlongParts text place (part ∷ next ∷ more)) (follow_parts at place (part ∷ next ∷ more)) (λ each. (each.0, each.1.0, each.1.1), λ along. (along.0, (along.1, along.2)))
    (tests_then image X (n ≤ length text) (Stands text place part × ((length text ≡ n) ⊎ Along)) (has_len AtLeast n at) (both (same_bytes place part) ended) (tests_len_from image X at (length text) n tells.len_word) (extends_both (same_bytes place part) ended (extends_same_bytes place part) extends_ended) (λ few.
    tests_both image X (Stands text place part) ((length text ≡ n) ⊎ Along) (same_bytes place part) ended (tests_same_bytes image tells.place text place part tells.lies tells.bytes fit.0.0 fit.0.1 few) extends_ended t))

-- ---- the whole piece

pub extends_is_nested : (value : List ℕ) (at : ℕ) → Extends (is_nested value at)
extends_is_nested [] at = extends_word (at + 4) Equal 0
extends_is_nested (b ∷ bs) at =
    let parts = parts_of (b ∷ bs) in
    let follow = extends_from_start at (follow_parts at 0 parts) (extends_follow at 0 parts (some_parts (b ∷ bs) (omega arith))) in
    extends_choice (length (b ∷ bs) == 0) (has_len Equal 0 at) (from_start at (follow_parts at 0 parts)) (extends_word (at + 4) Equal 0) follow

pub tests_is_nested : (image : List ℕ) (at : ℕ) (text value : List ℕ) → Tells image at text → AreBytes value → Tests image Any (AreNested text value) (is_nested value at)
tests_is_nested image at text [] tells are =
    let same = nested_empty text in
    tests_same image Any (length text ≡ 0) (AreNested text []) (is_nested [] at) (same.1, same.0) (tests_len_is image Any at (length text) 0 tells.len_word)
tests_is_nested image at text (b ∷ bs) tells are =
    let parts = parts_of (b ∷ bs) in
    let same = nested_follow_parts text b bs in
    let filled : (length (b ∷ bs) == 0) ≡ false = ne_eqb (length (b ∷ bs)) 0 (λ e. omega arith) in
    tests_same image Any (AlongParts text 0 parts) (AreNested text (b ∷ bs)) (is_nested (b ∷ bs) at) (same.1, same.0)
    (rw filled (tests_from_start image (AlongParts text 0 parts) (follow_parts at 0 parts) at tells.place tells.place_word (tests_follow parts image at text 0 tells (some_parts (b ∷ bs) (omega arith)) (parts_fit (b ∷ bs) are))))

-- ---- of an argument of type `s` or `o`

path_argument : (a : Argument) (Q : List ℕ → Type 0) → (IsText a.code × IsSomeAnd a.text Q) ↔ IsSomeAnd (compared_text NestedPath (text_in (Some a))) Q
path_argument a Q =
    let type = compared_text_type a.code in
    let text = compared_argument NestedPath a Q in
    (λ each. text.0 (type.0 each.0, each.1), λ some. let each = text.1 some in (type.1 each.0, each.1))

pub tests_path_argument : (image : List ℕ) (n : ℕ) (o : Option Argument) (Q : List ℕ → Type 0) (f : Piece) → ShowsArgument Two image (argument_place n) o → ((a : Argument) → o ≡ Some a → IsText a.code → (t : List ℕ) × (a.text ≡ Some t)) → Extends f → ((text : List ℕ) → Tells image (argument_place n + 4) text → Tests image Any (Q text) f) → Tests image Any (IsSomeAnd (compared_text NestedPath (text_in o)) Q) (both (either (has_type n 115) (has_type n 111)) f)
tests_path_argument image n None Q f shows has extends t =
    let types = either (has_type n 115) (has_type n 111) in
    let none = tests_else image Any ⊥ ⊥ (has_type n 115) (has_type n 111) (tests_type image Any n 115 None shows (omega arith)) (extends_word (argument_place n) Equal 111) (λ _. tests_type image Any n 111 None shows (omega arith)) in
    tests_same image Any ((⊥ ⊎ ⊥) × ⊥) ⊥ (both types f) (λ each. each.1, λ none. absurd none) (tests_then image Any (⊥ ⊎ ⊥) ⊥ types f none extends (λ one. elim one [ inl none ↦ absurd none | inr none ↦ absurd none ]))
tests_path_argument image n (Some a) Q f shows has extends t =
    let types = either (has_type n 115) (has_type n 111) in
    let path = tests_else image Any (a.code ≡ 115) (a.code ≡ 111) (has_type n 115) (has_type n 111) (tests_type image Any n 115 (Some a) shows (omega arith)) (extends_word (argument_place n) Equal 111) (λ _. tests_type image Any n 111 (Some a) shows (omega arith)) in
    tests_same image Any (IsText a.code × IsSomeAnd a.text Q) _ (both types f) (path_argument a Q)
    (tests_then image Any (IsText a.code) (IsSomeAnd a.text Q) types f path extends (λ is.
    let h = has a refl (is) in
    tests_same image Any (Q h.0) (IsSomeAnd a.text Q) f (shown_text a h.0 Q h.1) (t h.0 (subst (λ (o : Option (List ℕ)). IfSome o (Tells image (argument_place n + 4))) h.1 shows.text))))

-- ---- the parts cut off one by one

follow_more : (at place : ℕ) (part : List ℕ) (parts : List (List ℕ)) (exits : Exits) (rest : List Ins) → 0 < length parts → follow_parts at place (part ∷ parts) exits rest ≡ inner_part at place part exits (follow_parts at (place + length part) parts exits rest)
follow_more at place part [] exits rest h = absurd (omega (arith, h))
follow_more at place part (next ∷ more) exits rest h = refl

-- the part from a start up to the end that another part begins at
pub follow_before : (at start end : ℕ) (text : List ℕ) (exits : Exits) (rest : List Ins) → start < end → end < length text → ((k : ℕ) → start ≤ k → k + 1 < end → get_or text k 0 ≢ 47) → get_or text (end - 1) 0 ≡ 47 → follow_parts at start (parts_of (drop start text)) exits rest ≡ inner_part at start (take (end - start) (drop start text)) exits (follow_parts at end (parts_of (drop end text)) exits rest)
follow_before at start end text exits rest before within one slash =
    let part = take (end - start) (drop start text) in
    let later = parts_of (drop end text) in
    let some_left : 0 < length (drop end text) = rw length-drop (omega arith) in
    ap (λ (parts : List (List ℕ)). follow_parts at start parts exits rest) (part_before start end text before within one slash)
    ∙ follow_more at start part later exits rest (some_parts (drop end text) some_left)
    ∙ ap (λ (i : ℕ). inner_part at start part exits (follow_parts at i later exits rest)) (part_end start end text before within)

-- the last part of a text
pub follow_last : (at start : ℕ) (text : List ℕ) (exits : Exits) (rest : List Ins) → start < length text → ((k : ℕ) → start ≤ k → k + 1 < length text → get_or text k 0 ≢ 47) → follow_parts at start (parts_of (drop start text)) exits rest ≡ follow_parts at start (drop start text ∷ []) exits rest
follow_last at start text exits rest within one =
    ap (λ (parts : List (List ℕ)). follow_parts at start parts exits rest) (part_last start text within one)
