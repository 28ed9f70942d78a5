-- The parts of a text, cut off one by one, and the piece that goes along them.
use Rattle.std.proofs.Common.{◌≡◌, ◌≢◌, ℕ, zero, suc, ◌+◌, ◌-◌, ◌<◌, ◌≤◌, Bool, true, false, cond, eqb, List, [], ◌∷◌, length, get_or, take, drop, refl, sym, ap, ◌∙◌, arith, length-take, length-drop}
use Rattle.std.proofs.Math.Seq.{take-length}
use Rattle.std.proofs.lemmas.List.{get_or-drop, drop-drop}
use Rattle.std.proofs.lemmas.Bool.{ne_eqb}
use Rattle.bpf_code.specs.declared.instruction.Ins.{Ins}
use Rattle.bpf_code.specs.declared.operation.Test.TheVariants.{Equal, AtLeast}
use Rattle.rule_compile.specs.Code.{image_word, branch, same_bytes, has_len}
use Rattle.rule_compile.specs.Folders.{with_front, parts_of, follow_parts}

-- a part ends at its `/`
pub first_part : (text : List ℕ) (n : ℕ) → n < length text → ((k : ℕ) → k < n → get_or text k 0 ≢ 47) → get_or text n 0 ≡ 47 → parts_of text ≡ take (suc n) text ∷ parts_of (drop (suc n) text)
first_part [] n h before at = absurd (omega (arith, h))
first_part (b ∷ bs) zero h before at = rw at refl
first_part (b ∷ bs) (suc n) h before at =
    let here : eqb b 47 ≡ false = ne_eqb b 47 (before 0 (omega arith)) in
    let more : parts_of bs ≡ take (suc n) bs ∷ parts_of (drop (suc n) bs) = first_part bs n (omega (arith, h)) (λ k l. before (suc k) (omega (arith, l))) at in
    ap (λ (t : Bool). cond t ((b ∷ []) ∷ parts_of bs) (with_front b (parts_of bs))) here ∙ ap (with_front b) more

-- the last part ends with the text
pub only_part : (text : List ℕ) → 0 < length text → ((k : ℕ) → k + 1 < length text → get_or text k 0 ≢ 47) → parts_of text ≡ text ∷ []
only_part [] h one = absurd (omega (arith, h))
only_part (b ∷ []) h one = elim (eqb b 47) as (λ t. cond t ((b ∷ []) ∷ []) ((b ∷ []) ∷ []) ≡ (b ∷ []) ∷ []) [ true ↦ refl | false ↦ refl ]
only_part (b ∷ c ∷ bs) h one =
    let here : eqb b 47 ≡ false = ne_eqb b 47 (one 0 (omega arith)) in
    let more : parts_of (c ∷ bs) ≡ (c ∷ bs) ∷ [] = only_part (c ∷ bs) (omega arith) (λ k l. one (suc k) (omega (arith, l))) in
    ap (λ (t : Bool). cond t ((b ∷ []) ∷ parts_of (c ∷ bs)) (with_front b (parts_of (c ∷ bs)))) here ∙ ap (with_front b) more

some_front : (b : ℕ) (parts : List (List ℕ)) → 0 < length (with_front b parts)
some_front b [] = omega arith
some_front b (part ∷ more) = omega arith

pub some_parts : (text : List ℕ) → 0 < length text → 0 < length (parts_of text)
some_parts [] h = absurd (omega (arith, h))
some_parts (b ∷ bs) h =
    elim (eqb b 47) as (λ t. 0 < length (cond t ((b ∷ []) ∷ parts_of bs) (with_front b (parts_of bs)))) [ true ↦ omega arith | false ↦ some_front b (parts_of bs) ]

-- what a slice up to the end has
pub rest_of : (text : List ℕ) (start : ℕ) → take (length text - start) (drop start text) ≡ drop start text
rest_of text start = ap (λ (n : ℕ). take n (drop start text)) (sym (length-drop start text)) ∙ take-length (drop start text)

-- the part from a start up to the end that another part begins at
pub part_before : (start end : ℕ) (text : List ℕ) → start < end → end < length text → ((k : ℕ) → start ≤ k → k + 1 < end → get_or text k 0 ≢ 47) → get_or text (end - 1) 0 ≡ 47 → parts_of (drop start text) ≡ take (end - start) (drop start text) ∷ parts_of (drop end text)
part_before start end text before within one slash =
    let left = drop start text in
    let n : ℕ = end - start - 1 in
    let many : length left ≡ length text - start = length-drop start text in
    let inside : n < length left = omega arith in
    let none : (k : ℕ) → k < n → get_or left k 0 ≢ 47 = λ k h. rw get_or-drop (one (start + k) (omega arith) (omega (arith, h))) in
    let last : get_or left n 0 ≡ 47 = get_or-drop start text n 0 ∙ ap (λ (i : ℕ). get_or text i 0) (let e : start + n ≡ end - 1 = omega arith in e) ∙ slash in
    let size : suc n ≡ end - start = omega arith in
    let to : start + suc n ≡ end = omega arith in
    let same : drop (suc n) left ≡ drop end text = drop-drop (suc n) start text ∙ ap (λ (i : ℕ). drop i text) to in
    first_part left n inside none last ∙ ap (λ (i : ℕ). take i left ∷ parts_of (drop (suc n) left)) size ∙ ap (λ (rest : List ℕ). take (end - start) left ∷ parts_of rest) same

-- where it ends
pub part_end : (start end : ℕ) (text : List ℕ) → start < end → end < length text → start + length (take (end - start) (drop start text)) ≡ end
part_end start end text before within = grind (arith, length-take, length-drop)

-- the last part
pub part_last : (start : ℕ) (text : List ℕ) → start < length text → ((k : ℕ) → start ≤ k → k + 1 < length text → get_or text k 0 ≢ 47) → parts_of (drop start text) ≡ drop start text ∷ []
part_last start text within one =
    let many : length (drop start text) ≡ length text - start = length-drop start text in
    only_part (drop start text) (omega arith) (λ k h. rw get_or-drop (one (start + k) (omega arith) (omega (arith, h))))

-- ---- the pieces

-- a part of a text in front of others
abbrev pub inner : ℕ → ℕ → List ℕ → List Ins → List Ins → List Ins
inner at place part exit rest =
    has_len AtLeast (place + length part) at (same_bytes place part (image_word (at + 4) ∷ branch Equal (place + length part) (length rest - length exit) 0 ∷ rest))

follow_parts_more : (at place : ℕ) (part : List ℕ) (parts : List (List ℕ)) (rest : List Ins) → 0 < length parts → follow_parts at place (part ∷ parts) rest ≡ inner at place part rest (follow_parts at (place + length part) parts rest)
follow_parts_more at place part [] rest h = absurd (omega (arith, h))
follow_parts_more at place part (next ∷ more) rest h = refl

pub follow_parts_before : (at start end : ℕ) (text : List ℕ) (rest : List Ins) → start < end → end < length text → ((k : ℕ) → start ≤ k → k + 1 < end → get_or text k 0 ≢ 47) → get_or text (end - 1) 0 ≡ 47 → follow_parts at start (parts_of (drop start text)) rest ≡ inner at start (take (end - start) (drop start text)) rest (follow_parts at end (parts_of (drop end text)) rest)
follow_parts_before at start end text rest before within one slash =
    let part = take (end - start) (drop start text) in
    let later = parts_of (drop end text) in
    let some_left : 0 < length (drop end text) = rw length-drop (omega arith) in
    ap (λ (parts : List (List ℕ)). follow_parts at start parts rest) (part_before start end text before within one slash)
    ∙ follow_parts_more at start part later rest (some_parts (drop end text) some_left)
    ∙ ap (λ (i : ℕ). inner at start part rest (follow_parts at i later rest)) (part_end start end text before within)

pub follow_parts_last : (at start : ℕ) (text : List ℕ) (rest : List Ins) → start < length text → ((k : ℕ) → start ≤ k → k + 1 < length text → get_or text k 0 ≢ 47) → follow_parts at start (parts_of (drop start text)) rest ≡ follow_parts at start (drop start text ∷ []) rest
follow_parts_last at start text rest within one =
    ap (λ (parts : List (List ℕ)). follow_parts at start parts rest) (part_last start text within one)
