use Rattle.std.proofs.Common.{◌≡◌, ℕ, ◌+◌, ◌-◌, List, length, take, drop, MatchOption, refl, ap, subst, ◌∙◌, arith}
use Rattle.std.specs.Borrow.{Bor}
use Rattle.message_view.specs.Spelling.{header_bytes}
use Rattle.message_build.proofs.HeaderArrays.{fields_len_said, array_within, array_is}
use Rattle.message_build.proofs.stamping.find_array.Goals as goal

pub returns-in_err-word-clause-array : goal.returns-in_err-word-clause-array
returns-in_err-word-clause-array c = λ m v is.
    let whole = array_within c.args.raw.now m (length (header_bytes m)) v refl in
    absurd (c.in_err-word.ensures.found (omega arith) (omega (arith, whole)))

pub returns-then-len-gt-MAX_ARRAY_LEN-clause-array : goal.returns-then-len-gt-MAX_ARRAY_LEN-clause-array
returns-then-len-gt-MAX_ARRAY_LEN-clause-array c = λ m v is.
    let whole = array_within c.args.raw.now m (length (header_bytes m)) v refl in
    let word : c.in_ok-word.word.now ≡ take 4 (drop 12 c.args.raw.now) = c.in_ok-word.ensures.found (omega arith) (omega (arith, whole)) in
    let four : length c.in_ok-word.word.now ≡ 4 = omega (arith, c.in_ok-word.ensures.len) in
    let text_said = fields_len_said c.args.raw.now m c.args.order c.in_ok-word.word.now c.word-len.result v is four word c.word-len.ensures in
    absurd (omega (arith, text_said, v.fields_fit, c.if-len-gt-MAX_ARRAY_LEN.true))

pub returns-clause-array : goal.returns-clause-array
returns-clause-array c = λ m v is.
    let raw = c.args.raw.now in
    let len = c.word-len.result in
    let whole = array_within raw m (length (header_bytes m)) v refl in
    let word : c.in_ok-word.word.now ≡ take 4 (drop 12 raw) = c.in_ok-word.ensures.found (omega arith) (omega (arith, whole)) in
    let four : length c.in_ok-word.word.now ≡ 4 = omega (arith, c.in_ok-word.ensures.len) in
    let text_said = fields_len_said raw m c.args.order c.in_ok-word.word.now len v is four word c.word-len.ensures in
    let minus : 16 + len - 16 ≡ len = omega arith in
    let same : take (16 + len - 16) (drop 16 raw) ≡ header_bytes m = ap (λ (k : ℕ). take k (drop 16 raw)) minus ∙ array_is raw m len v text_said in
    subst (λ (l : List ℕ). MatchOption c.between-2.result ⊥ (λ (found : Bor (List ℕ)). found.now ≡ l)) same (c.between-2.ensures.found (omega arith) (array_within raw m len v text_said))
