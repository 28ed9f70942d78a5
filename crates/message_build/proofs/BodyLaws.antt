-- A body is read exactly where it is the values of its types.
use Rattle.std.proofs.Common.{◌≡◌, ℕ, ◌+◌, ◌^◌, ◌<◌, List, [], ◌∷◌, ◌++◌, length, Ok, Err, refl, sym, ap, subst, ◌∙◌, arith}
use Rattle.signature.specs.DataType.{DataTypes, SigText}
use Rattle.signature.proofs.Signatures.{SigText-unique}
use Rattle.message_value.specs.declared.order.Order.TheVariants.{Little}
use Rattle.message_value.specs.declared.error.MsgError.{MsgError}
use Rattle.message_value.specs.Value.{Values}
use Rattle.message_value.specs.Spelling.{members_bytes}
use Rattle.message_value.specs.Fits.{max_levels, MembersFit}
use Rattle.message_value.specs.Reading.{At, members_at, value_at}
use Rattle.message_value.proofs.WordBytes.{IsBytes}
use Rattle.message_value.proofs.OkSteps.{ok_is}
use Rattle.message_value.proofs.ReadItems.{at}
use Rattle.message_value.proofs.ReadValues.{members_takes, members_again}
use Rattle.message_build.specs.MessageBytes.{IsBody}

append_nothing : (xs : List ℕ) → xs ++ [] ≡ xs
append_nothing [] = refl
append_nothing (x ∷ xs) = ap (λ (l : List ℕ). x ∷ l) (append_nothing xs)

no_bytes : (xs : List ℕ) → length xs ≡ 0 → xs ≡ []
no_bytes [] e = refl
no_bytes (x ∷ xs) e = absurd (omega arith)

-- what was read to its end is a body
pub read_body : (types : DataTypes) (s body : List ℕ) (outside : MsgError) (values : Values) (tail : At) → SigText types s → IsBytes body → length body < 2 ^ 32
    → members_at (value_at max_levels Little) types (at 0 body outside) ≡ Ok (values, tail) → length tail.rest ≡ 0 → IsBody s body
read_body types s body outside values tail typed bytes few e end =
    let t = members_takes max_levels Little types (at 0 body outside) (values, tail) bytes e in
    let whole = members_bytes Little 0 types values in
    let is : body ≡ whole = t.0.parts ∙ ap (λ (l : List ℕ). whole ++ l) (no_bytes tail.rest end) ∙ append_nothing whole in
    (types, values, record { typed = typed; fit = t.1; spelled = is; counted = few })

-- a body is read to its end
pub body_read : (types : DataTypes) (s body : List ℕ) (outside : MsgError) → SigText types s → (b : IsBody s body)
    → members_at (value_at max_levels Little) types (at 0 body outside) ≡ Ok (b.1, at (0 + length (members_bytes Little 0 types b.1)) [] outside)
body_read types s body outside typed b =
    let same : b.0 ≡ types = SigText-unique b.0 types s b.2.typed typed in
    let fit : MembersFit Little max_levels 0 types b.1 = subst (λ (ts : DataTypes). MembersFit Little max_levels 0 ts b.1) same b.2.fit in
    let is : body ≡ members_bytes Little 0 types b.1 = b.2.spelled ∙ ap (λ (ts : DataTypes). members_bytes Little 0 ts b.1) same in
    let whole : body ≡ members_bytes Little 0 types b.1 ++ [] = is ∙ sym (append_nothing (members_bytes Little 0 types b.1)) in
    ap (λ (l : List ℕ). members_at (value_at max_levels Little) types (at 0 l outside)) whole ∙ members_again max_levels Little types 0 outside b.1 [] fit

-- where it ends
pub body_ends : (types : DataTypes) (s body : List ℕ) (outside : MsgError) (values : Values) (tail : At) → SigText types s → IsBody s body
    → members_at (value_at max_levels Little) types (at 0 body outside) ≡ Ok (values, tail) → length tail.rest ≡ 0
body_ends types s body outside values tail typed b e =
    let last : At = at (0 + length (members_bytes Little 0 types b.1)) [] outside in
    let x : Values × At = (values, tail) in
    let y : Values × At = (b.1, last) in
    let same : x ≡ y = ok_is x y (sym e ∙ body_read types s body outside typed b) in
    ap (λ (r : Values × At). length r.1.rest) same

pub body_no_fault : (types : DataTypes) (s body : List ℕ) (outside fault : MsgError) → SigText types s → IsBody s body
    → members_at (value_at max_levels Little) types (at 0 body outside) ≡ Err fault → ⊥
body_no_fault types s body outside fault typed b e = let read = body_read types s body outside typed b in absurd cc
