-- Bytes appended one after the other.
use Rattle.std.proofs.Common.{◌≡◌, ℕ, List, [], ◌∷◌, ◌++◌, length, take, drop, Result, Ok, Err, sym, ap, subst, ◌∙◌, append_assoc, arith}
use Rattle.std.proofs.lemmas.List.{take-append-drop, length-append}
use Rattle.std.proofs.Math.Seq.{take-append_seam}
use Rattle.signature.specs.DataType.{DataType, basic}
use Rattle.message_value.specs.declared.order.Order.{Order}
use Rattle.message_value.specs.Spelling.{padding, zeros, signature_bytes, value_bytes}
use Rattle.message_value.proofs.ReadItems.{length-zeros}
use Rattle.message_view.specs.Message.{Field}
use Rattle.message_view.specs.Spelling.{field_front, field_value_place, field_bytes}
use Rattle.message_build.specs.Growing.{Appends}

front_then : (old mid new a : List ℕ) → mid ≡ old ++ a → take (length mid) new ≡ mid → take (length old) new ≡ old
front_then old mid new a is front =
    let rest = drop (length mid) new in
    let whole : new ≡ old ++ (a ++ rest) = sym (take-append-drop (length mid) new) ∙ ap (λ (l : List ℕ). l ++ rest) (front ∙ is) ∙ append_assoc old a rest in
    ap (λ (l : List ℕ). take (length old) l) whole ∙ take-append_seam old (a ++ rest)

pub appends_then : {X E : Type 0} (r : Result X E) (old mid new a b : List ℕ) → mid ≡ old ++ a → Appends r mid new b → Appends r old new (a ++ b)
appends_then (Ok x) old mid new a b is has = has ∙ ap (λ (l : List ℕ). l ++ b) is ∙ append_assoc old a b
appends_then (Err e) old mid new a b is has = front_then old mid new a is has

-- a field after its zeros: its code and type, and its value
pub pushed_field : {X E : Type 0} (r : Result X E) (order : Order) (old mid ext new : List ℕ) (f : Field) (code byte : ℕ)
    → mid ≡ old ++ zeros (padding 8 (length old)) → ext ≡ mid ++ code ∷ 1 ∷ byte ∷ 0 ∷ [] → code ≡ f.code → basic byte ≡ f.type
    → Appends r ext new (value_bytes order (length ext) f.type f.value) → Appends r old new (field_bytes order (length old) f)
pushed_field r order old mid ext new f code byte first second is_code is_type has =
    let pad = zeros (padding 8 (length old)) in
    let front : (code ∷ 1 ∷ byte ∷ 0 ∷ []) ≡ field_front f = ap (λ (c : ℕ). c ∷ signature_bytes (basic byte)) is_code ∙ ap (λ (t : DataType). f.code ∷ signature_bytes t) is_type in
    let same : ext ≡ mid ++ field_front f = second ∙ ap (λ (l : List ℕ). mid ++ l) front in
    let four : length (field_front f) ≡ 4 = ap (λ (l : List ℕ). length l) (sym front) in
    let place : length ext ≡ field_value_place (length old) f = omega (arith, ap (λ (l : List ℕ). length l) same, length-append mid (field_front f), ap (λ (l : List ℕ). length l) first, length-append old pad, length-zeros (padding 8 (length old))) in
    let here = subst (λ (k : ℕ). Appends r ext new (value_bytes order k f.type f.value)) place has in
    let inner = appends_then r mid ext new (field_front f) (value_bytes order (field_value_place (length old) f) f.type f.value) same here in
    appends_then r old mid new pad (field_front f ++ value_bytes order (field_value_place (length old) f) f.type f.value) first inner

-- what is in front stays there
pub front_kept : (old mid new a : List ℕ) → take (length old) mid ≡ old → new ≡ mid ++ a → take (length old) new ≡ old
front_kept old mid new a front is =
    let rest = drop (length old) mid in
    let whole : new ≡ old ++ (rest ++ a) = is ∙ ap (λ (l : List ℕ). l ++ a) (sym (take-append-drop (length old) mid)) ∙ ap (λ (l : List ℕ). (l ++ rest) ++ a) front ∙ append_assoc old rest a in
    ap (λ (l : List ℕ). take (length old) l) whole ∙ take-append_seam old (rest ++ a)
