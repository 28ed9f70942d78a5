-- Going over a field: one that is spelled is gone over, and what is gone over has bytes.
use Rattle.std.proofs.Common.{◌≡◌, ℕ, ◌+◌, ◌-◌, ◌<◌, ◌≤◌, List, [], ◌∷◌, ◌++◌, length, take, drop, Ok, Err, refl, sym, ap, ◌∙◌, append_assoc, arith}
use Rattle.std.proofs.lemmas.List.{length-append, take_at, drop_at, drop-drop, length-drop}
use Rattle.message_value.specs.declared.order.Order.{Order}
use Rattle.message_value.specs.declared.error.MsgError.{MsgError}
use Rattle.message_value.specs.Spelling.{padding, align_up, zeros, signature_bytes, value_bytes}
use Rattle.message_value.specs.Fits.{ValueFits}
use Rattle.message_value.specs.Reading.{◌>>=◌, At, aligned_at, byte_at, signature_at, value_at}
use Rattle.message_value.proofs.OkSteps.{bind_ok, ok_is}
use Rattle.message_value.proofs.ReadItems.{at, Takes-leaves, length-zeros, byte_takes, byte_again, aligned_takes, aligned_again}
use Rattle.message_value.proofs.ReadTexts.{signature_takes, signature_again}
use Rattle.message_value.proofs.ReadValues.{value_again}
use Rattle.message_value.proofs.ValueSizes.{value_shorter}
use Rattle.message_view.specs.Message.{Field}
use Rattle.message_view.specs.Spelling.{field_value_place, field_bytes}
use Rattle.message_view.specs.Valid.{IsField}
use Rattle.message_build.specs.declared.kept_fields.Begun.{Begun}
use Rattle.message_build.specs.StampedFields.{IsAfter, LiesAt, begun_at}
use Rattle.message_build.proofs.MovedFields.{field_spelled}

abbrev pub field_start : ℕ → ℕ → Begun
field_start code place = record { code = code; place = place }

again : (order : Order) (field : Field) (place : ℕ) (outside : MsgError) (rest : List ℕ) → IsField order place field
    → begun_at order (at place (field_bytes order place field ++ rest) outside) ≡ Ok (field_start field.code (align_up 8 place), at (place + length (field_bytes order place field)) rest outside)
unfolding begun_at
again order field place outside rest is =
    let skipped = zeros (padding 8 place) in
    let start = align_up 8 place + 1 in
    let sig = signature_bytes field.type in
    let at_value : start + length sig ≡ field_value_place place field = omega arith in
    let shaped : ValueFits order 63 (start + length sig) field.type field.value = rw at_value is.shaped in
    let bytes = value_bytes order (start + length sig) field.type field.value in
    let same : field_bytes order place field ≡ skipped ++ (field.code ∷ (sig ++ bytes)) = ap (λ (k : ℕ). skipped ++ (field.code ∷ (sig ++ value_bytes order k field.type field.value))) (sym at_value) in
    let grouped : field_bytes order place field ++ rest ≡ skipped ++ (field.code ∷ (sig ++ (bytes ++ rest))) = ap (λ (x : List ℕ). x ++ rest) same ∙ append_assoc skipped (field.code ∷ (sig ++ bytes)) rest ∙ ap (λ (x : List ℕ). skipped ++ (field.code ∷ x)) (append_assoc sig bytes rest) in
    let end : start + length sig + length bytes ≡ place + length (field_bytes order place field) = omega (arith, ap (λ (x : List ℕ). length x) same, length-append skipped (field.code ∷ (sig ++ bytes)), length-append sig bytes, length-zeros (padding 8 place)) in
    ap (λ (x : List ℕ). begun_at order (at place x outside)) grouped
    ∙ rw (aligned_again 8 place outside (field.code ∷ (sig ++ (bytes ++ rest))), byte_again (align_up 8 place) field.code outside (sig ++ (bytes ++ rest)), signature_again field.type start outside (bytes ++ rest) is.typed, value_again 63 order field.type (start + length sig) outside field.value rest shaped) (ap (λ (k : ℕ). Ok (field_start field.code (align_up 8 place), at k rest outside)) end)

pub begun_again : (order : Order) (array : List ℕ) (a : At) (field : Field) (more : List ℕ) → LiesAt order array a field more
    → begun_at order a ≡ Ok (field_start field.code (align_up 8 a.place), at (a.place + length (field_bytes order a.place field)) more a.outside)
begun_again order array a field more l =
    ap (λ (x : List ℕ). begun_at order (at a.place x a.outside)) l.rest ∙ again order field a.place a.outside more l.is

pub begun_shorter : (order : Order) (a : At) (found : Begun × At) → begun_at order a ≡ Ok found → length found.1.rest < length a.rest
unfolding begun_at
begun_shorter order a found e =
    let s = bind_ok (aligned_at 8 a) (λ start. byte_at start >>= λ code. signature_at code.1 >>= λ type. value_at 63 order type.0 type.1 >>= λ value. Ok (field_start code.0 start.place, value.1)) found e in
    let c = bind_ok (byte_at s.0) (λ code. signature_at code.1 >>= λ type. value_at 63 order type.0 type.1 >>= λ value. Ok (field_start code.0 s.0.place, value.1)) found s.2 in
    let t = bind_ok (signature_at c.0.1) (λ type. value_at 63 order type.0 type.1 >>= λ value. Ok (field_start c.0.0 s.0.place, value.1)) found c.2 in
    let v = bind_ok (value_at 63 order t.0.0 t.0.1) (λ value. Ok (field_start c.0.0 s.0.place, value.1)) found t.2 in
    let made : Begun × At = (field_start c.0.0 s.0.place, v.0.1) in
    let first = Takes-leaves a (zeros (padding 8 a.place)) s.0 (aligned_takes 8 a s.0 s.1).0 in
    let second = Takes-leaves s.0 (c.0.0 ∷ []) c.0.1 (byte_takes s.0 c.0 c.1).0 in
    let third = Takes-leaves c.0.1 (signature_bytes t.0.0) t.0.1 (signature_takes c.0.1 t.0 t.1).0 in
    let value = value_shorter 63 order t.0.0 t.0.1 v.0 v.1 in
    let same : length v.0.1.rest ≡ length found.1.rest = ap (λ (x : Begun × At). length x.1.rest) {x = made} (ok_is made found v.2) in
    omega (arith, first, second, third, value, same)

-- the bytes of a field in the array
pub field_between : (order : Order) (array : List ℕ) (a : At) (field : Field) (more : List ℕ) → LiesAt order array a field more
    → take (a.place + length (field_bytes order a.place field) - align_up 8 a.place) (drop (align_up 8 a.place) array) ≡ field_bytes order 0 field
field_between order array a field more l =
    let pad = zeros (padding 8 a.place) in
    let bare = field_bytes order 0 field in
    let whole = field_spelled order a.place field in
    let len : a.place + length (field_bytes order a.place field) - align_up 8 a.place ≡ length bare = omega (arith, ap (λ (x : List ℕ). length x) whole, length-append pad bare, length-zeros (padding 8 a.place)) in
    let rest : drop a.place array ≡ pad ++ (bare ++ more) = l.within ∙ l.rest ∙ ap (λ (x : List ℕ). x ++ more) whole ∙ append_assoc pad bare more in
    let tail : drop (align_up 8 a.place) array ≡ bare ++ more = sym (dropped array a.place (padding 8 a.place)) ∙ ap (drop (padding 8 a.place)) rest ∙ drop_at pad (bare ++ more) (padding 8 a.place) (length-zeros (padding 8 a.place)) in
    ap (λ (n : ℕ). take n (drop (align_up 8 a.place) array)) len ∙ ap (take (length bare)) tail ∙ take_at bare more (length bare) refl
  where
    dropped : (xs : List ℕ) (m n : ℕ) → drop n (drop m xs) ≡ drop (m + n) xs
    dropped xs m n = simp drop-drop

-- it lies within the array
pub field_within : (order : Order) (array : List ℕ) (a : At) (field : Field) (more : List ℕ) → LiesAt order array a field more
    → (align_up 8 a.place ≤ a.place + length (field_bytes order a.place field)) × (a.place + length (field_bytes order a.place field) ≤ length array)
field_within order array a field more l =
    let pad = zeros (padding 8 a.place) in
    let bytes = field_bytes order a.place field in
    let bare = field_bytes order 0 field in
    let whole : length bytes ≡ length pad + length bare = ap (λ (x : List ℕ). length x) (field_spelled order a.place field) ∙ length-append pad bare in
    let zeros_len = length-zeros (padding 8 a.place) in
    let long : length (drop a.place array) ≡ length bytes + length more = ap (λ (x : List ℕ). length x) (l.within ∙ l.rest) ∙ length-append bytes more in
    (omega arith, inside array a.place (length bytes + length more) (length bytes) long (omega arith) (omega arith))
  where
    inside : (xs : List ℕ) (p n k : ℕ) → length (drop p xs) ≡ n → k ≤ n → 0 < n → p + k ≤ length xs
    inside xs p n k e le pos = omega (arith, length-drop p xs)

-- a field that was gone over
pub record Went (order : Order) (array : List ℕ) (a : At) (field : Field) (more : List ℕ) (x : Begun) (b : At) : Type 0 where
  pub lies : LiesAt order array a field more
  pub code : x.code ≡ field.code
  pub start : x.place ≡ align_up 8 a.place
  pub tail : IsAfter order a field more b

pub went : (order : Order) (array : List ℕ) (a : At) (field : Field) (more : List ℕ) (x : Begun) (b : At) → LiesAt order array a field more → begun_at order a ≡ Ok (x, b) → Went order array a field more x b
went order array a field more x b l e =
    let y : Begun × At = (field_start field.code (align_up 8 a.place), at (a.place + length (field_bytes order a.place field)) more a.outside) in
    let z : Begun × At = (x, b) in
    let same : z ≡ y = ok_is z y (sym e ∙ begun_again order array a field more l) in
    record {
      lies = l;
      code = ap (λ (r : Begun × At). r.0.code) same;
      start = ap (λ (r : Begun × At). r.0.place) same;
      tail = record { place = ap (λ (r : Begun × At). r.1.place) same; rest = ap (λ (r : Begun × At). r.1.rest) same };
    }

pub went_fits : (order : Order) (array : List ℕ) (a : At) (field : Field) (more : List ℕ) (x : Begun) (b : At) (to : ℕ) → Went order array a field more x b → to ≡ b.place → (x.place ≤ to) × (to ≤ length array)
went_fits order array a field more x b to w is =
    let within = field_within order array a field more w.lies in
    let start = w.start in
    let end = w.tail.place in
    (omega (arith, within.0, start, end), omega (arith, within.1, end))

pub went_between : (order : Order) (array : List ℕ) (a : At) (field : Field) (more : List ℕ) (x : Begun) (b : At) (to : ℕ) → Went order array a field more x b → to ≡ b.place → take (to - x.place) (drop x.place array) ≡ field_bytes order 0 field
went_between order array a field more x b to w is =
    let end = a.place + length (field_bytes order a.place field) in
    let last : to ≡ end = is ∙ w.tail.place in
    ap (λ (n : ℕ). take (n - x.place) (drop x.place array)) last
    ∙ ap (λ (n : ℕ). take (end - n) (drop n array)) w.start
    ∙ field_between order array a field more w.lies

pub went_none : (order : Order) (array : List ℕ) (a : At) (field : Field) (more : List ℕ) (fault : MsgError) → LiesAt order array a field more → begun_at order a ≡ Err fault → ⊥
went_none order array a field more fault l e =
    let no = begun_again order array a field more l in
    cc
