-- Where the value of an argument lies in an image.
use Rattle.std.proofs.Common.{◌≡◌, ℕ, zero, suc, ◌+◌, false, List, [], ◌∷◌, ◌++◌, length, Option, Some, None, ◌⊎◌, inl, inr, refl, sym, ap, ◌∙◌, arith, subst, slice_get}
use Rattle.std.specs.Prelude.{◌==◌}
use Rattle.std.proofs.lemmas.Bool.{false≢true, true≢false, cases_Bool}
use Rattle.std.proofs.lemmas.List.{append_assoc, length-append}
use Rattle.signature.specs.DataType.{DataType, DataTypes, basic, variant, array, dict, struct, no_types, one_more}
use Rattle.signature.specs.Alignment.{alignment_of}
use Rattle.message_value.specs.declared.order.Order.{Order}
use Rattle.message_value.specs.Order.{order_byte, word_bytes}
use Rattle.message_value.specs.Arguments.{Argument, argument_of, arguments_from}
use Rattle.message_value.specs.Fits.{is_text_code, is_text_of, BareFits, MembersFit, max_levels}
use Rattle.message_value.specs.Spelling.{padding, align_up, zeros, bare_bytes, value_bytes, members_bytes}
use Rattle.message_value.specs.Value.{Value, Values, number, text as text_value, no_values, one_value}
use Rattle.message_value.proofs.WordBytes.{length-word_bytes}
use Rattle.message_value.proofs.ReadItems.{length-zeros}
use Rattle.message_view.specs.Header.{kind_byte}
use Rattle.message_view.specs.Message.{Message}
use Rattle.message_view.specs.Spelling.{body_place, header_bytes, body_bytes, arguments_of, message_bytes}
use Rattle.message_view.specs.Valid.{Valid}
use Rattle.summary.specs.declared.edition.Edition.TheVariants.{Two}
use Rattle.summary.specs.ImageBytes.{image_bytes, summary_bytes}
use Rattle.summary.specs.Shown.{Lies}
use Rattle.filter_compile.specs.Holds.{value_at}
use Rattle.filter_compile.proofs.ImageLength.{image_len}

-- ---- values one after the other

-- the value and its type, and where it lies among bytes that begin at 0
pub record Laid (order : Order) (levels : ℕ) (bytes : List ℕ) (o : Option Argument) (v : Option (DataType × Value)) : Type 0 where
  pub type : DataType
  pub value : Value
  pub start : ℕ
  pub argument : o ≡ Some (argument_of order start type value)
  pub found : v ≡ Some (type, value)
  pub fits : BareFits order levels start type value
  pub before : List ℕ
  pub tail : List ℕ
  pub is : bytes ≡ before ++ (bare_bytes order start type value ++ tail)
  pub at : length before ≡ start

-- an argument is there and lies somewhere, or there is none
abbrev pub AtPlace : Order → ℕ → List ℕ → Option Argument → Option (DataType × Value) → Type 0
AtPlace order levels bytes o v = ((o ≡ None) × (v ≡ None)) ⊎ Laid order levels bytes o v

values_lie : (order : Order) (levels place : ℕ) (ts : DataTypes) (vs : Values) (front : List ℕ) (n : ℕ) → length front ≡ place → MembersFit order levels place ts vs → AtPlace order levels (front ++ members_bytes order place ts vs) (slice_get (arguments_from order place ts vs) n) (value_at n ts vs)
values_lie order levels place (one_more t ts) (one_value v vs) front zero here fits =
    let pad = padding (alignment_of t) place in
    let start : ℕ = align_up (alignment_of t) place in
    let bare : List ℕ = bare_bytes order start t v in
    let rest : List ℕ = members_bytes order (place + length (value_bytes order place t v)) ts vs in
    inr (record {
      type = t;
      value = v;
      start = start;
      argument = refl;
      found = refl;
      fits = fits.0;
      before = front ++ zeros pad;
      tail = rest;
      is = ap (λ (bytes : List ℕ). front ++ bytes) (append_assoc (zeros pad) bare rest) ∙ sym (append_assoc front (zeros pad) (bare ++ rest));
      at = omega (arith, length-append front (zeros pad), length-zeros pad, here);
    })
values_lie order levels place (one_more t ts) (one_value v vs) front (suc n) here fits =
    let first : List ℕ = value_bytes order place t v in
    let rest : List ℕ = members_bytes order (place + length first) ts vs in
    subst (λ (bytes : List ℕ). AtPlace order levels bytes (slice_get (arguments_from order (place + length first) ts vs) n) (value_at n ts vs)) (append_assoc front first rest)
    (values_lie order levels (place + length first) ts vs (front ++ first) n (omega (arith, length-append front first, here)) fits.1)
values_lie order levels place no_types vs front zero here fits = inl (refl, refl)
values_lie order levels place no_types vs front (suc n) here fits = inl (refl, refl)
values_lie order levels place (one_more t ts) no_values front zero here fits = inl (refl, refl)
values_lie order levels place (one_more t ts) no_values front (suc n) here fits = inl (refl, refl)

-- ---- of a message

-- what stands before its body
front_of : Message → List ℕ
front_of m =
    (order_byte m.order ∷ kind_byte m.kind ∷ m.flags ∷ 1 ∷ [])
    ++ (word_bytes m.order (length (body_bytes m))
    ++ (word_bytes m.order m.serial
    ++ (word_bytes m.order (length (header_bytes m))
    ++ (header_bytes m
    ++ zeros (padding 8 (length (header_bytes m)))))))

parts : (a b c d e f g : List ℕ) → a ++ (b ++ (c ++ (d ++ (e ++ (f ++ g))))) ≡ (a ++ (b ++ (c ++ (d ++ (e ++ f))))) ++ g
parts a b c d e f g =
    ap (λ (x : List ℕ). a ++ (b ++ (c ++ (d ++ x)))) (sym (append_assoc e f g))
    ∙ ap (λ (x : List ℕ). a ++ (b ++ (c ++ x))) (sym (append_assoc d (e ++ f) g))
    ∙ ap (λ (x : List ℕ). a ++ (b ++ x)) (sym (append_assoc c (d ++ (e ++ f)) g))
    ∙ ap (λ (x : List ℕ). a ++ x) (sym (append_assoc b (c ++ (d ++ (e ++ f))) g))
    ∙ sym (append_assoc a (b ++ (c ++ (d ++ (e ++ f)))) g)

front_is : (m : Message) → message_bytes m ≡ front_of m ++ body_bytes m
unfolding front_of
front_is m = parts (order_byte m.order ∷ kind_byte m.kind ∷ m.flags ∷ 1 ∷ []) (word_bytes m.order (length (body_bytes m))) (word_bytes m.order m.serial) (word_bytes m.order (length (header_bytes m))) (header_bytes m) (zeros (padding 8 (length (header_bytes m)))) (body_bytes m)

front_len : (m : Message) → length (front_of m) ≡ body_place (length (header_bytes m))
unfolding front_of
front_len m =
    let head : List ℕ = order_byte m.order ∷ kind_byte m.kind ∷ m.flags ∷ 1 ∷ [] in
    let body = word_bytes m.order (length (body_bytes m)) in
    let serial = word_bytes m.order m.serial in
    let len = word_bytes m.order (length (header_bytes m)) in
    let fields = header_bytes m in
    let pad = zeros (padding 8 (length fields)) in
    omega (arith, length-append head (body ++ (serial ++ (len ++ (fields ++ pad)))), length-append body (serial ++ (len ++ (fields ++ pad))), length-append serial (len ++ (fields ++ pad)), length-append len (fields ++ pad), length-append fields pad, length-zeros (padding 8 (length fields)), length-word_bytes m.order (length (body_bytes m)), length-word_bytes m.order m.serial, length-word_bytes m.order (length fields))

-- each argument of a valid message
pub arguments_lie : (bytes : List ℕ) (m : Message) (n : ℕ) → Valid bytes m → AtPlace m.order max_levels (message_bytes m) (slice_get (arguments_of m) n) (value_at n m.types m.arguments)
arguments_lie bytes m n valid =
    subst (λ (bytes : List ℕ). AtPlace m.order max_levels bytes (slice_get (arguments_of m) n) (value_at n m.types m.arguments)) (sym (front_is m))
    (values_lie m.order max_levels (body_place (length (header_bytes m))) m.types m.arguments (front_of m) n (front_len m) valid.arguments)

-- in the image
pub laid_lies : (m : Message) (slots : List ℕ) (order : Order) (levels : ℕ) (o : Option Argument) (v : Option (DataType × Value)) → length slots ≡ 32 → (laid : Laid order levels (message_bytes m) o v) → Lies (image_bytes Two m slots) (976 + laid.start) (bare_bytes order laid.start laid.type laid.value)
laid_lies m slots order levels o v all laid =
    let summary : List ℕ = summary_bytes Two m slots in
    let bare : List ℕ = bare_bytes order laid.start laid.type laid.value in (
      summary ++ laid.before,
      laid.tail,
      ap (λ (bytes : List ℕ). summary ++ bytes) laid.is ∙ sym (append_assoc summary laid.before (bare ++ laid.tail)),
      omega (arith, length-append summary laid.before, length-append summary (message_bytes m), image_len m slots all, laid.at),
    )

-- ---- numbers

-- a code of numbers: none of texts, nor of a variant, an array, a dict or a struct
abbrev pub IsNumberCode : ℕ → Type 0
IsNumberCode code = (is_text_code code ≡ false) × (code ≡ 118 → ⊥) × (code ≡ 97 → ⊥) × (code ≡ 40 → ⊥)

not_text : (c : ℕ) (bytes : List ℕ) → is_text_code c ≡ false → is_text_of c bytes ≡ false
not_text c bytes none = elim (cases_Bool (c == 115)) [
  | inl e ↦ absurd (true≢false (rw e at none))
  | inr a ↦ elim (cases_Bool (c == 111)) [
    | inl e ↦ absurd (true≢false (rw (a, e) at none))
    | inr b ↦ elim (cases_Bool (c == 103)) [
      | inl e ↦ absurd (true≢false (rw (a, b, e) at none))
      | inr d ↦ rw (a, b, d) refl
    ]
  ]
]

-- a value whose argument has the code of a number is one
pub is_number : (order : Order) (levels start : ℕ) (t : DataType) (v : Value) (code : ℕ) → BareFits order levels start t v → (argument_of order start t v).code ≡ code → IsNumberCode code → (bits : ℕ) × ((t ≡ basic code) × (v ≡ number bits))
is_number order levels start (basic c) (number bits) code fits is known = (bits, (ap basic is, refl))
is_number order levels start (basic c) (text_value bytes) code fits is known = absurd (false≢true (sym (not_text c bytes (subst (λ (d : ℕ). is_text_code d ≡ false) (sym is) known.0)) ∙ fits.0))
is_number order levels start (basic c) _ code fits is known = absurd fits
is_number order levels start variant v code fits is known = absurd (known.1 (sym is))
is_number order levels start (array t) v code fits is known = absurd (known.2 (sym is))
is_number order levels start (dict k t) v code fits is known = absurd (known.2 (sym is))
is_number order levels start (struct t ts) v code fits is known = absurd (known.3 (sym is))
