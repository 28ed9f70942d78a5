-- The fixed part as the code reads it: one number after the other.
use Rattle.std.proofs.Common.{◌≡◌, ℕ, ◌+◌, ◌<◌, ◌≤◌, List, [], ◌∷◌, length, get_or, take, drop, Bool, true, false, cond, eqb, Some, None, Ok, refl, sym, ap, ◌∙◌, arith, add-zero, length-drop}
use Rattle.std.specs.Prelude.{slice_index}
use Rattle.std.proofs.lemmas.List.{get_or-drop}
use Rattle.message_value.specs.declared.order.Order.{Order}
use Rattle.message_value.specs.declared.order.Order.TheVariants.{Little, Big}
use Rattle.message_view.specs.declared.fixed.Fixed.{Fixed}
use Rattle.message_value.specs.Order.{order_of, word_of}
use Rattle.message_view.specs.Header.{kind_of}
use Rattle.message_value.specs.Spelling.{padding}
use Rattle.message_view.specs.Fixed.{order_in, word_at, body_len, serial_in, fields_len, whole_len}
use Rattle.message_view.specs.FixedAnswers as answers
use Rattle.message_value.proofs.OkSteps.{some_is}
use Rattle.message_view.proofs.FixedPart.{framing_again}
use Rattle.message_view.proofs.FixedPart as proved

front_four : (bytes : List ℕ) → 4 ≤ length bytes → take 4 bytes ≡ get_or bytes 0 0 ∷ get_or bytes 1 0 ∷ get_or bytes 2 0 ∷ get_or bytes 3 0 ∷ []
front_four [] fits = absurd (omega arith)
front_four (a ∷ []) fits = absurd (omega arith)
front_four (a ∷ b ∷ []) fits = absurd (omega arith)
front_four (a ∷ b ∷ c ∷ []) fits = absurd (omega arith)
front_four (a ∷ b ∷ c ∷ d ∷ bytes) fits = refl

-- the four bytes at a place
four : (bytes : List ℕ) (p : ℕ) → p + 4 ≤ length bytes → take 4 (drop p bytes) ≡ get_or bytes p 0 ∷ get_or bytes (p + 1) 0 ∷ get_or bytes (p + 2) 0 ∷ get_or bytes (p + 3) 0 ∷ []
four bytes p fits =
    let first : get_or (drop p bytes) 0 0 ≡ get_or bytes p 0 = get_or-drop p bytes 0 0 ∙ ap (λ i. get_or bytes i 0) (add-zero p) in
    front_four (drop p bytes) (omega (arith, length-drop p bytes))
    ∙ rw (first, get_or-drop p bytes 1 0, get_or-drop p bytes 2 0, get_or-drop p bytes 3 0) refl

-- the order that the first byte names is the one that is looked at
order_named : (bytes : List ℕ) (order : Order) → order_of (slice_index bytes 0) ≡ Some order → order_in bytes ≡ order
order_named bytes order is = go (eqb (slice_index bytes 0) 108) (eqb (slice_index bytes 0) 66) is
  where
    go : (l b : Bool) → cond l (Some Little) (cond b (Some Big) None) ≡ Some order → cond l Little Big ≡ order
    go true b e = some_is Little order e
    go false true e = some_is Big order e
    go false false e = absurd cc

pub word_read : (bytes : List ℕ) (order : Order) (p : ℕ) → p + 4 ≤ length bytes → order_of (slice_index bytes 0) ≡ Some order
    → word_of order (get_or bytes p 0 ∷ get_or bytes (p + 1) 0 ∷ get_or bytes (p + 2) 0 ∷ get_or bytes (p + 3) 0 ∷ []) ≡ word_at p bytes
word_read bytes order p fits is = rw (order_named bytes order is, four bytes p fits) refl

abbrev long_of : Order → List ℕ → ℕ → ℕ
long_of order bytes p = word_of order (get_or bytes p 0 ∷ get_or bytes (p + 1) 0 ∷ get_or bytes (p + 2) 0 ∷ get_or bytes (p + 3) 0 ∷ [])

-- a fixed part that passes each check
pub fixed_found : (bytes : List ℕ) (fixed : Fixed) → 16 ≤ length bytes → order_of (slice_index bytes 0) ≡ Some fixed.order → kind_of (slice_index bytes 1) ≡ Some fixed.kind → fixed.flags ≡ slice_index bytes 2 → slice_index bytes 3 ≡ 1
    → fixed.body_len ≡ long_of fixed.order bytes 4 → fixed.serial ≡ long_of fixed.order bytes 8 → (fixed.serial ≡ 0 → ⊥) → fixed.fields_len ≡ long_of fixed.order bytes 12 → fixed.fields_len ≤ 67108864 → 16 + fixed.fields_len + padding 8 fixed.fields_len + fixed.body_len ≤ 134217728
    → answers.ReadsFixed (Ok (Some fixed)) bytes
fixed_found bytes fixed long order kind flags version body serial some fields few whole =
    let body_is : fixed.body_len ≡ body_len bytes = body ∙ word_read bytes fixed.order 4 (omega arith) order in
    let serial_is : fixed.serial ≡ serial_in bytes = serial ∙ word_read bytes fixed.order 8 (omega arith) order in
    let fields_is : fixed.fields_len ≡ fields_len bytes = fields ∙ word_read bytes fixed.order 12 (omega arith) order in
    let order_is = order_named bytes fixed.order order in
    let whole_is : 16 + fixed.fields_len + padding 8 fixed.fields_len + fixed.body_len ≡ whole_len bytes = rw (fields_is, body_is) refl in
    let few_is : fields_len bytes ≤ 67108864 = rw fields_is at few in
    let fits : whole_len bytes ≤ 134217728 = rw whole_is at whole in
    let sound : proved.IsFixed bytes = record {
      long = long;
      order = order ∙ ap (λ o. Some o) (sym order_is);
      kind = rw kind refl;
      version = version;
      serial = positive (serial_in bytes) (λ e. some (serial_is ∙ e));
      fields = few_is;
      whole = fits;
    } in (
      framing_again bytes sound,
      record {
        whole = long;
        order = sym order_is;
        kind = kind;
        flags = flags;
        body = body_is;
        serial = serial_is;
        fields = fields_is;
        array_fits = few_is;
        fits = fits;
      },
    )
  where
    positive : (n : ℕ) → (n ≡ 0 → ⊥) → 0 < n
    positive n h = omega arith
