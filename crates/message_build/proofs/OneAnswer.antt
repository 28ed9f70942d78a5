-- What was asked for has one answer.
use Rattle.std.proofs.Common.{◌≡◌, ℕ, ◌<◌, ◌≤◌, List, [], ◌∷◌, ◌++◌, length, Ok, Err, inl, inr, refl, sym, ap, subst, ◌∙◌, arith}
use Rattle.std.specs.Prelude.{◌≢◌, ◌↔◌, Result}
use Rattle.signature.specs.DataType.{DataTypes}
use Rattle.message_value.specs.declared.order.Order.TheVariants.{Little}
use Rattle.message_value.specs.Order.{word_bytes}
use Rattle.message_value.specs.Value.{Values}
use Rattle.message_value.specs.Spelling.{padding, zeros, members_bytes}
use Rattle.message_value.specs.Fits.{max_array_len}
use Rattle.message_value.proofs.MovedValues.{members_moved}
use Rattle.message_view.specs.Header.{kind_byte}
use Rattle.message_view.specs.Message.{Message}
use Rattle.message_view.specs.Spelling.{fixed_len, fields_bytes, header_bytes, body_bytes, body_place, message_bytes}
use Rattle.message_view.specs.Valid.{Valid, max_message_len}
use Rattle.message_view.proofs.PartPlaces.{length-laid}
use Rattle.message_build.specs.Asked.{Asked, Asks, fields_asked}
use Rattle.message_build.specs.Building.{IsTooLarge, IsValidButForSize, Finishes}
use Rattle.message_build.specs.declared.error.BuildError.{BuildError}
use Rattle.message_build.specs.declared.error.BuildError.TheVariants.{Invalid, TooLarge, NoMemory}
use Rattle.message_build.proofs.MessageLaws.{same_message, body_alike, sized}

-- ---- validity, and size

-- the body is a part of the message
body_within : (m : Message) → length (body_bytes m) ≤ length (message_bytes m)
body_within m = omega (arith, length-laid m.order (kind_byte m.kind) m.flags m.serial (header_bytes m) (body_bytes m))

valid_sound : (bytes : List ℕ) (m : Message) → Valid bytes m → IsValidButForSize m
valid_sound bytes m v =
    let whole : length bytes ≡ length (message_bytes m) = ap (λ (l : List ℕ). length l) v.spelled in
    let fits : length bytes ≤ max_message_len = v.fits in
    let within = body_within m in
    record {
      kind = v.kind;
      kind_fits = v.kind_fits;
      flags = v.flags;
      serial = v.serial;
      serial_fits = v.serial_fits;
      fields = v.fields;
      required = v.required;
      types = v.types;
      arguments = v.arguments;
      counted = omega arith;
    }

-- what is valid is within the limits
valid_within : (bytes : List ℕ) (m : Message) → Valid bytes m → IsTooLarge m → ⊥
valid_within bytes m v (inl long) = let fits : length (header_bytes m) ≤ max_array_len = v.fields_fit in absurd (omega arith)
valid_within bytes m v (inr long) =
    let whole : length bytes ≡ length (message_bytes m) = ap (λ (l : List ℕ). length l) v.spelled in
    let fits : length bytes ≤ max_message_len = v.fits in
    absurd (omega arith)

pub valid_at_its_size : (bytes : List ℕ) (m : Message) → (Valid bytes m) ↔ (IsValidButForSize m × (IsTooLarge m → ⊥) × (bytes ≡ message_bytes m))
valid_at_its_size bytes m = (there, back)
  where
    there : Valid bytes m → IsValidButForSize m × (IsTooLarge m → ⊥) × (bytes ≡ message_bytes m)
    there v = (valid_sound bytes m v, valid_within bytes m v, v.spelled)

    back : IsValidButForSize m × (IsTooLarge m → ⊥) × (bytes ≡ message_bytes m) → Valid bytes m
    back s =
        let short : length (header_bytes m) ≤ max_array_len = not_above max_array_len (length (header_bytes m)) (λ long. s.1 (inl long)) in
        let fits : length (message_bytes m) ≤ max_message_len = not_above max_message_len (length (message_bytes m)) (λ long. s.1 (inr long)) in
        subst (λ (b : List ℕ). Valid b m) (sym s.2) (sized m s.0 short fits)
      where
        not_above : (a b : ℕ) → (a < b → ⊥) → b ≤ a
        not_above a b h = omega arith

-- ---- what was asked for has one spelling

abbrev the : Asked → DataTypes → Values → Message
the a types arguments = record { order = Little; kind = a.kind; flags = a.flags; serial = a.serial; fields = fields_asked a; types = types; arguments = arguments }

is_the : (a : Asked) (m : Message) → Asks a m → m ≡ the a m.types m.arguments
is_the a m asks = same_message m.order Little m.kind a.kind m.flags a.flags m.serial a.serial m.fields (fields_asked a) m.types m.arguments asks.order asks.kind asks.flags asks.serial asks.fields

abbrev array_asked : Asked → List ℕ
array_asked a = fields_bytes Little fixed_len (fields_asked a)

abbrev bytes_asked : Asked → List ℕ
bytes_asked a =
    (108 ∷ kind_byte a.kind ∷ a.flags ∷ 1 ∷ [])
    ++ (word_bytes Little (length a.body) ++ (word_bytes Little a.serial ++ (word_bytes Little (length (array_asked a)) ++ (array_asked a ++ (zeros (padding 8 (length (array_asked a))) ++ a.body)))))

array_is : (a : Asked) (m : Message) → Asks a m → header_bytes m ≡ array_asked a
array_is a m asks = ap (λ (x : Message). header_bytes x) (is_the a m asks)

bytes_are : (a : Asked) (m : Message) → Asks a m → message_bytes m ≡ bytes_asked a
bytes_are a m asks =
    let n = length (array_asked a) in
    let body : members_bytes Little (body_place n) m.types m.arguments ≡ a.body = members_moved Little (body_place n) 0 (body_alike n) m.types m.arguments ∙ sym asks.arguments in
    ap (λ (x : Message). message_bytes x) (is_the a m asks)
    ∙ ap (λ (b : List ℕ). (108 ∷ kind_byte a.kind ∷ a.flags ∷ 1 ∷ []) ++ (word_bytes Little (length b) ++ (word_bytes Little a.serial ++ (word_bytes Little n ++ (array_asked a ++ (zeros (padding 8 n) ++ b)))))) body

-- another message that was asked for is as large
too_large_too : (a : Asked) (m n : Message) → Asks a m → Asks a n → IsTooLarge m → IsTooLarge n
too_large_too a m n first other (inl long) = inl (subst (λ (l : List ℕ). max_array_len < length l) (array_is a m first ∙ sym (array_is a n other)) long)
too_large_too a m n first other (inr long) = inr (subst (λ (l : List ℕ). max_message_len < length l) (bytes_are a m first ∙ sym (bytes_are a n other)) long)

-- ---- one answer

pub one_answer : (a : Asked) (first other : Result (List ℕ) BuildError) → Finishes a first → Finishes a other → first ≢ Err NoMemory → other ≢ Err NoMemory → first ≡ other
one_answer a (Ok x) (Ok y) f o p q = ap (λ (l : List ℕ). Ok l) (f.2.spelled ∙ bytes_are a f.0 f.1 ∙ sym (bytes_are a o.0 o.1) ∙ sym o.2.spelled)
one_answer a (Ok x) (Err Invalid) f o p q = absurd (o f.0 f.1 (valid_sound x f.0 f.2))
one_answer a (Ok x) (Err TooLarge) f o p q = absurd (valid_within x f.0 f.2 (too_large_too a o.0 f.0 o.1 f.1 o.3))
one_answer a (Err Invalid) (Ok y) f o p q = absurd (f o.0 o.1 (valid_sound y o.0 o.2))
one_answer a (Err Invalid) (Err Invalid) f o p q = refl
one_answer a (Err Invalid) (Err TooLarge) f o p q = absurd (f o.0 o.1 o.2)
one_answer a (Err TooLarge) (Ok y) f o p q = absurd (valid_within y o.0 o.2 (too_large_too a f.0 o.0 f.1 o.1 f.3))
one_answer a (Err TooLarge) (Err Invalid) f o p q = absurd (o f.0 f.1 f.2)
one_answer a (Err TooLarge) (Err TooLarge) f o p q = refl
one_answer a (Err NoMemory) other f o p q = absurd (p refl)
one_answer a first (Err NoMemory) f o p q = absurd (q refl)
