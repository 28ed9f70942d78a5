-- Inner: the bytes of a body and of a message, as a builder writes them.
use Rattle.std.specs.Prelude.{◌≡◌, ℕ, ◌<◌, ◌^◌, List, [], ◌∷◌, ◌++◌, length}
use Rattle.signature.specs.DataType.{DataTypes, SigText}
use Rattle.message_value.specs.declared.order.Order.{Order}
use Rattle.message_value.specs.declared.order.Order.TheVariants.{Little}
use Rattle.message_value.specs.Order.{order_byte, word_bytes}
use Rattle.message_value.specs.Value.{Values}
use Rattle.message_value.specs.Spelling.{padding, zeros, members_bytes}
use Rattle.message_value.specs.Fits.{max_levels, MembersFit}
use Rattle.message_view.specs.Message.{Field}
use Rattle.message_view.specs.Spelling.{fixed_len, fields_bytes}
use Rattle.message_view.specs.Header.{kind_byte}
use Rattle.message_build.specs.declared.header.Header.{Header}

-- bytes that are values of a signature's types, at a place that is a multiple of 8, and whose number has four bytes
pub record BodyOf (types : DataTypes) (values : Values) (signature body : List ℕ) : Type 0 where
  pub typed : SigText types signature
  pub fit : MembersFit Little max_levels 0 types values
  pub spelled : body ≡ members_bytes Little 0 types values
  pub counted : length body < 2 ^ 32

abbrev pub IsBody : List ℕ → List ℕ → Type 0
IsBody signature body = (types : DataTypes) × (values : Values) × BodyOf types values signature body

-- the bytes in front of the fields
abbrev pub fixed_bytes : Order → Header → ℕ → ℕ → List ℕ
fixed_bytes order h fields_len body_len =
    (order_byte order ∷ kind_byte h.kind ∷ h.flags ∷ 1 ∷ []) ++ (word_bytes order body_len ++ (word_bytes order h.serial ++ word_bytes order fields_len))

-- a message of these fields
abbrev pub whole_bytes : Header → List Field → List ℕ → List ℕ
whole_bytes h fields body =
    let all = fields_bytes Little fixed_len fields in
    fixed_bytes Little h (length all) (length body) ++ (all ++ (zeros (padding 8 (length all)) ++ body))
