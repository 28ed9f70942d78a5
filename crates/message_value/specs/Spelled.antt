-- Values in the bytes that spell them (D-Bus Specification, "Marshaling").
use Rattle.std.specs.Prelude.{◌≡◌, ℕ, ◌+◌, List, ◌++◌, length}
use Rattle.signature.specs.DataType.{DataType, DataTypes}
use Rattle.message_value.specs.declared.order.Order.{Order}
use Rattle.message_value.specs.Value.{Value, Values}
use Rattle.message_value.specs.Spelling.{value_bytes, members_bytes}
use Rattle.message_value.specs.Fits.{ValueFits, MembersFit}
use Rattle.message_value.specs.Reading.{At}

-- These bytes stand between two places.
pub record Between (before : At) (bytes : List ℕ) (after : At) : Type 0 where
  pub parts : before.rest ≡ bytes ++ after.rest
  pub place : after.place ≡ before.place + length bytes
  pub outside : after.outside ≡ before.outside

-- A value that its type has at this place, with this many levels left, and its spelling up to another place.
pub record IsSpelled (levels : ℕ) (order : Order) (type : DataType) (value : Value) (before after : At) : Type 0 where
  pub fits : ValueFits order levels before.place type value
  pub spelled : Between before (value_bytes order before.place type value) after

-- the same of one value of each type
pub record AreSpelled (levels : ℕ) (order : Order) (types : DataTypes) (values : Values) (before after : At) : Type 0 where
  pub fit : MembersFit order levels before.place types values
  pub spelled : Between before (members_bytes order before.place types values) after
