-- Reading gives values exactly where bytes spell them.
use Rattle.std.proofs.Common.{◌≡◌, ℕ, ◌+◌, List, ◌++◌, length, Ok, ap, sym, ◌∙◌}
use Rattle.std.specs.Prelude.{◌↔◌}
use Rattle.signature.specs.DataType.{DataType, DataTypes}
use Rattle.message_value.specs.declared.order.Order.{Order}
use Rattle.message_value.specs.declared.error.MsgError.{MsgError}
use Rattle.message_value.specs.Value.{Value, Values}
use Rattle.message_value.specs.Spelling.{value_bytes, members_bytes}
use Rattle.message_value.specs.Reading.{At, value_at, members_at}
use Rattle.message_value.specs.Spelled.{Between, IsSpelled, AreSpelled}
use Rattle.message_value.proofs.WordBytes.{IsBytes}
use Rattle.message_value.proofs.ReadItems.{at, Takes}
use Rattle.message_value.proofs.ReadValues.{value_takes, value_again, members_takes, members_again}

between : (before after : At) (bytes : List ℕ) → Takes before bytes after → Between before bytes after
between before after bytes t = record { parts = t.parts; place = t.place; outside = t.outside }

-- the place before bytes, by the place after them
begins : (before after : At) (bytes : List ℕ) → Between before bytes after → before ≡ at before.place (bytes ++ after.rest) before.outside
begins before after bytes b = ap (λ (rest : List ℕ). at before.place rest before.outside) b.parts

ends : (before after : At) (bytes : List ℕ) → Between before bytes after → at (before.place + length bytes) after.rest before.outside ≡ after
ends before after bytes b =
    ap (λ (place : ℕ). at place after.rest before.outside) (sym b.place)
    ∙ ap (λ (outside : MsgError). at after.place after.rest outside) (sym b.outside)

pub value_reading : (levels : ℕ) (order : Order) (type : DataType) (value : Value) (before after : At) → IsBytes before.rest
    → (value_at levels order type before ≡ Ok (value, after)) ↔ IsSpelled levels order type value before after
value_reading levels order type value before after bytes = (read, again)
  where
    read : value_at levels order type before ≡ Ok (value, after) → IsSpelled levels order type value before after
    read e =
        let t = value_takes levels order type before (value, after) bytes e in
        record { fits = t.1; spelled = between before after (value_bytes order before.place type value) t.0 }

    again : IsSpelled levels order type value before after → value_at levels order type before ≡ Ok (value, after)
    again s =
        let spelling = value_bytes order before.place type value in
        ap (λ (a : At). value_at levels order type a) (begins before after spelling s.spelled)
        ∙ value_again levels order type before.place before.outside value after.rest s.fits
        ∙ ap (λ (a : At). Ok (value, a)) (ends before after spelling s.spelled)

pub members_reading : (levels : ℕ) (order : Order) (types : DataTypes) (values : Values) (before after : At) → IsBytes before.rest
    → (members_at (value_at levels order) types before ≡ Ok (values, after)) ↔ AreSpelled levels order types values before after
members_reading levels order types values before after bytes = (read, again)
  where
    read : members_at (value_at levels order) types before ≡ Ok (values, after) → AreSpelled levels order types values before after
    read e =
        let t = members_takes levels order types before (values, after) bytes e in
        record { fit = t.1; spelled = between before after (members_bytes order before.place types values) t.0 }

    again : AreSpelled levels order types values before after → members_at (value_at levels order) types before ≡ Ok (values, after)
    again s =
        let spelling = members_bytes order before.place types values in
        ap (λ (a : At). members_at (value_at levels order) types a) (begins before after spelling s.spelled)
        ∙ members_again levels order types before.place before.outside values after.rest s.fit
        ∙ ap (λ (a : At). Ok (values, a)) (ends before after spelling s.spelled)
