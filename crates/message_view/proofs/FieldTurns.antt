-- Each field takes at least a byte, so that more turns than the array has bytes change nothing.
use Rattle.std.proofs.Common.{◌≡◌, ◌<◌, List, length, Option, Ok, ap, arith}
use Rattle.signature.specs.DataType.{DataType}
use Rattle.message_value.specs.declared.order.Order.{Order}
use Rattle.message_value.specs.Value.{Value}
use Rattle.message_value.specs.Spelling.{signature_bytes}
use Rattle.message_value.specs.Reading.{◌>>=◌, At, signature_at, value_at}
use Rattle.message_value.proofs.OkSteps.{bind_ok, ok_is}
use Rattle.message_value.proofs.ReadItems.{Takes-leaves}
use Rattle.message_value.proofs.ReadTexts.{signature_takes}
use Rattle.message_value.proofs.ValueSizes.{value_shorter}
use Rattle.message_view.specs.declared.field.FieldCode.{FieldCode}
use Rattle.message_view.specs.Header.{code_of}
use Rattle.message_view.specs.Message.{Field}
use Rattle.message_view.specs.Reading.{or_fault, type_fault, known_fault, content_at, code_at, field_at}
use Rattle.message_view.proofs.ReadFields.{or_fault_ok, field_of, code_bytes, code_takes}

content_shorter : (order : Order) (known : Option FieldCode) (a : At) (found : (DataType × Value) × At) → content_at order known a ≡ Ok found → length found.1.rest < length a.rest
unfolding content_at
content_shorter order known a found e =
    let s = bind_ok (signature_at a) (λ type. or_fault (type_fault known type.0) type.1 >>= λ start. value_at 63 order type.0 start >>= λ value. or_fault (known_fault known value.0) ((type.0, value.0), value.1)) found e in
    let type = s.0.0 in
    let t = bind_ok (or_fault (type_fault known type) s.0.1) (λ start. value_at 63 order type start >>= λ value. or_fault (known_fault known value.0) ((type, value.0), value.1)) found s.2 in
    let g = or_fault_ok (type_fault known type) s.0.1 t.0 t.1 in
    let v = bind_ok (value_at 63 order type t.0) (λ value. or_fault (known_fault known value.0) ((type, value.0), value.1)) found t.2 in
    let made : (DataType × Value) × At = ((type, v.0.0), v.0.1) in
    let h = or_fault_ok (known_fault known v.0.0) made found v.2 in
    let front = Takes-leaves a (signature_bytes type) s.0.1 (signature_takes a s.0 s.1).0 in
    let start : length s.0.1.rest ≡ length t.0.rest = ap (λ (x : At). length x.rest) g.1 in
    let value = value_shorter 63 order type t.0 v.0 v.1 in
    let same : length v.0.1.rest ≡ length found.1.rest = ap (λ (x : (DataType × Value) × At). length x.1.rest) {x = made} h.1 in
    omega (arith, front, start, value, same)

-- a field leaves fewer bytes
pub field_shorter : (order : Order) (front : List Field) (a : At) (found : Field × At) → field_at order front a ≡ Ok found → length found.1.rest < length a.rest
unfolding field_at
field_shorter order front a found e =
    let c = bind_ok (code_at front a) (λ code. content_at order (code_of code.0) code.1 >>= λ content. Ok (field_of code.0 content.0.0 content.0.1, content.1)) found e in
    let v = bind_ok (content_at order (code_of c.0.0) c.0.1) (λ content. Ok (field_of c.0.0 content.0.0 content.0.1, content.1)) found c.2 in
    let made : Field × At = (field_of c.0.0 v.0.0.0 v.0.0.1, v.0.1) in
    let code = Takes-leaves a (code_bytes a.place c.0.0) c.0.1 (code_takes front a c.0 c.1).0 in
    let content = content_shorter order (code_of c.0.0) c.0.1 v.0 v.1 in
    let same : length v.0.1.rest ≡ length found.1.rest = ap (λ (x : Field × At). length x.1.rest) {x = made} (ok_is made found v.2) in
    omega (arith, code, content, same)
