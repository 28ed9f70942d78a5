use Rattle.std.proofs.Common.{◌≡◌, true, List, refl, sym, ap, ◌∙◌, arith}
use Rattle.message_view.specs.Message.{Field}
use Rattle.message_build.specs.MessageBytes.{whole_bytes}
use Rattle.message_build.specs.Headers.{fields_set, is_sound_header}
use Rattle.message_build.specs.HeaderFields.{are_allowed}
use Rattle.message_build.proofs.MessageLaws.{header_refused, fields_refused, body_refused, asked_sound, fields_above, fields_end_is, fields_too_large, message_too_large, built_valid, no_memory}
use Rattle.message_build.proofs.message.build_message.Goals as goal

pub returns-then-not-is_sound : goal.returns-then-not-is_sound
returns-then-not-is_sound c = header_refused c.args.header.now c.args.signature.now c.args.body.now c.args.body_state (sym c.if-not-is_sound.ensures.sound)

pub returns-then-not-are_allowed : goal.returns-then-not-are_allowed
returns-then-not-are_allowed c = fields_refused c.args.header.now c.args.signature.now c.args.body.now c.args.body_state c.fields-fields.result c.fields-fields.ensures.fields (sym c.if-not-are_allowed.ensures)

pub returns-then-not-is_body : goal.returns-then-not-is_body
returns-then-not-is_body c = body_refused c.args.header.now c.args.signature.now c.args.body.now c.args.body_state (c.is_body.ensures.no c.if-not-is_body.true)

pub returns-in_default : goal.returns-in_default
returns-in_default c =
    let fields = c.fields-fields.ensures.fields in
    let sound : is_sound_header c.args.header.now ≡ true = sym c.if-not-is_sound.ensures.sound in
    let allowed : are_allowed c.fields-fields.result ≡ true = sym c.if-not-are_allowed.ensures in
    let request_of = asked_sound c.args.header.now c.args.signature.now c.args.body.now c.args.body_state c.fields-fields.result fields c.is_sound.ensures.in_range c.fields-fields.ensures.hold (sym c.if-is_spoiled.ensures) sound allowed (c.is_body.ensures.yes c.if-not-is_body.false) in
    let long = fields_above fields c.in_default.ensures in
    fields_too_large c.args.header.now c.args.signature.now c.args.body.now c.args.body_state request_of long

pub returns-then-body-end : goal.returns-then-body-end
returns-then-body-end c =
    let fields = c.fields-fields.ensures.fields in
    let sound : is_sound_header c.args.header.now ≡ true = sym c.if-not-is_sound.ensures.sound in
    let allowed : are_allowed c.fields-fields.result ≡ true = sym c.if-not-are_allowed.ensures in
    let request_of = asked_sound c.args.header.now c.args.signature.now c.args.body.now c.args.body_state c.fields-fields.result fields c.is_sound.ensures.in_range c.fields-fields.ensures.hold (sym c.if-is_spoiled.ensures) sound allowed (c.is_body.ensures.yes c.if-not-is_body.false) in
    let pad = c.padding.ensures in
    message_too_large c.args.header.now c.args.signature.now c.args.body.now c.args.body_state c.in-Some.end request_of (fields_end_is fields c.in-Some.ensures.0) (omega arith)

pub returns-in_err-message : goal.returns-in_err-message
returns-in_err-message c =
    let fields = c.fields-fields.ensures.fields in
    let sound : is_sound_header c.args.header.now ≡ true = sym c.if-not-is_sound.ensures.sound in
    let allowed : are_allowed c.fields-fields.result ≡ true = sym c.if-not-are_allowed.ensures in
    let request_of = asked_sound c.args.header.now c.args.signature.now c.args.body.now c.args.body_state c.fields-fields.result fields c.is_sound.ensures.in_range c.fields-fields.ensures.hold (sym c.if-is_spoiled.ensures) sound allowed (c.is_body.ensures.yes c.if-not-is_body.false) in
    let pad = c.padding.ensures in
    let bytes = whole_bytes c.args.header.now (fields_set c.args.header.now c.args.signature.now) c.args.body.now in
    let valid = built_valid c.args.header.now c.args.signature.now c.args.body.now c.args.body_state c.in-Some.end bytes request_of (fields_end_is fields c.in-Some.ensures.0) c.in-Some.ensures.1 (omega arith) refl in
    no_memory _ c.from_residual.result c.from_residual.ensures.1 (bytes, valid)

pub returns : goal.returns
returns c =
    let fields = c.fields-fields.ensures.fields in
    let sound : is_sound_header c.args.header.now ≡ true = sym c.if-not-is_sound.ensures.sound in
    let allowed : are_allowed c.fields-fields.result ≡ true = sym c.if-not-are_allowed.ensures in
    let request_of = asked_sound c.args.header.now c.args.signature.now c.args.body.now c.args.body_state c.fields-fields.result fields c.is_sound.ensures.in_range c.fields-fields.ensures.hold (sym c.if-is_spoiled.ensures) sound allowed (c.is_body.ensures.yes c.if-not-is_body.false) in
    let pad = c.padding.ensures in
    let spelt = c.in_ok-message.ensures ∙ ap (λ (fs : List Field). whole_bytes c.args.header.now fs c.args.body.now) fields in
    built_valid c.args.header.now c.args.signature.now c.args.body.now c.args.body_state c.in-Some.end c.in_ok-message.field-0.items request_of (fields_end_is fields c.in-Some.ensures.0) c.in-Some.ensures.1 (omega arith) spelt
