use Rattle.std.proofs.Common.{◌≡◌, ◌+◌, ◌∙◌, ℕ, [], ◌∷◌, length, ap}
use Rattle.std.specs.Int.{w32, to_be_bytes}
use Rattle.message_value.specs.Order.{order_byte}
use Rattle.message_value.specs.declared.order.Order.{Order}
use Rattle.message_view.specs.declared.kind.Kind.{Kind}
use Rattle.message_view.specs.Header.{kind_byte}
use Rattle.message_view.specs.Spelling.{body_place, header_bytes, body_bytes}
use Rattle.summary.specs.Layout.{summary_len}
use Rattle.summary.proofs.WordLists.{head_written}
use Rattle.summary.proofs.BodyPlaces.{body_after}
use Rattle.summary.proofs.parts.put_head.Goals as goal

pub returns-clause-bytes : goal.returns-clause-bytes
returns-clause-bytes c = λ m valid.
    let order : c.from.result ≡ order_byte m.order = c.from.ensures ∙ c.order_byte.ensures ∙ ap (λ (o : Order). order_byte o) (c.order.ensures m valid) in
    let kind : c.from-2.result ≡ kind_byte m.kind = c.from-2.ensures ∙ c.byte.ensures ∙ ap (λ (k : Kind). kind_byte k) (c.kind.ensures m valid) in
    let flags : c.from-3.result ≡ m.flags = c.from-3.ensures ∙ c.flags.ensures m valid in
    let body = c.body-len.ensures m valid in
    let end = body_after c.raw.result.now c.body-len.result.now c.args.view.now m valid c.raw.ensures.value body in
    let place = c.place_in_image.ensures ∙ ap (λ (p : ℕ). to_be_bytes w32 (summary_len c.args.edition + p)) end in
    head_written c.args.words.now c.put.new.self c.put-2.new.self c.put-3.new.self c.put-4.new.self c.put-5.new.self c.put_zeros.new.self (0 ∷ []) c.from.result c.from-2.result c.from-3.result c.place_in_image.result (length c.body-len.result.now) (order_byte m.order) (kind_byte m.kind) m.flags (summary_len c.args.edition + body_place (length (header_bytes m))) (length (body_bytes m)) c.put.ensures c.put-2.ensures c.put-3.ensures c.put-4.ensures c.put-5.ensures c.put_zeros.ensures order kind flags place (ap length body)
