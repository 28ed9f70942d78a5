use Rattle.std.proofs.Common.{◌≡◌, ℕ, List, [], ◌∷◌, ◌++◌, ap, ◌∙◌}
use Rattle.message_value.specs.Order.{order_byte, word_bytes}
use Rattle.message_view.specs.Header.{kind_byte}
use Rattle.message_build.proofs.Appended.{appends_then}
use Rattle.message_build.proofs.message.push_fixed.Goals as goal

pub returns : goal.returns
returns c =
    let r = c.push_word-3.result in
    let old = c.args.bytes.now.items in
    let new = c.push_word-3.new.bytes.items in
    let kind = kind_byte c.args.header.now.kind in
    let front : List ℕ = order_byte c.args.order ∷ kind ∷ c.args.header.now.flags ∷ 1 ∷ [] in
    let first : c.extend_from_slice.new.self.items ≡ old ++ front = c.in_ok-extend_from_slice.ensures.items ∙ ap (λ (k : ℕ). old ++ k ∷ c.byte.result ∷ c.args.header.now.flags ∷ 1 ∷ []) c.order_byte.ensures ∙ ap (λ (k : ℕ). old ++ order_byte c.args.order ∷ k ∷ c.args.header.now.flags ∷ 1 ∷ []) c.byte.ensures in
    let body = word_bytes c.args.order c.args.body_len in
    let serial = word_bytes c.args.order c.args.header.now.serial in
    let fields = word_bytes c.args.order c.args.fields_len in
    appends_then r old c.extend_from_slice.new.self.items new front (body ++ (serial ++ fields)) first
    (appends_then r c.extend_from_slice.new.self.items c.push_word.new.bytes.items new body (serial ++ fields) c.in_ok-push_word.ensures
    (appends_then r c.push_word.new.bytes.items c.push_word-2.new.bytes.items new serial fields c.in_ok-push_word-2.ensures c.push_word-3.ensures))
