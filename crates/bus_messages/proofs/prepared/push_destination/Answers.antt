use Rattle.std.proofs.Common.{ℕ, ◌+◌, List, [], ◌∷◌, ◌++◌, length, sym, ap, subst, ◌∙◌}
use Rattle.std.specs.Prelude.{option_map}
use Rattle.message_value.specs.declared.order.Order.TheVariants.{Little}
use Rattle.message_value.specs.Order.{word_bytes}
use Rattle.message_value.specs.Spelling.{padding, zeros}
use Rattle.message_build.specs.Growing.{Appends}
use Rattle.message_build.proofs.Appended.{appends_then}
use Rattle.bus_messages.specs.Prepared.{destination_bytes}
use Rattle.bus_messages.proofs.PreparedMessages.{destination_spelled}
use Rattle.bus_messages.proofs.prepared.push_destination.Goals as goal

pub returns : goal.returns
returns c =
    let r = c.push_zeros.result in
    let old = c.args.bytes.now.items in
    let new = c.push_zeros.new.bytes.items in
    let name = c.in-Some.name.now in
    let head : List ℕ = 6 ∷ 1 ∷ 115 ∷ 0 ∷ [] in
    let word = word_bytes Little (length name) in
    let last = zeros (1 + padding 8 (8 + length name + 1)) in
    let all : Appends r old new (head ++ (word ++ (name ++ last))) =
    appends_then r old c.extend_from_slice.new.self.items new head (word ++ (name ++ last)) c.in_ok-extend_from_slice.ensures.items
    (appends_then r c.extend_from_slice.new.self.items c.push_word.new.bytes.items new word (name ++ last) c.in_ok-push_word.ensures
    (appends_then r c.push_word.new.bytes.items c.extend_from_slice-2.new.self.items new name last (c.in_ok-extend_from_slice-2.ensures.items ∙ ap (λ (l : List ℕ). c.push_word.new.bytes.items ++ l) c.as_bytes.ensures.value) (subst (λ (n : ℕ). Appends r c.extend_from_slice-2.new.self.items new (zeros (1 + n))) c.padding.ensures c.push_zeros.ensures))) in
    subst (λ (l : List ℕ). Appends r old new l) (destination_spelled name ∙ ap (λ t. destination_bytes (option_map (λ n. n.now) t)) (sym c.in-Some.is)) all
