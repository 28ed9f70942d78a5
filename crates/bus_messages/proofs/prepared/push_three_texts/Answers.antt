use Rattle.std.proofs.Common.{[], ◌∷◌, length, sym}
use Rattle.std.proofs.lemmas.List.{append-nil}
use Rattle.message_value.proofs.MovedValues.{Alike}
use Rattle.bus_messages.specs.Prepared.{texts_after}
use Rattle.bus_messages.proofs.PreparedMessages.{text_after}
use Rattle.bus_messages.proofs.prepared.push_three_texts.Goals as goal

pub returns : goal.returns
returns c =
    let front = c.args.bytes.now.items in
    let a = c.args.first.now in
    let b = c.args.second.now in
    let alike : Alike (length front) 0 = record { is = c.requires.aligned } in
    let one = text_after front [] front c.push_text.new.bytes.items a alike (sym (append-nil front)) c.in_ok-push_text.ensures in
    let two = text_after front (texts_after [] (a ∷ [])) c.push_text.new.bytes.items c.push_text-2.new.bytes.items b alike one c.in_ok-push_text-2.ensures in
    text_after front (texts_after [] (a ∷ b ∷ [])) c.push_text-2.new.bytes.items c.push_text-3.new.bytes.items c.args.third.now alike two c.in_ok-push_text-3.ensures
