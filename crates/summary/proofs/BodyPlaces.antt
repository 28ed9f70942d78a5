-- Where the body of a message lies in its bytes.
use Rattle.std.proofs.Common.{◌≡◌, ℕ, ◌-◌, ◌∙◌, ap, List, length, arith}
use Rattle.message_view.specs.Header.{kind_byte}
use Rattle.message_view.specs.Message.{Message}
use Rattle.message_view.specs.Spelling.{body_place, header_bytes, body_bytes}
use Rattle.message_view.specs.Valid.{Valid}
use Rattle.message_view.proofs.PartPlaces.{length-laid}

pub body_after : (bytes body now : List ℕ) (m : Message) → Valid now m → bytes ≡ now → body ≡ body_bytes m → length bytes - length body ≡ body_place (length (header_bytes m))
body_after bytes body now m valid is is_body =
    let whole = ap length is ∙ ap length valid.spelled ∙ length-laid m.order (kind_byte m.kind) m.flags m.serial (header_bytes m) (body_bytes m) in
    let len = ap length is_body in
    omega (arith, whole, len)
