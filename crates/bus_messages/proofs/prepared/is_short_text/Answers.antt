use Rattle.std.proofs.Common.{◌≡◌, Bool, true, List, ℕ, sym, ap, ◌∙◌}
use Rattle.std.specs.Prelude.{not, ◌==◌}
use Rattle.std.specs.List.{list_any}
use Rattle.std.specs.Str.{is_utf8}
use Rattle.std.proofs.lemmas.Bool.{and_from}
use Rattle.std.proofs.lemmas.Str.{is_utf8-from_IsUtf8}
use Rattle.bus_messages.proofs.prepared.is_short_text.Goals as goal

pub returns-then-text-le-MAX_TEXT_LEN : goal.returns-then-text-le-MAX_TEXT_LEN
returns-then-text-le-MAX_TEXT_LEN c found =
    let bytes = c.args.text.now in
    let none : not (list_any (λ byte. byte == 0) bytes) ≡ true = sym (ap (λ (b : Bool). not b) (c.contains.ensures.value ∙ ap (λ (l : List ℕ). list_any (λ byte. byte == 0) l) c.as_bytes.ensures.value)) ∙ found in
    record { plain = and_from (is_utf8 bytes) (not (list_any (λ byte. byte == 0) bytes)) (is_utf8-from_IsUtf8 bytes c.utf8.text) none; short = c.if-text-le-MAX_TEXT_LEN.true }
