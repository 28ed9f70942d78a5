use Rattle.std.proofs.Common.{◌≡◌, refl, rules}
use Rattle.std.specs.String.{string_bytes}
use Rattle.std.specs.Str.{is_utf8}
use Rattle.std.proofs.lemmas.Bool.{false_from_ne_true}
use Rattle.std.proofs.lemmas.Str.{IsUtf8-from_is_utf8, is_utf8-from_IsUtf8, IsUtf8-string_bytes}
use Rattle.filter.proofs.value.text_value.Goals as goal

-- bytes that aren't UTF-8 are no text
pub returns-in_default : goal.returns-in_default
returns-in_default c =
    let bytes = c.args.bytes.items in
    rw (false_from_ne_true (is_utf8 bytes) (λ is. let ok = c.in_default.ensures.succeeds (IsUtf8-from_is_utf8 bytes is) in absurd cc)) refl

pub returns : goal.returns
returns c =
    let text = string_bytes c.in-Ok.text in
    let same : text ≡ c.args.bytes.items = let ok = c.in-Ok.ensures.ok in search (rules, ok) in
    rw (c.new.ensures, ← same, is_utf8-from_IsUtf8 text (IsUtf8-string_bytes c.in-Ok.text)) refl
