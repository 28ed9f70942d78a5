-- Values without escapes are themselves, and no digit ends a value.
use Rattle.std.proofs.Common.{◌≡◌, ◌∙◌, ◌≤◌, ap, true, false, ℕ, List, [], ◌∷◌, refl, arith}
use Rattle.std.specs.Prelude.{Some, ◌==◌}
use Rattle.std.specs.List.{list_any}
use Rattle.std.specs.Str.Parse.{AllDigits}
use Rattle.std.proofs.lemmas.Bool.{or_parts, or_from, eqb-false, ne_eqb}
use Rattle.std.proofs.lemmas.Str.Parse.{digit_from_value}
use Rattle.percent_encoding.specs.Percent.{percent_decode}
use Rattle.percent_encoding.proofs.PercentLemmas.{percent_decode-nil, percent_decode_not_percent}
use Rattle.endpoints.specs.declared.escapes.Awaited.TheVariants.{AnyByte}
use Rattle.endpoints.specs.Escapes.{whole_from}
use Rattle.endpoints.specs.Address.{IsPlain, IsValue, is_special, ends_value}

-- a byte that is not special ends no value, and is no `%`
other_byte : (b : ℕ) → is_special b ≡ false → (ends_value b ≡ false) × (b == 37 ≡ false)
other_byte b e = or_parts (ends_value b) (b == 37) e

no_end : (v : List ℕ) → list_any is_special v ≡ false → list_any ends_value v ≡ false
no_end [] e = refl
no_end (b ∷ bs) e =
    let parts = or_parts (is_special b) (list_any is_special bs) e in
    or_from (ends_value b) (list_any ends_value bs) (other_byte b parts.0).0 (no_end bs parts.1)

whole : (v : List ℕ) → list_any is_special v ≡ false → whole_from (Some AnyByte) v ≡ true
whole [] e = refl
whole (b ∷ bs) e =
    let parts = or_parts (is_special b) (list_any is_special bs) e in
    rw ((other_byte b parts.0).1, whole_from) (whole bs parts.1)

-- a value without special bytes stands for itself
pub plain_decodes : (v : List ℕ) → list_any is_special v ≡ false → percent_decode v ≡ v
plain_decodes [] e = percent_decode-nil
plain_decodes (b ∷ bs) e =
    let parts = or_parts (is_special b) (list_any is_special bs) e in
    percent_decode_not_percent b bs (eqb-false b 37 (other_byte b parts.0).1) ∙ ap (λ rest. b ∷ rest) (plain_decodes bs parts.1)

pub plain_is_value : (v : List ℕ) → IsPlain v → IsValue v
plain_is_value v (some, plain) = (some, no_end v plain, whole v plain)

digit_ends_nothing : (b : ℕ) → 48 ≤ b → b ≤ 57 → ends_value b ≡ false
digit_ends_nothing b low high = or_from (b == 44) (b == 59) (ne_eqb b 44 (λ e. omega arith)) (ne_eqb b 59 (λ e. omega arith))

pub digits_end_nothing : (ds : List ℕ) → AllDigits 10 ds → list_any ends_value ds ≡ false
digits_end_nothing [] all = refl
digits_end_nothing (d ∷ ds) (digit, all) =
    let range = digit_from_value d digit in
    or_from (ends_value d) (list_any ends_value ds) (digit_ends_nothing d range.0 range.1) (digits_end_nothing ds all)
