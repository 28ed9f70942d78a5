-- The bytes of an object path are ASCII.
use Rattle.std.proofs.Common.{◌≡◌, ℕ, ◌+◌, ◌<◌, Bool, true, false, cond, eqb, List, [], ◌∷◌, refl, sym, ◌∙◌, arith, zero-add}
use Rattle.std.specs.Prelude.{◌&&◌}
use Rattle.std.specs.Str.{IsAscii}
use Rattle.std.proofs.lemmas.Bool.Decides.{nat_tests}
use Rattle.std.proofs.lemmas.Bool.{and_parts}
use Rattle.std.proofs.lemmas.Str.Ascii.{IsAscii-cons}
use Rattle.signature.specs.Name.{may_begin, may_follow, path_form, are_elements, is_path}
use Rattle.signature.proofs.Elements.{rest_are, rest_are-cons}

begins_low : (b : ℕ) → may_begin path_form b ≡ true → b < 128
begins_low b h = grind (arith, nat_tests)

follows_low : (b : ℕ) → may_follow path_form b ≡ true → b < 128
follows_low b h = grind (arith, nat_tests)

-- the rest of a path, of which an element may have begun
rest_ascii : (least : ℕ) (at_start : Bool) (count : ℕ) (rest : List ℕ) → rest_are path_form least at_start count rest ≡ true → IsAscii rest
rest_ascii least at_start count [] h = λ i. omega arith
rest_ascii least true count (c ∷ rest) h =
    go (rest_ascii least false count rest) (eqb c 47) (sym (rest_are-cons path_form least true count c rest) ∙ h)
  where
    go : (rest_are path_form least false count rest ≡ true → IsAscii rest) → (b : Bool) → cond b false (may_begin path_form c && rest_are path_form least false count rest) ≡ true → IsAscii (c ∷ rest)
    go ahead true h = cc
    go ahead false h = let parts = and_parts (may_begin path_form c) (rest_are path_form least false count rest) h in IsAscii-cons c rest (begins_low c parts.0) (ahead parts.1)
rest_ascii least false count (c ∷ rest) h =
    go (rest_ascii least true (count + 1) rest) (rest_ascii least false count rest) (eqb c 47) refl (sym (rest_are-cons path_form least false count c rest) ∙ h)
  where
    go : (rest_are path_form least true (count + 1) rest ≡ true → IsAscii rest) → (rest_are path_form least false count rest ≡ true → IsAscii rest) → (b : Bool) → eqb c 47 ≡ b → cond b (rest_are path_form least true (count + 1) rest) (may_follow path_form c && rest_are path_form least false count rest) ≡ true → IsAscii (c ∷ rest)
    go afresh ahead true e h = let divider : c < 128 = grind (arith, nat_tests) in IsAscii-cons c rest divider (afresh h)
    go afresh ahead false e h = let parts = and_parts (may_follow path_form c) (rest_are path_form least false count rest) h in IsAscii-cons c rest (follows_low c parts.0) (ahead parts.1)

-- an object path is ASCII
pub path_ascii : (text : List ℕ) → is_path text ≡ true → IsAscii text
path_ascii [] h = cc
path_ascii (b ∷ []) h = let slash : b < 128 = grind (arith, nat_tests) in IsAscii-cons b [] slash (λ i. omega arith)
path_ascii (b ∷ c ∷ rest) h =
    let parts = and_parts (eqb b 47) (are_elements path_form 1 (c ∷ rest)) h in
    let slash : b < 128 = grind (arith, nat_tests) in
    IsAscii-cons b (c ∷ rest) slash (rest_ascii 1 true 0 (c ∷ rest) (rw zero-add parts.1))
