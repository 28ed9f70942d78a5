-- A variant's signature is the text of the type that is read.
use Rattle.std.proofs.Common.{◌≡◌, ℕ, ◌+◌, ◌≤◌, true, List, length, take, Option, Some, None, Ok, refl, sym, subst, ◌∙◌}
use Rattle.std.specs.Prelude.{◌==◌, slice_index, IfSome}
use Rattle.signature.specs.DataType.{DataType, TypeText}
use Rattle.signature.specs.Trees.{type_of}
use Rattle.signature.proofs.TreesOfTexts.{type_of-TypeText}
use Rattle.message_value.specs.Reading.{At, byte_at, item_at, signature_at}

-- a type that was read of a text is what the text spells
pub one_read : (text found : List ℕ) (read : Option (List ℕ)) → read ≡ Some found
    → IfSome read (λ t. (t ≡ text) × (length text ≤ 255) × ((type : DataType) × TypeText type text))
    → (type : DataType) × TypeText type found × (length found ≤ 255) × (type_of text ≡ Some type)
one_read text found None is h = absurd cc
one_read text found (Some t) is h =
    let same : text ≡ found = sym h.0 ∙ some_same t found is in
    (h.2.0, subst (TypeText h.2.0) same h.2.1, subst (λ (x : List ℕ). length x ≤ 255) same h.1, type_of-TypeText h.2.0 text h.2.1 h.1)
  where
    some_same : (a b : List ℕ) → Some a ≡ Some b → a ≡ b
    some_same a b e = cc

pub signature_ok : (at middle tail : At) (len : ℕ) (bytes : List ℕ) (type : DataType) → byte_at at ≡ Ok (len, middle) → item_at (len + 1) middle ≡ Ok (bytes, tail)
    → type_of (take len bytes) ≡ Some type → (slice_index bytes len == 0) ≡ true → signature_at at ≡ Ok (type, tail)
unfolding signature_at
signature_ok at middle tail len bytes type byte item is end = rw (byte, item, is, end) refl
