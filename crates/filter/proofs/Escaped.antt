-- Texts with a backslash before each backslash and each apostrophe.
use Rattle.std.proofs.Common.{◌≡◌, ℕ, ◌+◌, Bool, true, false, List, [], ◌∷◌, ◌++◌, length, refl, sym, ap, ◌∙◌, subst, arith}
use Rattle.std.specs.Prelude.{◌==◌, Some, None, if◌then◌else◌}
use Rattle.std.proofs.lemmas.Bool.{eqb-true}
use Rattle.filter.specs.Lexis.{quoted_len, bad_escape, without_escapes}
use Rattle.filter.proofs.CanonicalTokens.{escaped}

-- the bytes with a backslash in front, and the others
data Byte : ℕ → Type 0 where
  backslash : Byte 92
  apostrophe : Byte 39
  other : (b : ℕ) → (b == 92) ≡ false → (b == 39) ≡ false → Byte b

byte : (b : ℕ) → Byte b
byte b = go (b == 92) (b == 39) refl refl
  where
    go : (c d : Bool) → (b == 92) ≡ c → (b == 39) ≡ d → Byte b
    go true d is e = subst Byte (sym (eqb-true b 92 is)) backslash
    go false true is e = subst Byte (sym (eqb-true b 39 e)) apostrophe
    go false false is e = other b is e

escaped_other : (b : ℕ) (bs : List ℕ) → (b == 92) ≡ false → (b == 39) ≡ false → escaped (b ∷ bs) ≡ b ∷ escaped bs
escaped_other b bs n m = rw (n, m) refl

-- the quote that closes them is the one behind
pub escaped_len : (text rest : List ℕ) (n : ℕ) → quoted_len 39 false n (escaped text ++ 39 ∷ rest) ≡ Some (n + length (escaped text))
escaped_len [] rest n = ap Some (omega arith)
escaped_len (b ∷ bs) rest n = go b (byte b) (λ m. escaped_len bs rest m)
  where
    go : (b : ℕ) → Byte b → ((m : ℕ) → quoted_len 39 false m (escaped bs ++ 39 ∷ rest) ≡ Some (m + length (escaped bs))) → quoted_len 39 false n (escaped (b ∷ bs) ++ 39 ∷ rest) ≡ Some (n + length (escaped (b ∷ bs)))
    go _ backslash more = more (n + 1 + 1) ∙ ap Some (omega arith)
    go _ apostrophe more = more (n + 1 + 1) ∙ ap Some (omega arith)
    go _ (other b c d) more = rw (escaped_other b bs c d, d, c) (more (n + 1) ∙ ap Some (omega arith))

-- each backslash stands before a backslash or an apostrophe
pub escaped_good : (text : List ℕ) (place : ℕ) → bad_escape None place (escaped text) ≡ None
escaped_good [] place = refl
escaped_good (b ∷ bs) place = go b (byte b) (λ p. escaped_good bs p)
  where
    go : (b : ℕ) → Byte b → ((p : ℕ) → bad_escape None p (escaped bs) ≡ None) → bad_escape None place (escaped (b ∷ bs)) ≡ None
    go _ backslash more = more (place + 1 + 1)
    go _ apostrophe more = more (place + 1 + 1)
    go _ (other b c d) more = rw (escaped_other b bs c d) (ap (λ t. bad_escape (if t then Some place else None) (place + 1) (escaped bs)) c ∙ more (place + 1))

-- and they spell the text
pub escaped_back : (text : List ℕ) → without_escapes false (escaped text) ≡ text
escaped_back [] = refl
escaped_back (b ∷ bs) = go b (byte b) (escaped_back bs)
  where
    go : (b : ℕ) → Byte b → without_escapes false (escaped bs) ≡ bs → without_escapes false (escaped (b ∷ bs)) ≡ b ∷ bs
    go _ backslash more = ap (λ (l : List ℕ). 92 ∷ l) more
    go _ apostrophe more = ap (λ (l : List ℕ). 39 ∷ l) more
    go _ (other b c d) more = rw (escaped_other b bs c d, c) (ap (λ (l : List ℕ). b ∷ l) more)
