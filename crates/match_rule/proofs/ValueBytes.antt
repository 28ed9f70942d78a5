-- Each byte of UTF-8 is below 256.
use Rattle.std.proofs.Common.{◌≡◌, ℕ, zero, suc, ◌+◌, ◌/◌, ◌<◌, Bool, true, false, cond, List, [], ◌∷◌, ◌++◌, refl, subst, inl, inr, arith}
use Rattle.std.specs.Prelude.{nat_lt}
use Rattle.std.specs.Str.{IsUtf8}
use Rattle.std.proofs.lemmas.Bool.{and_parts, ltb-true}
use lib.Utf8.{scalar, scalars, next, encode, encodes, scalar_cases}
use Rattle.message_value.specs.Bytes.{AreBytes}

bytes_nil : AreBytes []
bytes_nil i = omega arith

bytes_cons : (b : ℕ) (bs : List ℕ) → b < 256 → AreBytes bs → AreBytes (b ∷ bs)
bytes_cons b bs h t zero = h
bytes_cons b bs h t (suc i) = t i

bytes_append : (xs ys : List ℕ) → AreBytes xs → AreBytes ys → AreBytes (xs ++ ys)
bytes_append [] ys h g = g
bytes_append (x ∷ xs) ys h g = bytes_cons x (xs ++ ys) (h 0) (bytes_append xs ys (λ i. h (suc i)) g)

-- ---- UTF-8

scalar_low : (c : ℕ) → scalar c ≡ true → c < 1114112
scalar_low c e = elim (scalar_cases c e) [ inl h ↦ omega arith | inr h ↦ omega arith ]

two_bytes : (a b : ℕ) → a < 256 → b < 256 → AreBytes (a ∷ b ∷ [])
two_bytes a b h g = bytes_cons a (b ∷ []) h (bytes_cons b [] g bytes_nil)

three_bytes : (a b c : ℕ) → a < 256 → b < 256 → c < 256 → AreBytes (a ∷ b ∷ c ∷ [])
three_bytes a b c h g f = bytes_cons a (b ∷ c ∷ []) h (two_bytes b c g f)

four_bytes : (a b c d : ℕ) → a < 256 → b < 256 → c < 256 → d < 256 → AreBytes (a ∷ b ∷ c ∷ d ∷ [])
four_bytes a b c d h g f e = bytes_cons a (b ∷ c ∷ d ∷ []) h (three_bytes b c d g f e)

encode_bytes : (c : ℕ) → c < 1114112 → AreBytes (encode c)
unfolding encode
encode_bytes c small = go (nat_lt c 128) (nat_lt c 2048) (nat_lt c 65536) refl refl refl
  where
    go : (in_one in_two in_three : Bool) → nat_lt c 128 ≡ in_one → nat_lt c 2048 ≡ in_two → nat_lt c 65536 ≡ in_three → AreBytes (cond in_one (c ∷ []) (cond in_two ((192 + c / 64) ∷ next c ∷ []) (cond in_three ((224 + c / 4096) ∷ next (c / 64) ∷ next c ∷ []) ((240 + c / 262144) ∷ next (c / 4096) ∷ next (c / 64) ∷ next c ∷ []))))
    go true in_two in_three a b d = let h = ltb-true c 128 a in bytes_cons c [] (omega arith) bytes_nil
    go false true in_three a b d = let h = ltb-true c 2048 b in two_bytes (192 + c / 64) (next c) (omega arith) (omega arith)
    go false false true a b d = let h = ltb-true c 65536 d in three_bytes (224 + c / 4096) (next (c / 64)) (next c) (omega arith) (omega arith) (omega arith)
    go false false false a b d = four_bytes (240 + c / 262144) (next (c / 4096)) (next (c / 64)) (next c) (omega arith) (omega arith) (omega arith) (omega arith)

encodes_bytes : (cs : List ℕ) → scalars cs ≡ true → AreBytes (encodes cs)
encodes_bytes [] e = bytes_nil
encodes_bytes (c ∷ cs) e =
    let h = and_parts (scalar c) (scalars cs) e in bytes_append (encode c) (encodes cs) (encode_bytes c (scalar_low c h.0)) (encodes_bytes cs h.1)

pub text_bytes : (text : List ℕ) → IsUtf8 text → AreBytes text
text_bytes text u = subst AreBytes u.1.1 (encodes_bytes u.0 u.1.0)
