-- Tokens in front of bytes.
use Rattle.std.proofs.Common.{◌≡◌, ℕ, suc, ◌+◌, ◌-◌, ◌<◌, true, false, List, ◌∷◌, length, take, drop, get_or, refl, arith, add-one, length-drop}
use Rattle.std.specs.Prelude.{Ok, ◌==◌}
use Rattle.std.specs.List.{prefix_len}
use Rattle.std.proofs.Math.Seq.{drop-cons}
use Rattle.std.proofs.lemmas.Bool.{ne_eqb}
use Rattle.std.proofs.lemmas.List.{take_all}
use Rattle.filter.specs.Lexis.{is_word_byte, quoted_len}
use Rattle.filter.specs.Tokens.{word, token_at}

-- a byte and n that follow it
pub word_front : (place more : ℕ) (text : List ℕ) → place < length text → take (place + 1 + more - place) (drop place text) ≡ get_or text place 0 ∷ take more (drop (place + 1) text)
word_front place more text h = let n : place + 1 + more - place ≡ suc more = omega arith in rw (n, add-one, drop-cons text place 0) refl

pub word_token : (place b : ℕ) (rest : List ℕ) (more : ℕ) → is_word_byte b ≡ true → more ≡ prefix_len is_word_byte rest → token_at place b rest ≡ Ok (word (b ∷ take more rest), more)
word_token place b rest more w e = rw (w, e) refl

-- over a byte after a backslash
pub past_escaped : (quote n i : ℕ) (bytes : List ℕ) → i < length bytes → quoted_len quote true n (drop i bytes) ≡ quoted_len quote false (n + 1) (drop (i + 1) bytes)
past_escaped quote n i bytes h = rw (add-one i, drop-cons bytes i 0) refl

-- over a byte that closes nothing
pub past_other : (quote n i : ℕ) (bytes : List ℕ) → i < length bytes → (get_or bytes i 0 ≡ quote → ⊥) → quoted_len quote false n (drop i bytes) ≡ quoted_len quote (get_or bytes i 0 == 92) (n + 1) (drop (i + 1) bytes)
past_other quote n i bytes h other = rw (add-one i, drop-cons bytes i 0, ne_eqb (get_or bytes i 0) quote other) refl

-- what is left after a place, as a slice of it
pub whole_rest : (bytes : List ℕ) (i : ℕ) → take (length bytes - i) (drop i bytes) ≡ drop i bytes
whole_rest bytes i = take_all (length bytes - i) (drop i bytes) (omega (arith, length-drop i bytes))
