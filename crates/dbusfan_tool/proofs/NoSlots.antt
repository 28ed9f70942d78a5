-- A set of slots that has none is 32 words of 0.
use Rattle.std.proofs.Common.{◌≡◌, ℕ, suc, ◌+◌, ◌*◌, ◌/◌, ◌%◌, ◌^◌, ◌<◌, true, false, List, [], ◌∷◌, length, get_or, replicate, inl, inr, refl, ap, ◌∙◌, arith, w32, eqb}
use Rattle.std.specs.Int.{bit_at, trailing_zeros}
use Rattle.std.proofs.lemmas.Bool.{cases_lt, eq-eqb}
use Rattle.std.proofs.lemmas.Nat.Bits.{bit_at-trailing_zeros}
use Rattle.summary.specs.Sets.{has_slot, IsSet}
use Rattle.dbusfan_tool.specs.Judges.{no_slots}

-- a word of 32 bits is 0 where each of its bits is
zero_word : (word : ℕ) → word < 2 ^ 32 → ((i : ℕ) → i < 32 → eqb (bit_at word i) 1 ≡ false) → word ≡ 0
zero_word word small none =
    elim (cases_lt 0 word) [
      | inl some ↦
          let lowest = bit_at-trailing_zeros w32 word some small in
          let is : eqb (bit_at word (trailing_zeros w32 word)) 1 ≡ true = eq-eqb (bit_at word (trailing_zeros w32 word)) 1 lowest.1 in
          let no : eqb (bit_at word (trailing_zeros w32 word)) 1 ≡ false = none (trailing_zeros w32 word) lowest.0 in
          absurd (cc)
      | inr none ↦ omega arith
    ]

-- words that are 0 each
zeros : (words : List ℕ) → ((i : ℕ) → get_or words i 0 ≡ 0) → words ≡ replicate (length words) 0
zeros [] none = refl
zeros (word ∷ words) none =
    let first : word ≡ 0 = none 0 in
    let rest = zeros words (λ i. none (suc i)) in
    cc

word_of_slots : (slots : List ℕ) → ((slot : ℕ) → has_slot slots slot ≡ false) → (i j : ℕ) → j < 32 → eqb (bit_at (get_or slots i 0) j) 1 ≡ false
word_of_slots slots none i j small =
    let word : (32 * i + j) / 32 ≡ i = omega arith in
    let bit : (32 * i + j) % 32 ≡ j = omega arith in
    rw (word, bit) at (none (32 * i + j))

pub none_is_zeros : (slots : List ℕ) → IsSet slots → ((slot : ℕ) → has_slot slots slot ≡ false) → slots ≡ no_slots
none_is_zeros slots set none =
    zeros slots (λ i. zero_word (get_or slots i 0) (set.bits i) (λ j small. word_of_slots slots none i j small)) ∙ ap (λ n. replicate n 0) set.size
