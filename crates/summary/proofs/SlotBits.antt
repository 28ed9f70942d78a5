-- The bits of sets of slots.
use Rattle.std.proofs.Common.{◌≡◌, ℕ, ◌*◌, ◌/◌, ◌%◌, ◌^◌, ◌<◌, ◌≢◌, true, false, ◌||◌, eqb, List, length, get_or, set, replicate, inl, inr, refl, arith, bit_or, w32}
use Rattle.std.proofs.lemmas.Bool.{eq-eqb, ne_eqb, cases_eq, cases_lt}
use Rattle.std.proofs.lemmas.List.{get_or-set_same, get_or-set_other, get_or-replicate, get_or_past}
use Rattle.std.proofs.lemmas.Nat.Bits.{bit_at_set_same, bit_at_set_other, bit_at-zero}
use Rattle.std.proofs.Math.ListN.{length-replicate}
use Rattle.summary.specs.Sets.{has_slot, IsSet}

zero_at : (n i : ℕ) → ◌≡◌ {A = ℕ} (get_or (replicate n 0) i 0) 0
zero_at n i =
    elim (cases_lt i n) [
      | inl low ↦ get_or-replicate n i 0 0 low
      | inr high ↦ get_or_past (replicate n 0) i 0 (let l : length (replicate {A = ℕ} n 0) ≡ n = length-replicate n 0 in omega (arith, l, high))
    ]

-- words of zeros have no slot
pub none_there : (words : List ℕ) (n slot : ℕ) → words ≡ replicate n 0 → has_slot words slot ≡ false
none_there words n slot zeros = rw (zeros, zero_at n (slot / 32), bit_at-zero (slot % 32)) refl

-- words with the bit of a slot set
abbrev pub with_slot : List ℕ → ℕ → List ℕ
with_slot words slot =
    set words (slot / 32) (bit_or (get_or words (slot / 32) 0) (1 * 2 ^ (slot % 32) % 2 ^ 32))

same_slot : (words : List ℕ) (slot : ℕ) → slot / 32 < length words → has_slot (with_slot words slot) slot ≡ true
same_slot words slot inside =
    let small : slot % 32 < 32 = omega arith in
    rw (get_or-set_same words (slot / 32) (bit_or (get_or words (slot / 32) 0) (1 * 2 ^ (slot % 32) % 2 ^ 32)) 0 inside, bit_at_set_same w32 (get_or words (slot / 32) 0) (slot % 32) small) refl

other_bit : (slot other : ℕ) → other ≢ slot → other / 32 ≡ slot / 32 → other % 32 ≢ slot % 32
other_bit slot other ne word bit = ne (omega arith)

other_slot : (words : List ℕ) (slot other : ℕ) → slot / 32 < length words → other ≢ slot → has_slot (with_slot words slot) other ≡ has_slot words other
other_slot words slot other inside ne =
    let value : ℕ = bit_or (get_or words (slot / 32) 0) (1 * 2 ^ (slot % 32) % 2 ^ 32) in
    let small : slot % 32 < 32 = omega arith in
    elim (cases_eq (other / 32) (slot / 32)) [
      | inl word ↦ rw (word, get_or-set_same words (slot / 32) value 0 inside, bit_at_set_other w32 (get_or words (slot / 32) 0) (slot % 32) small (other % 32) (other_bit slot other ne word)) refl
      | inr word ↦ rw (get_or-set_other words (slot / 32) (other / 32) value 0 word) refl
    ]

-- they have that slot, and of the others those that they had
pub one_more : (words : List ℕ) (slot other : ℕ) → slot / 32 < length words → has_slot (with_slot words slot) other ≡ (eqb other slot || has_slot words other)
one_more words slot other inside =
    elim (cases_eq other slot) [
      | inl e ↦ rw (e, eq-eqb slot slot refl) (same_slot words slot inside)
      | inr ne ↦ rw (ne_eqb other slot ne) (other_slot words slot other inside ne)
    ]

-- no slot at all
pub zeros_set : (words : List ℕ) → words ≡ replicate 32 0 → IsSet words
zeros_set words e = record { size = rw e refl; bits = λ i. rw (e, zero_at 32 i) (omega arith) }
