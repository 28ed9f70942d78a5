-- Sets of slots with the same slots have the same words.
use Rattle.std.proofs.Common.{◌≡◌, ℕ, ◌+◌, ◌*◌, ◌/◌, ◌%◌, ◌<◌, ◌==◌, List, get_or, refl, sym, ◌∙◌, arith}
use Rattle.std.specs.Int.{bit_at}
use Rattle.std.proofs.lemmas.Bool.Decides.{nat_tests}
use Rattle.std.proofs.lemmas.Nat.Bits.{bit_at-lt, same_from_bits_below}
use Rattle.std.proofs.lemmas.Grind.{same_number_lists}
use Rattle.summary.specs.Sets.{has_slot, IsSet}

bit_same : (x y : ℕ) → x < 2 → y < 2 → (x == 1) ≡ (y == 1) → x ≡ y
bit_same x y less fits e = grind (arith, nat_tests)

place_of_word : (w i : ℕ) → i < 32 → (32 * w + i) / 32 ≡ w
place_of_word w i less = omega arith

place_of_bit : (w i : ℕ) → i < 32 → (32 * w + i) % 32 ≡ i
place_of_bit w i less = omega arith

bit_of_slot : (words : List ℕ) (w i : ℕ) → i < 32 → has_slot words (32 * w + i) ≡ (bit_at (get_or words w 0) i == 1)
bit_of_slot words w i less = rw (place_of_word w i less, place_of_bit w i less) refl

pub same_words : (words others : List ℕ) → IsSet words → IsSet others → ((slot : ℕ) → has_slot words slot ≡ has_slot others slot) → words ≡ others
same_words words others is are h =
    same_number_lists words others (is.size ∙ sym are.size) (λ w less.
    same_from_bits_below 32 (get_or words w 0) (get_or others w 0) (is.bits w) (are.bits w) (λ i below.
    bit_same (bit_at (get_or words w 0) i) (bit_at (get_or others w 0) i) (bit_at-lt (get_or words w 0) i) (bit_at-lt (get_or others w 0) i)
    (sym (bit_of_slot words w i below) ∙ h (32 * w + i) ∙ bit_of_slot others w i below)))
