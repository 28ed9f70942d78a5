-- Worked examples: slots, words, and loads over the seam.
use Rattle.std.proofs.Common.{◌≡◌, true, false, [], ◌∷◌, ◌++◌, Some, None, refl}
use Rattle.bpf_code.specs.Loads.{load_byte, load_half, load_word}
use Rattle.summary.specs.Parts.{with_word}
use Rattle.summary.specs.Sets.{has_slot}

-- bit 2 of word 1 is slot 34 alone
slot_34 : has_slot (0 ∷ 4 ∷ []) 34 ≡ true
slot_34 = refl

slot_2 : has_slot (0 ∷ 4 ∷ []) 2 ≡ false
slot_2 = refl

slot_66 : has_slot (0 ∷ 4 ∷ []) 66 ≡ false
slot_66 = refl

-- words have their highest byte first
word_set : with_word (9 ∷ 9 ∷ 9 ∷ 9 ∷ 9 ∷ 9 ∷ []) 1 0x01020304 ≡ 9 ∷ 1 ∷ 2 ∷ 3 ∷ 4 ∷ 9 ∷ []
word_set = refl

-- loads may cross the seam, and no load goes beyond the end
half_across : load_half ((9 ∷ 1 ∷ []) ++ 2 ∷ []) 1 ≡ Some 258
half_across = refl

word_across : load_word ((9 ∷ 0 ∷ 0 ∷ 1 ∷ []) ++ 2 ∷ []) 1 ≡ Some 258
word_across = refl

last_byte : load_byte ((9 ∷ []) ++ 2 ∷ []) 1 ≡ Some 2
last_byte = refl

half_outside : load_half ((9 ∷ []) ++ 2 ∷ []) 1 ≡ None
half_outside = refl
