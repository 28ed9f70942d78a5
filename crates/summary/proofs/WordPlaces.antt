-- Words written into bytes that are zeros after those that are shown.
use Rattle.std.proofs.Common.{◌≡◌, ℕ, zero, suc, ◌+◌, ◌-◌, ◌*◌, ◌≤◌, List, ◌++◌, length, take, drop, replicate, refl, sym, ap, ◌∙◌, arith, rules}
use Rattle.std.proofs.Math.Seq.{take-add}
use Rattle.std.proofs.lemmas.List.{same_lists, places, length-take-le, drop-drop, drop-replicate, take-replicate}
use Rattle.std.proofs.lemmas.Slice.{drop-put_mid}
use Rattle.summary.specs.ImageBytes.{words_bytes}
use borrow.Rule.Slice.PartMut.{put_mid}

-- how many bytes are shown
pub length_shown : (bytes now : List ℕ) (len : ℕ) → length bytes ≡ 976 → len ≤ 976 → take len bytes ≡ now → length now ≡ len
length_shown bytes now len long few is = ap length (sym is) ∙ length-take-le len bytes (omega arith)

pub put_front : (bytes word : List ℕ) (size at n : ℕ) → size ≤ length bytes → at + 4 ≤ size → length word ≡ 4 → n ≡ 4 → take size (put_mid at n bytes word) ≡ take at (take size bytes) ++ word ++ drop (at + 4) (take size bytes)
put_front bytes word size at n within fits four is =
    same_lists _ _ (search (rules, places)) (λ k d h. grind (arith, places))

zeros_left : (bytes : List ℕ) (len more : ℕ) → drop len bytes ≡ replicate (976 - len) 0 → drop (len + more) bytes ≡ replicate (976 - (len + more)) 0
zeros_left bytes len more zeros =
    let fewer : 976 - len - more ≡ 976 - (len + more) = omega arith in
    rw (← drop-drop more len bytes, zeros, drop-replicate {X = ℕ} more (976 - len) 0, fewer) refl

-- a word that is written where the zeros begin leaves zeros
pub zeros_go_on : (bytes word : List ℕ) (len n : ℕ) → length bytes ≡ 976 → len + 4 ≤ 976 → length word ≡ 4 → n ≡ 4 → drop len bytes ≡ replicate (976 - len) 0 → drop (len + 4) (put_mid len n bytes word) ≡ replicate (976 - (len + 4)) 0
zeros_go_on bytes word len n long room four is zeros =
    drop-put_mid len n bytes word (len + 4) (omega arith) (omega arith) (omega arith) ∙ zeros_left bytes len 4 zeros

-- and one before them leaves all
pub zeros_after : (bytes word : List ℕ) (len at n : ℕ) → length bytes ≡ 976 → len ≤ 976 → at + 4 ≤ len → length word ≡ 4 → n ≡ 4 → drop len bytes ≡ replicate (976 - len) 0 → drop len (put_mid at n bytes word) ≡ replicate (976 - len) 0
zeros_after bytes word len at n long few inside four is zeros =
    drop-put_mid at n bytes word len (omega arith) (omega arith) (omega arith) ∙ zeros

zero_words : (count : ℕ) → words_bytes (replicate count 0) ≡ replicate (4 * count) 0
zero_words zero = refl
zero_words (suc n) =
    let four : 4 * suc n ≡ suc (suc (suc (suc (4 * n)))) = omega arith in
    rw (four, zero_words n) refl

-- zeros that are shown
pub more_zeros : (bytes : List ℕ) (len count : ℕ) → len + 4 * count ≤ 976 → drop len bytes ≡ replicate (976 - len) 0 → take (len + 4 * count) bytes ≡ take len bytes ++ words_bytes (replicate count 0)
more_zeros bytes len count room zeros =
    take-add len (4 * count) bytes
    ∙ ap (λ (x : List ℕ). take len bytes ++ x) (ap (take (4 * count)) zeros ∙ take-replicate (4 * count) (976 - len) 0 (omega arith) ∙ sym (zero_words count))

pub more_left : (bytes : List ℕ) (len count : ℕ) → drop len bytes ≡ replicate (976 - len) 0 → drop (len + 4 * count) bytes ≡ replicate (976 - (len + 4 * count)) 0
more_left bytes len count zeros = zeros_left bytes len (4 * count) zeros
