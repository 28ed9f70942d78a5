-- The words of a summary are the loads of what begins with it.
use Rattle.std.proofs.Common.{◌≡◌, ℕ, zero, suc, ◌+◌, ◌-◌, ◌*◌, ◌^◌, ◌<◌, true, leb, List, [], ◌∷◌, ◌++◌, length, get_or, Some, refl, sym, ap, ◌∙◌, inl, inr, append_assoc, zero-add, arith}
use Rattle.std.specs.Int.{w32, to_be_bytes}
use Rattle.std.proofs.lemmas.Bool.{cases_lt, le-leb, lt-leb}
use Rattle.std.proofs.lemmas.List.{length-append, get_or-append_right}
use Rattle.std.proofs.lemmas.List.Concat.{flat_map-append}
use Rattle.std.proofs.lemmas.Nat.{from_be_bytes-to_be_bytes_4}
use Rattle.bpf_code.specs.Loads.{load_word}
use Rattle.summary.specs.ImageBytes.{words_bytes}

same_test : (n a b : ℕ) → leb (n + a) (n + b) ≡ leb a b
same_test n a b =
    elim (cases_lt b a) [
      | inl lt ↦ lt-leb (n + a) (n + b) (omega arith) ∙ sym (lt-leb a b lt)
      | inr le ↦ le-leb (n + a) (n + b) (omega arith) ∙ sym (le-leb a b le)
    ]

byte_after : (front image : List ℕ) (n at k : ℕ) → length front ≡ n → get_or (front ++ image) (n + at + k) 0 ≡ get_or image (at + k) 0
byte_after front image n at k is =
    let place : (n + at + k) - n ≡ at + k = omega arith in
    get_or-append_right front image n (n + at + k) 0 is (omega arith) ∙ ap (λ (i : ℕ). get_or image i 0) place

-- after other bytes
pub load_after : (front image : List ℕ) (n at : ℕ) → length front ≡ n → load_word (front ++ image) (n + at) ≡ load_word image at
load_after front image n at is =
    let ends : length (front ++ image) ≡ n + length image = omega (arith, length-append front image) in
    let past : n + at + 4 ≡ n + (at + 4) = omega arith in
    let first : get_or (front ++ image) (n + at) 0 ≡ get_or image at 0 = get_or-append_right front image n (n + at) 0 is (omega arith) ∙ ap (λ (i : ℕ). get_or image i 0) (omega arith) in
    rw (first, byte_after front image n at 1 is, byte_after front image n at 2 is, byte_after front image n at 3 is, ends, past, same_test n (at + 4) (length image)) refl

-- the load of the first word
load_first : (word : ℕ) (rest : List ℕ) → word < 2 ^ 32 → load_word (to_be_bytes w32 word ++ rest) 0 ≡ Some word
load_first word rest small =
    let long : leb 4 (length (to_be_bytes w32 word ++ rest)) ≡ true = le-leb 4 (length (to_be_bytes w32 word ++ rest)) (omega arith) in
    rw long (ap Some (omega (arith, from_be_bytes-to_be_bytes_4 word small)))

-- a word that is below 2 ^ 32 is a load
pub word_load : (words more : List ℕ) (i : ℕ) → i < length words → get_or words i 0 < 2 ^ 32 → load_word (words_bytes words ++ more) (4 * i) ≡ Some (get_or words i 0)
word_load [] more i inside small = absurd (omega arith)
word_load (word ∷ words) more zero inside small = load_first word (words_bytes words ++ more) small
word_load (word ∷ words) more (suc i) inside small =
    let place : 4 * suc i ≡ 4 + 4 * i = omega arith in
    rw place (load_after (to_be_bytes w32 word) (words_bytes words ++ more) 4 (4 * i) refl ∙ word_load words more i (omega arith) small)

pub length-words_bytes : (words : List ℕ) → length (words_bytes words) ≡ 4 * length words
length-words_bytes [] = refl
length-words_bytes (word ∷ words) = omega (arith, length-words_bytes words)

-- From a place of an image on, its loads are those of these words, and other bytes follow.
pub record Follow (image : List ℕ) (at : ℕ) (words more : List ℕ) : Type 0 where
  pub loads : (k : ℕ) → load_word image (at + k) ≡ load_word (words_bytes words ++ more) k

pub all_follow : (words more : List ℕ) → Follow (words_bytes words ++ more) 0 words more
all_follow words more = record { loads = λ k. ap (λ (n : ℕ). load_word (words_bytes words ++ more) n) (zero-add k) }

-- after n of the words
pub next_follow : (image : List ℕ) (at n end : ℕ) (first words more : List ℕ) → length first ≡ n → at + 4 * n ≡ end → Follow image at (first ++ words) more → Follow image end words more
next_follow image at n end first words more is_len is follow =
    let len : length (words_bytes first) ≡ 4 * n = omega (arith, length-words_bytes first) in
    let bytes : words_bytes (first ++ words) ++ more ≡ words_bytes first ++ (words_bytes words ++ more) = ap (λ (x : List ℕ). x ++ more) (flat_map-append (to_be_bytes w32) first words) ∙ append_assoc (words_bytes first) (words_bytes words) more in
    record {
      loads = λ k.
          let place : end + k ≡ at + (4 * n + k) = omega arith in
          ap (λ (p : ℕ). load_word image p) place
          ∙ follow.loads (4 * n + k)
          ∙ ap (λ (x : List ℕ). load_word x (4 * n + k)) bytes
          ∙ load_after (words_bytes first) (words_bytes words ++ more) (4 * n) k len;
    }

-- one of the words
pub one_follows : (image : List ℕ) (at i word place : ℕ) (words more : List ℕ) → Follow image at words more → i < length words → get_or words i 0 ≡ word → word < 2 ^ 32 → at + 4 * i ≡ place → load_word image place ≡ Some word
one_follows image at i word place words more follow inside is small there =
    ap (λ (p : ℕ). load_word image p) (sym there)
    ∙ follow.loads (4 * i)
    ∙ word_load words more i inside (rw is small)
    ∙ ap Some is
