-- A summary of its parts.
use Rattle.std.proofs.Common.{◌≡◌, ℕ, List, [], ◌∷◌, ◌++◌, length, min, refl, sym, ap, ◌∙◌, append_assoc}
use Rattle.std.specs.Int.{w32, to_be_bytes}
use Rattle.std.proofs.lemmas.Grind.{flat_map-append}
use Rattle.message_value.specs.Arguments.{Argument}
use Rattle.message_view.specs.Message.{Message}
use Rattle.message_view.specs.Spelling.{arguments_of}
use Rattle.summary.specs.declared.edition.Edition.{Edition}
use Rattle.summary.specs.Parts.{with_word, head_with}
use Rattle.summary.specs.ImageBytes.{words_bytes, texts_words, arguments_words, owned_words, serial_words, summary_bytes}
use Rattle.summary.proofs.WordLists.{then_words}

-- the sixth word is set
count_set : (a b c d e n : ℕ) (rest : List ℕ) → with_word (words_bytes (a ∷ b ∷ c ∷ d ∷ e ∷ 0 ∷ []) ++ rest) 20 n ≡ words_bytes (a ∷ b ∷ c ∷ d ∷ e ∷ n ∷ []) ++ rest
count_set a b c d e n rest = refl

-- the head, two parts, the number in the head, and the last part
words_written : (a b c d e n : ℕ) (texts arguments rest w0 w1 w2 w3 w4 w5 : List ℕ) → w0 ≡ [] → w1 ≡ w0 ++ words_bytes (a ∷ b ∷ c ∷ d ∷ e ∷ 0 ∷ []) → w2 ≡ w1 ++ words_bytes texts → w3 ≡ w2 ++ words_bytes arguments → w4 ≡ with_word w3 20 n → w5 ≡ w4 ++ words_bytes rest → w5 ≡ words_bytes ((a ∷ b ∷ c ∷ d ∷ e ∷ n ∷ []) ++ (texts ++ (arguments ++ rest)))
words_written a b c d e n texts arguments rest w0 w1 w2 w3 w4 w5 e0 e1 e2 e3 e4 e5 =
    let middle = texts ++ arguments in
    let head = words_bytes (a ∷ b ∷ c ∷ d ∷ e ∷ n ∷ []) in
    let first : w1 ≡ words_bytes (a ∷ b ∷ c ∷ d ∷ e ∷ 0 ∷ []) = e1 ∙ ap (λ (x : List ℕ). x ++ words_bytes (a ∷ b ∷ c ∷ d ∷ e ∷ 0 ∷ [])) e0 in
    let end : w3 ≡ w1 ++ words_bytes middle = then_words w1 texts arguments w2 w3 e2 e3 in
    let all : w3 ≡ words_bytes (a ∷ b ∷ c ∷ d ∷ e ∷ 0 ∷ []) ++ words_bytes middle = end ∙ ap (λ (x : List ℕ). x ++ words_bytes middle) first in
    let counted : w4 ≡ head ++ words_bytes middle = e4 ∙ ap (λ (x : List ℕ). with_word x 20 n) all ∙ count_set a b c d e n (words_bytes middle) in
    then_words head middle rest w4 w5 counted e5
    ∙ ap (λ (x : List ℕ). head ++ words_bytes x) (append_assoc texts arguments rest)
    ∙ sym (flat_map-append (to_be_bytes w32) (a ∷ b ∷ c ∷ d ∷ e ∷ n ∷ []) (texts ++ (arguments ++ rest)))

pub summary_written : (edition : Edition) (m : Message) (slots : List ℕ) (args : List Argument) (n : ℕ) (w0 w1 w2 w3 w4 w5 : List ℕ) → args ≡ arguments_of m → n ≡ min (length args) 64 → w0 ≡ [] → w1 ≡ w0 ++ words_bytes (head_with edition m 0) → w2 ≡ w1 ++ words_bytes (texts_words edition m) → w3 ≡ w2 ++ words_bytes (arguments_words edition 64 args) → w4 ≡ with_word w3 20 n → w5 ≡ w4 ++ words_bytes (owned_words edition slots ++ serial_words edition m) → w5 ≡ summary_bytes edition m slots
summary_written edition m slots args n w0 w1 w2 w3 w4 w5 are count e0 e1 e2 e3 e4 e5 =
    words_written _ _ _ _ _ n (texts_words edition m) (arguments_words edition 64 args) (owned_words edition slots ++ serial_words edition m) w0 w1 w2 w3 w4 w5 e0 e1 e2 e3 e4 e5
    ∙ ap (λ (k : ℕ). words_bytes (head_with edition m k ++ (texts_words edition m ++ (arguments_words edition 64 args ++ (owned_words edition slots ++ serial_words edition m))))) count
    ∙ ap (λ (x : List Argument). words_bytes (head_with edition m (min (length x) 64) ++ (texts_words edition m ++ (arguments_words edition 64 x ++ (owned_words edition slots ++ serial_words edition m))))) are
