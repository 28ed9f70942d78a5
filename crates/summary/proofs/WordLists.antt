-- The bytes of words that are written one after the other.
use Rattle.std.proofs.Common.{◌≡◌, ℕ, zero, suc, ◌+◌, ◌*◌, ◌<◌, List, [], ◌∷◌, ◌++◌, length, replicate, min, refl, sym, ap, ◌∙◌, append_assoc, arith, ◌⊎◌, inl, inr}
use Rattle.std.specs.Int.{w32, to_be_bytes}
use Rattle.std.proofs.lemmas.Grind.{flat_map-append}
use Rattle.std.proofs.lemmas.List.{append-nil, flat_map_more, length-append, length-replicate}
use Rattle.message_value.specs.Arguments.{Argument}
use Rattle.summary.specs.declared.edition.Edition.{Edition}
use Rattle.summary.specs.ImageBytes.{words_bytes, argument_words, arguments_words}

-- one more word
pub then_word : (front words before after : List ℕ) (word : ℕ) → before ≡ front ++ words_bytes words → after ≡ before ++ to_be_bytes w32 word → after ≡ front ++ words_bytes (words ++ word ∷ [])
then_word front words before after word is more =
    more ∙ ap (λ (x : List ℕ). x ++ to_be_bytes w32 word) is ∙ flat_map_more (to_be_bytes w32) front words word

-- further words
pub then_words : (front words more before after : List ℕ) → before ≡ front ++ words_bytes words → after ≡ before ++ words_bytes more → after ≡ front ++ words_bytes (words ++ more)
then_words front words more before after is then =
    then ∙ ap (λ (x : List ℕ). x ++ words_bytes more) is ∙ append_assoc front (words_bytes words) (words_bytes more)
    ∙ ap (λ (x : List ℕ). front ++ x) (sym (flat_map-append (to_be_bytes w32) words more))

-- a word that has the bytes of a number
pub then_number : (front words before after : List ℕ) (word number : ℕ) → before ≡ front ++ words_bytes words → after ≡ before ++ to_be_bytes w32 word → to_be_bytes w32 word ≡ to_be_bytes w32 number → after ≡ front ++ words_bytes (words ++ number ∷ [])
then_number front words before after word number is more same =
    then_word front words before after number is (more ∙ ap (λ (x : List ℕ). before ++ x) same)

-- the first word
first_number : (front after : List ℕ) (word number : ℕ) → after ≡ front ++ to_be_bytes w32 word → word ≡ number → after ≡ front ++ words_bytes (number ∷ [])
first_number front after word number more same =
    then_number front [] front after word number (sym (append-nil front)) more (ap (to_be_bytes w32) same)

-- a number, then a word with the bytes of a place, then a word
pub argument_written : (front w1 w2 after : List ℕ) (code place len a p : ℕ) → w1 ≡ front ++ to_be_bytes w32 code → w2 ≡ w1 ++ to_be_bytes w32 place → after ≡ w2 ++ to_be_bytes w32 len → code ≡ a → to_be_bytes w32 place ≡ to_be_bytes w32 p → after ≡ front ++ words_bytes (a ∷ p ∷ len ∷ [])
argument_written front w1 w2 after code place len a p one two three is_a is_p =
    then_word front (a ∷ p ∷ []) w2 after len
    (then_number front (a ∷ []) w1 w2 place p (first_number front w1 code a one is_a) two is_p)
    three

-- three numbers, then a word with the bytes of a place, then a number, then words
pub head_written : (front w1 w2 w3 w4 w5 after more : List ℕ) (order kind flags place len o k f p n : ℕ) → w1 ≡ front ++ to_be_bytes w32 order → w2 ≡ w1 ++ to_be_bytes w32 kind → w3 ≡ w2 ++ to_be_bytes w32 flags → w4 ≡ w3 ++ to_be_bytes w32 place → w5 ≡ w4 ++ to_be_bytes w32 len → after ≡ w5 ++ words_bytes more → order ≡ o → kind ≡ k → flags ≡ f → to_be_bytes w32 place ≡ to_be_bytes w32 p → len ≡ n → after ≡ front ++ words_bytes (o ∷ k ∷ f ∷ p ∷ n ∷ more)
head_written front w1 w2 w3 w4 w5 after more order kind flags place len o k f p n one two three four five six is_o is_k is_f is_p is_n =
    let first = first_number front w1 order o one is_o in
    let second = then_number front (o ∷ []) w1 w2 kind k first two (ap (to_be_bytes w32) is_k) in
    let third = then_number front (o ∷ k ∷ []) w2 w3 flags f second three (ap (to_be_bytes w32) is_f) in
    let fourth = then_number front (o ∷ k ∷ f ∷ []) w3 w4 place p third four is_p in
    let fifth = then_number front (o ∷ k ∷ f ∷ p ∷ []) w4 w5 len n fourth five (ap (to_be_bytes w32) is_n) in
    then_words front (o ∷ k ∷ f ∷ p ∷ n ∷ []) more w5 after fifth six

pub length-words_bytes : (words : List ℕ) → length (words_bytes words) ≡ 4 * length words
length-words_bytes [] = refl
length-words_bytes (word ∷ words) = omega (arith, length-words_bytes words)

-- ---- arguments

-- where none is left there are zeros
pub no_arguments : (edition : Edition) (n : ℕ) → arguments_words edition n [] ≡ replicate (3 * n) 0
no_arguments edition zero = refl
no_arguments edition (suc n) =
    let three : 3 * suc n ≡ suc (suc (suc (3 * n))) = omega arith in
    rw (three, no_arguments edition n) refl

-- one more argument, of those that are left
pub one_argument : (edition : Edition) (left fewer : ℕ) (a : Argument) (more : List Argument) → left ≡ fewer + 1 → words_bytes (arguments_words edition left (a ∷ more)) ≡ words_bytes (argument_words edition a) ++ words_bytes (arguments_words edition fewer more)
one_argument edition left fewer a more is =
    let next : left ≡ suc fewer = omega arith in
    rw next (flat_map-append (to_be_bytes w32) (argument_words edition a) (arguments_words edition fewer more))

pub argument_step : (edition : Edition) (left fewer : ℕ) (a : Argument) (more args : List Argument) (whole before after : List ℕ) → left ≡ fewer + 1 → args ≡ a ∷ more → before ++ words_bytes (arguments_words edition left args) ≡ whole → after ≡ before ++ words_bytes (argument_words edition a) → after ++ words_bytes (arguments_words edition fewer more) ≡ whole
argument_step edition left fewer a more args whole before after is first left_is then =
    ap (λ (x : List ℕ). x ++ words_bytes (arguments_words edition fewer more)) then
    ∙ append_assoc before (words_bytes (argument_words edition a)) (words_bytes (arguments_words edition fewer more))
    ∙ ap (λ (x : List ℕ). before ++ x) (sym (one_argument edition left fewer a more is))
    ∙ ap (λ (x : List Argument). before ++ words_bytes (arguments_words edition left x)) (sym first)
    ∙ left_is

-- where none is left, or all are written
pub arguments_end : (edition : Edition) (left : ℕ) (args : List Argument) (words after whole : List ℕ) → (left ≡ 0) ⊎ (args ≡ []) → words ++ words_bytes (arguments_words edition left args) ≡ whole → after ≡ words ++ words_bytes (replicate (3 * left) 0) → after ≡ whole
arguments_end edition left args words after whole (inl none) is zeros =
    zeros ∙ rw (← is, none) refl
arguments_end edition left args words after whole (inr none) is zeros =
    zeros ∙ rw (← is, none, no_arguments edition left) refl

pub length_end : (left : ℕ) (words after : List ℕ) (n : ℕ) → length words + 12 * left ≡ n → after ≡ words ++ words_bytes (replicate (3 * left) 0) → length after ≡ n
length_end left words after n is zeros =
    let zero_bytes = length-words_bytes (replicate (3 * left) 0) in
    let count : length (replicate {A = ℕ} (3 * left) 0) ≡ 3 * left = length-replicate (3 * left) 0 in
    let all = ap length zeros ∙ length-append words (words_bytes (replicate (3 * left) 0)) in
    omega (arith, is, zero_bytes, count, all)

pub count_step : (left fewer count : ℕ) (a : Argument) (more args : List Argument) → left ≡ fewer + 1 → args ≡ a ∷ more → min (length args) left + 64 ≡ count + left → min (length more) fewer + 64 ≡ count + fewer
count_step left fewer count a more args is first counted =
    let len : length args ≡ length more + 1 = ap length first ∙ omega arith in
    omega (arith, len, counted, is)
