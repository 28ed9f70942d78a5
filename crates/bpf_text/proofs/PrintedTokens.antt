-- A printed token is the token that is read.
use Rattle.std.proofs.Common.{◌≡◌, ℕ, suc, ◌+◌, ◌<◌, ◌^◌, true, false, ◌&&◌, List, [], ◌∷◌, ◌++◌, length, take, drop, Some, refl, ap, ◌∙◌, arith, lt-ltb}
use Rattle.std.specs.Prelude.{◌==◌, nat_lt, slice_index, decimal, codes}
use Rattle.std.specs.Char.{digit_value}
use Rattle.std.specs.List.{prefix_len, list_all}
use Rattle.std.specs.Str.Parse.{AllDigits, IsNumeral, digits_value}
use Rattle.std.proofs.lemmas.Bool.{and_right as and_no, and_parts}
use Rattle.std.proofs.lemmas.Bool.Decides.{nat_tests}
use Rattle.std.proofs.lemmas.Fmt.{decimal_is_IsNumeral}
use Rattle.bpf_text.specs.Lexis.{is_blank, is_digit, is_name_byte, unblanked, run_of, after_run, number_in, number_of, word_at, number_at, sign_at}
use Rattle.bpf_text.specs.Grammar.{Token, Word, Value, Sign, IsToken}
use Rattle.bpf_text.proofs.Fronts.{some_length}

-- no byte of a word or a number stands first
abbrev pub Stops : List ℕ → Type 0
Stops rest = is_name_byte (slice_index rest 0) ≡ false

-- each byte is one of a word or a number
abbrev pub IsRun : List ℕ → Type 0
IsRun run = list_all is_name_byte run ≡ true

pub one_more : (n : ℕ) → 1 + n ≡ suc n
one_more n = omega arith

run_len : (run rest : List ℕ) → IsRun run → Stops rest → prefix_len is_name_byte (run ++ rest) ≡ length run
run_len [] [] all stops = refl
run_len [] (b ∷ rest) all stops = rw stops
run_len (b ∷ run) rest all stops =
    let here : is_name_byte b ≡ true = (and_parts (is_name_byte b) (list_all is_name_byte run) all).0 in
    let later : prefix_len is_name_byte (run ++ rest) ≡ length run = run_len run rest (and_parts (is_name_byte b) (list_all is_name_byte run) all).1 stops in
    rw (here, later) (one_more (length run))

taken : (run rest : List ℕ) → take (length run) (run ++ rest) ≡ run
taken [] rest = refl
taken (b ∷ run) rest = ap (λ (l : List ℕ). b ∷ l) (taken run rest)

dropped : (run rest : List ℕ) → drop (length run) (run ++ rest) ≡ rest
dropped [] rest = refl
dropped (b ∷ run) rest = dropped run rest

run_read : (run rest : List ℕ) → IsRun run → Stops rest → run_of (run ++ rest) ≡ run
unfolding run_of
run_read run rest all stops = rw (run_len run rest all stops) (taken run rest)

rest_read : (run rest : List ℕ) → IsRun run → Stops rest → after_run (run ++ rest) ≡ rest
unfolding after_run
rest_read run rest all stops = rw (run_len run rest all stops) (dropped run rest)

unblanked_here : (b : ℕ) (rest : List ℕ) → is_blank b ≡ false → unblanked (b ∷ rest) ≡ b ∷ rest
unfolding unblanked
unblanked_here b rest dark = rw dark

unblanked_more : (rest : List ℕ) → unblanked (32 ∷ rest) ≡ unblanked rest
unfolding unblanked
unblanked_more rest = rw (one_more (prefix_len is_blank rest))

pub same_number : (a : ℕ) → a == a ≡ true
same_number a = grind (arith, nat_tests)

-- ---- a blank before a token

pub word_after_blank : (bytes : List ℕ) → word_at (32 ∷ bytes) ≡ word_at bytes
unfolding word_at
word_after_blank bytes = rw (unblanked_more bytes)

number_after_blank : (bytes : List ℕ) → number_at (32 ∷ bytes) ≡ number_at bytes
unfolding number_at
number_after_blank bytes = rw (unblanked_more bytes)

sign_after_blank : (sign : ℕ) (bytes : List ℕ) → sign_at sign (32 ∷ bytes) ≡ sign_at sign bytes
unfolding sign_at
sign_after_blank sign bytes = rw (unblanked_more bytes)

pub token_after_blank : (token : Token) (bytes rest : List ℕ) → IsToken token bytes rest → IsToken token (32 ∷ bytes) rest
token_after_blank (Word word) bytes rest h = word_after_blank bytes ∙ h
token_after_blank (Value number) bytes rest h = number_after_blank bytes ∙ h
token_after_blank (Sign sign) bytes rest h = sign_after_blank sign bytes ∙ h

-- ---- each token

pub sign_here : (sign : ℕ) (rest : List ℕ) → is_blank sign ≡ false → sign_at sign (sign ∷ rest) ≡ Some rest
unfolding sign_at
sign_here sign rest dark = rw (unblanked_here sign rest dark, some_length sign rest, same_number sign)

pub word_here : (b : ℕ) (run rest : List ℕ) → is_blank b ≡ false → is_digit b ≡ false → IsRun (b ∷ run) → Stops rest → word_at (b ∷ run ++ rest) ≡ Some (b ∷ run, rest)
unfolding word_at
word_here b run rest dark letter all stops =
    rw (unblanked_here b (run ++ rest) dark, run_read (b ∷ run) rest all stops, rest_read (b ∷ run) rest all stops, some_length b run, letter)

pub number_here : (b : ℕ) (run rest : List ℕ) (number : ℕ) → is_blank b ≡ false → IsRun (b ∷ run) → Stops rest → number_of (b ∷ run) ≡ Some number → number_at (b ∷ run ++ rest) ≡ Some (number, rest)
unfolding number_at
number_here b run rest number dark all stops is =
    rw (unblanked_here b (run ++ rest) dark, run_read (b ∷ run) rest all stops, rest_read (b ∷ run) rest all stops, is)

-- ---- decimal numbers

digit_is : (b : ℕ) → digit_value b < 10 → is_digit b ≡ true
digit_is b low = grind (arith, nat_tests)

digit_dark : (b : ℕ) → digit_value b < 10 → is_blank b ≡ false
digit_dark b low = grind (arith, nat_tests)

digit_no_x : (b : ℕ) → digit_value b < 10 → b == 120 ≡ false
digit_no_x b low = grind (arith, nat_tests)

digits_run : (ds : List ℕ) → AllDigits 10 ds → IsRun ds
digits_run [] all = refl
digits_run (d ∷ ds) (low, all) = rw (digit_is d low, digits_run ds all)

digits_all : (ds : List ℕ) → AllDigits 10 ds → list_all (λ d. nat_lt (digit_value d) 10) ds ≡ true
digits_all [] all = refl
digits_all (d ∷ ds) (low, all) = rw (lt-ltb (digit_value d) 10 low, digits_all ds all)

no_x : (b : ℕ) (ds : List ℕ) → AllDigits 10 ds → (b == 48 && slice_index (b ∷ ds) 1 == 120) ≡ false
no_x b [] all = and_no (b == 48) false refl
no_x b (d ∷ ds) (low, all) = and_no (b == 48) (d == 120) (digit_no_x d low)

number_in_decimal : (b : ℕ) (ds : List ℕ) (n : ℕ) → AllDigits 10 (b ∷ ds) → digits_value 10 (b ∷ ds) ≡ n → n < 2 ^ 32 → number_in 10 (b ∷ ds) ≡ Some n
unfolding number_in
number_in_decimal b ds n all value low =
    let small : nat_lt n (2 ^ 32) ≡ true = lt-ltb n (2 ^ 32) low in
    rw (some_length b ds, digits_all (b ∷ ds) all, value, small)

number_of_decimal : (b : ℕ) (ds : List ℕ) (n : ℕ) → AllDigits 10 (b ∷ ds) → digits_value 10 (b ∷ ds) ≡ n → n < 2 ^ 32 → number_of (b ∷ ds) ≡ Some n
number_of_decimal b ds n all value low = rw (no_x b ds all.1) (number_in_decimal b ds n all value low)

-- the digits of a number, of which there is one
record Digits (n : ℕ) : Type 0 where
  first : ℕ
  more : List ℕ
  is : decimal n ≡ first ∷ more
  all : AllDigits 10 (first ∷ more)
  value : digits_value 10 (first ∷ more) ≡ n

digits_from : (n : ℕ) (ds : List ℕ) → decimal n ≡ ds → IsNumeral 10 ds → digits_value 10 ds ≡ n → Digits n
digits_from n [] is numeral value = absurd (omega (arith, numeral.0))
digits_from n (d ∷ ds) is numeral value = record { first = d; more = ds; is = is; all = numeral.1; value = value }

digits_of : (n : ℕ) → n < 2 ^ 64 → Digits n
digits_of n low = let both = decimal_is_IsNumeral n low in digits_from n (decimal n) refl both.0 both.1

pub number_printed : (n : ℕ) (rest : List ℕ) → n < 2 ^ 32 → Stops rest → number_at (decimal n ++ rest) ≡ Some (n, rest)
number_printed n rest low stops =
    let wide : n < 2 ^ 64 = omega arith in
    let d : Digits n = digits_of n wide in
    rw d.is (number_here d.first d.more rest n (digit_dark d.first d.all.0) (digits_run (d.first ∷ d.more) d.all) stops (number_of_decimal d.first d.more n d.all d.value low))

pub decimal_run : (n : ℕ) → n < 2 ^ 64 → IsRun (decimal n)
decimal_run n low = digits_run (decimal n) (decimal_is_IsNumeral n low).0.1

-- the label of a place
abbrev pub label_name : ℕ → List ℕ
label_name place = codes "L" ++ decimal place

pub name_printed : (place : ℕ) (rest : List ℕ) → place < 2 ^ 64 → Stops rest → word_at (label_name place ++ rest) ≡ Some (label_name place, rest)
name_printed place rest low stops = word_here 76 (decimal place) rest refl refl (decimal_run place low) stops
