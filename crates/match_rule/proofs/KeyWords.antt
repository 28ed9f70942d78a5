-- The words of keys have no blank, no `=` and no comma.
use Rattle.std.proofs.Common.{◌≡◌, ℕ, Bool, true, false, cond, List, [], ◌∷◌, ◌++◌, drop, length, refl, ap, ◌∙◌, arith}
use Rattle.std.specs.Prelude.{Ok, Err, Option, Some, None, not, ◌==◌, ◌&&◌}
use Rattle.std.specs.List.{list_all}
use Rattle.std.specs.Cmp.Derive.{both_true}
use Rattle.std.proofs.lemmas.Bool.{and_parts}
use Rattle.std.proofs.lemmas.Bool.Decides.{nat_tests}
use Rattle.std.proofs.lemmas.List.Folds.{list_all-append}
use Rattle.match_key.specs.declared.error.RuleError.TheVariants.{UnknownKey}
use Rattle.match_key.specs.declared.key.Key.{Key}
use Rattle.match_key.specs.declared.relation.Relation.{Relation}
use Rattle.match_key.specs.Rows.{row_of}
use Rattle.match_key.specs.Key.{key_words, arg_suffixes, key_named, digits_of, after_digits, arg_number, suffixed_key, or_key, arg_key, is_of_arg}
use Rattle.match_rule.specs.Grammar.{is_blank, comma, equals}
use Rattle.match_rule.specs.Reading.{after_blanks, word_at}
use Rattle.match_key.proofs.Rows.{row_found}
use Rattle.match_key.proofs.ArgNames.{of_arg}
use Rattle.match_rule.proofs.PartReads.{guard_ok}

-- a byte that may stand in the word of a key
abbrev is_plain : ℕ → Bool
is_plain b = not (b == equals) && not (b == comma) && not (is_blank b)

abbrev pub is_plain_word : List ℕ → Bool
is_plain_word [] = false
is_plain_word (b ∷ bs) = is_plain b && list_all is_plain bs

plain_parts : (opens ends blank : Bool) → (not opens && not ends && not blank) ≡ true → (opens ≡ false) × (ends ≡ false) × (blank ≡ false)
plain_parts opens ends blank e = (grind arith, grind arith, grind arith)

-- ---- words are read to their `=`

front_read : (word rest : List ℕ) → list_all is_plain word ≡ true → word_at (word ++ equals ∷ rest) ≡ Some (word, rest)
front_read [] rest e = refl
front_read (b ∷ bs) rest e =
    let h = and_parts (is_plain b) (list_all is_plain bs) e in
    let p = plain_parts (b == equals) (b == comma) (is_blank b) h.0 in
    rw (p.0, p.1, front_read bs rest h.1) refl

pub word_read : (word rest : List ℕ) → is_plain_word word ≡ true → word_at (word ++ equals ∷ rest) ≡ Some (word, rest)
word_read [] rest e = absurd cc
word_read (b ∷ bs) rest e = front_read (b ∷ bs) rest e

pub word_no_blank : (word rest : List ℕ) → is_plain_word word ≡ true → after_blanks (word ++ rest) ≡ word ++ rest
word_no_blank [] rest e = absurd cc
word_no_blank (b ∷ bs) rest e =
    let h = and_parts (is_plain b) (list_all is_plain bs) e in
    let p = plain_parts (b == equals) (b == comma) (is_blank b) h.0 in
    rw p.2 refl

-- ---- the words of keys

pub split_digits : (bytes : List ℕ) → bytes ≡ digits_of bytes ++ after_digits bytes
split_digits [] = refl
split_digits (b ∷ bs) = grind (arith, split_digits bs)

digits_plain : (bytes : List ℕ) → list_all is_plain (digits_of bytes) ≡ true
digits_plain [] = refl
digits_plain (b ∷ bs) = grind (arith, nat_tests, digits_plain bs)

-- what stands after the digits of a key
suffix_plain : (digits suffix : List ℕ) (key : Key) → arg_key digits suffix ≡ Ok key → list_all is_plain suffix ≡ true
suffix_plain digits suffix key e = go (row_of arg_suffixes suffix) refl (guard_ok (length digits == 0) UnknownKey _ key e).1
  where
    go : (row : Option (Relation × ℕ)) → row_of arg_suffixes suffix ≡ row → suffixed_key row (arg_number digits) ≡ Ok key → list_all is_plain suffix ≡ true
    go None is e = absurd cc
    go (Some row) is e = row_found (λ (r : List ℕ × (Relation × ℕ)). list_all is_plain r.0) arg_suffixes suffix row refl is

arg_plain : (word rest : List ℕ) (key : Key) → word ≡ 97 ∷ 114 ∷ 103 ∷ rest → arg_key (digits_of rest) (after_digits rest) ≡ Ok key → is_plain_word word ≡ true
arg_plain word rest key is e =
    let plain : list_all is_plain rest ≡ true =
    ap (list_all is_plain) (split_digits rest) ∙ list_all-append is_plain (digits_of rest) (after_digits rest)
    ∙ both_true (digits_plain rest) (suffix_plain (digits_of rest) (after_digits rest) key e) in
    rw is plain

-- a key's word is plain
pub known_plain : (word : List ℕ) (key : Key) → key_named word ≡ Ok key → is_plain_word word ≡ true
known_plain word key e = go (row_of key_words word) refl (is_of_arg word) refl e
  where
    go : (found : Option Key) → row_of key_words word ≡ found → (begins : Bool) → is_of_arg word ≡ begins
        → or_key found (cond begins (arg_key (digits_of (drop 3 word)) (after_digits (drop 3 word))) (Err UnknownKey)) ≡ Ok key → is_plain_word word ≡ true
    go (Some named) is begins arg e =
        let same : named ≡ key = cc in
        row_found (λ (r : List ℕ × Key). is_plain_word r.0) key_words word key refl (is ∙ ap (λ k. Some k) same)
    go None is true arg e = arg_plain word (drop 3 word) key (of_arg word arg) e
    go None is false arg e = absurd cc
