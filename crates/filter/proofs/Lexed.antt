-- Texts of which a list of tokens is read, whatever stands behind them.
use Rattle.std.proofs.Common.{◌≡◌, ℕ, suc, ◌+◌, Bool, true, false, not, List, [], ◌∷◌, ◌++◌, length, drop, refl, sym, ap, ◌∙◌, subst, append_assoc, length-append, arith}
use Rattle.std.specs.Prelude.{codes, Some, Ok}
use Rattle.std.specs.List.{list_all, prefix_len}
use Rattle.std.proofs.Math.Seq.{take-append_seam, drop-append_seam}
use Rattle.std.proofs.lemmas.Bool.{and_parts}
use Rattle.std.proofs.lemmas.Bool.Decides.{nat_tests}
use Rattle.filter.specs.Lexis.{is_blank, is_word_byte, quoted_len}
use Rattle.filter.specs.Tokens.{Lexeme, word, quoted, Item, token, token_at, item_then, items_from}
use Rattle.filter.specs.Grammar.{AreTokens}
use Rattle.filter.specs.Printing.{quoted_text}
use Rattle.filter.proofs.CanonicalTokens.{escaped}
use Rattle.filter.proofs.Escaped.{escaped_len, escaped_good}
use Rattle.filter.proofs.PastTurns.{skips}

-- whether a word ends before a text
abbrev pub ends : List ℕ → Bool
ends [] = true
ends (b ∷ bs) = not (is_word_byte b)

-- the tokens are read of the text, if what stands behind ends a word
pub record IsLexed (text : List ℕ) (tokens : List Lexeme) : Type 0 where
  pub on : (rest : List ℕ) (more : List Lexeme) → ends rest ≡ true → ((place : ℕ) → AreTokens (items_from 0 place rest) more) → (place : ℕ) → AreTokens (items_from 0 place (text ++ rest)) (tokens ++ more)

-- the same, whatever stands behind
pub record IsFree (text : List ℕ) (tokens : List Lexeme) : Type 0 where
  pub on : (rest : List ℕ) (more : List Lexeme) → ((place : ℕ) → AreTokens (items_from 0 place rest) more) → (place : ℕ) → AreTokens (items_from 0 place (text ++ rest)) (tokens ++ more)

pub nothing_lexed : IsLexed [] []
nothing_lexed = record { on = λ rest us e on p. on p }

pub free_lexed : {x : List ℕ} {ts : List Lexeme} → IsFree x ts → IsLexed x ts
free_lexed h = record { on = λ rest us e on p. h.on rest us on p }

regroup : (x y rest : List ℕ) (ts us vs : List Lexeme) (p : ℕ) → AreTokens (items_from 0 p (x ++ (y ++ rest))) (ts ++ (us ++ vs)) → AreTokens (items_from 0 p ((x ++ y) ++ rest)) ((ts ++ us) ++ vs)
regroup x y rest ts us vs p h =
    subst (λ (z : List ℕ). AreTokens (items_from 0 p z) ((ts ++ us) ++ vs)) (sym (append_assoc x y rest))
    (subst (λ (ws : List Lexeme). AreTokens (items_from 0 p (x ++ (y ++ rest))) ws) (sym (append_assoc ts us vs)) h)

pub then_lexed : {x y : List ℕ} {ts us : List Lexeme} → IsFree x ts → IsLexed y us → IsLexed (x ++ y) (ts ++ us)
then_lexed {x = x} {y = y} {ts = ts} {us = us} h k = record { on = λ rest vs e on p. regroup x y rest ts us vs p (h.on (y ++ rest) (us ++ vs) (λ q. k.on rest vs e on q) p) }

pub lexed_then : {x y : List ℕ} {ts us : List Lexeme} → IsLexed x ts → ((rest : List ℕ) → ends rest ≡ true → ends (y ++ rest) ≡ true) → IsLexed y us → IsLexed (x ++ y) (ts ++ us)
lexed_then {x = x} {y = y} {ts = ts} {us = us} h ends k = record { on = λ rest vs e on p. regroup x y rest ts us vs p (h.on (y ++ rest) (us ++ vs) (ends rest e) (λ q. k.on rest vs e on q) p) }

pub lexed_free : {x y : List ℕ} {ts us : List Lexeme} → IsLexed x ts → ((rest : List ℕ) → ends (y ++ rest) ≡ true) → IsFree y us → IsFree (x ++ y) (ts ++ us)
lexed_free {x = x} {y = y} {ts = ts} {us = us} h ends k = record { on = λ rest vs on p. regroup x y rest ts us vs p (h.on (y ++ rest) (us ++ vs) (ends rest) (λ q. k.on rest vs on q) p) }

-- ---- words

word_isnt_blank : (b : ℕ) → is_word_byte b ≡ true → is_blank b ≡ false
word_isnt_blank b h = grind (arith, nat_tests)

ends_prefix : (rest : List ℕ) → ends rest ≡ true → prefix_len is_word_byte rest ≡ 0
ends_prefix [] e = refl
ends_prefix (b ∷ bs) e = go (is_word_byte b) refl e
  where
    go : (t : Bool) → is_word_byte b ≡ t → not t ≡ true → prefix_len is_word_byte (b ∷ bs) ≡ 0
    go true is e = absurd cc
    go false is e = rw is refl

word_prefix : (bs rest : List ℕ) → list_all is_word_byte bs ≡ true → ends rest ≡ true → prefix_len is_word_byte (bs ++ rest) ≡ length bs
word_prefix [] rest h e = ends_prefix rest e
word_prefix (b ∷ bs) rest h e =
    let parts = and_parts (is_word_byte b) (list_all is_word_byte bs) h in
    rw (parts.0, word_prefix bs rest parts.1 e) (omega arith)

front_token : (items : List Item) (p : ℕ) (l : Lexeme) (more : List Item) (us : List Lexeme) → items ≡ token p l ∷ more → AreTokens more us → AreTokens items (l ∷ us)
front_token items p l more us e h = subst (λ (is : List Item). AreTokens is (l ∷ us)) (sym e) (refl, h)

-- what a token of n bytes after its first leaves
skipped : (inside rest : List ℕ) (p : ℕ) → items_from (length inside) p (inside ++ rest) ≡ items_from 0 (p + length inside) rest
skipped inside rest p = skips (length inside) p (inside ++ rest) (omega (arith, length-append inside rest)) ∙ ap (items_from 0 (p + length inside)) (drop-append_seam inside rest)

word_items : (b : ℕ) (bs rest : List ℕ) (p : ℕ) → list_all is_word_byte (b ∷ bs) ≡ true → ends rest ≡ true → items_from 0 p (b ∷ (bs ++ rest)) ≡ token p (word (b ∷ bs)) ∷ items_from 0 (p + 1 + length bs) rest
word_items b bs rest p h e =
    let parts = and_parts (is_word_byte b) (list_all is_word_byte bs) h in
    rw (word_isnt_blank b parts.0, parts.0, word_prefix bs rest parts.1 e, take-append_seam bs rest) (ap (λ (is : List Item). token p (word (b ∷ bs)) ∷ is) (skipped bs rest (p + 1)))

pub word_lexed : (b : ℕ) (bs : List ℕ) → list_all is_word_byte (b ∷ bs) ≡ true → IsLexed (b ∷ bs) (word (b ∷ bs) ∷ [])
word_lexed b bs h = record { on = λ rest us e on p. front_token _ p (word (b ∷ bs)) _ us (word_items b bs rest p h e) (on (p + 1 + length bs)) }

-- a word before a blank
pub word_free : (b : ℕ) (bs : List ℕ) → list_all is_word_byte (b ∷ bs) ≡ true → IsFree (b ∷ (bs ++ codes " ")) (word (b ∷ bs) ∷ [])
word_free b bs h = record { on = λ rest us on p. subst (λ (x : List ℕ). AreTokens (items_from 0 p (b ∷ x)) (word (b ∷ bs) ∷ us)) (sym (append_assoc bs (codes " ") rest)) (front_token _ p (word (b ∷ bs)) _ us (word_items b bs (32 ∷ rest) p h refl) (on (p + 1 + length bs + 1))) }

-- a word between blanks
pub blank_word_free : (b : ℕ) (bs : List ℕ) → list_all is_word_byte (b ∷ bs) ≡ true → IsFree (32 ∷ b ∷ (bs ++ codes " ")) (word (b ∷ bs) ∷ [])
blank_word_free b bs h = record { on = λ rest us on p. (word_free b bs h).on rest us on (p + 1) }

-- ---- texts in quotes

past_front : (xs : List ℕ) (b : ℕ) (rest : List ℕ) → drop (suc (length xs)) (xs ++ b ∷ rest) ≡ rest
past_front [] b rest = refl
past_front (x ∷ xs) b rest = past_front xs b rest

quoted_found : (text rest : List ℕ) (p : ℕ) → token_at p 39 (escaped text ++ 39 ∷ rest) ≡ Ok (quoted (escaped text), suc (length (escaped text)))
quoted_found text rest p =
    let len : quoted_len 39 false 0 (escaped text ++ 39 ∷ rest) ≡ Some (length (escaped text)) = escaped_len text rest 0 ∙ ap Some (omega arith) in
    rw (len, take-append_seam (escaped text) (39 ∷ rest), escaped_good text (p + 1)) refl

quoted_items : (text rest : List ℕ) (p : ℕ) → items_from 0 p (39 ∷ (escaped text ++ 39 ∷ rest)) ≡ token p (quoted (escaped text)) ∷ items_from 0 (p + 1 + suc (length (escaped text))) rest
quoted_items text rest p =
    let inside : List ℕ = escaped text in
    let n : ℕ = suc (length inside) in
    ap (λ r. item_then p r (λ more. items_from more (p + 1) (inside ++ 39 ∷ rest))) (quoted_found text rest p)
    ∙ ap (λ (is : List Item). token p (quoted inside) ∷ is)
    (skips n (p + 1) (inside ++ 39 ∷ rest) (omega (arith, length-append inside (39 ∷ rest))) ∙ ap (items_from 0 (p + 1 + n)) (past_front inside 39 rest))

pub quoted_free : (text : List ℕ) → IsFree (quoted_text text) (quoted (escaped text) ∷ [])
quoted_free text = record {
  on = λ rest us on p.
      subst (λ (x : List ℕ). AreTokens (items_from 0 p (39 ∷ x)) (quoted (escaped text) ∷ us)) (sym (append_assoc (escaped text) (codes "'") rest))
      (front_token _ p (quoted (escaped text)) _ us (quoted_items text rest p) (on _));
}
