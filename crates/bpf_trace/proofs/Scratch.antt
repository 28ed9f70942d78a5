-- The scratch words of the code, as the definitions have them.
use Rattle.std.proofs.Common.{◌≡◌, ◌≢◌, ℕ, zero, suc, ◌+◌, ◌<◌, ◌≤◌, append_assoc, Bool, true, false, eqb, List, [], ◌∷◌, ◌++◌, length, get_or, set, replicate, Option, Some, None, refl, sym, ap, ◌∙◌, arith, add-one}
use Rattle.std.proofs.lemmas.Bool.{eqb-true, eqb-false}
use Rattle.std.proofs.lemmas.List.{get_or-set_same, get_or-set_other}
use Rattle.bpf_code.specs.Steps.{State, start, with_word}
use Rattle.bpf_trace.specs.Lines.{scratch_text, scratch_texts}
use mathlib.Core.Path.{fun_ext}

abbrev pub words_of : List (Option ℕ) → ℕ → Option ℕ
words_of words k = get_or words k None

-- one word is set
stored_by : (words : List (Option ℕ)) (m v j : ℕ) → m < length words → (b : Bool) → b ≡ eqb j m → words_of (set words m (Some v)) j ≡ with_word (words_of words) m v j
stored_by words m v j small true is =
    let e : j ≡ m = eqb-true j m (sym is) in
    rw (← is) (rw e (get_or-set_same words m (Some v) None small))
stored_by words m v j small false is =
    let ne : j ≢ m = eqb-false j m (sym is) in
    rw (← is) (get_or-set_other words m j (Some v) None ne)

pub stored : (words : List (Option ℕ)) (m v : ℕ) → m < length words → words_of (set words m (Some v)) ≡ with_word (words_of words) m v
stored words m v small = fun_ext (λ j. stored_by words m v j small (eqb j m) refl)

-- none is set
none_at : (n k : ℕ) → words_of (replicate n None) k ≡ None
none_at zero k = refl
none_at (suc n) zero = refl
none_at (suc n) (suc k) = none_at n k

pub none_set : (n : ℕ) → words_of (replicate n None) ≡ (λ (k : ℕ). None)
none_set n = fun_ext (λ k. none_at n k)

-- there is none after the last
pub none_after : (words : List (Option ℕ)) (k : ℕ) → length words ≤ k → words_of words k ≡ None
none_after [] k beyond = refl
none_after (word ∷ words) zero beyond = absurd (omega arith)
none_after (word ∷ words) (suc k) beyond = none_after words k (omega arith)

-- configurations with the same words
pub with_words : (place a x : ℕ) (words others : ℕ → Option ℕ) → words ≡ others → (let s : State = record { place = place; a = a; x = x; words = words } in s) ≡ record { place = place; a = a; x = x; words = others }
with_words place a x words others is = ap (λ (w : ℕ → Option ℕ). let s : State = record { place = place; a = a; x = x; words = w } in s) is

-- the text of one word more
one_text_more : (words : ℕ → Option ℕ) (n : ℕ) → scratch_texts words (n + 1) ≡ scratch_texts words n ++ scratch_text n (words n)
unfolding scratch_texts
one_text_more words n = rw add-one refl

pub no_texts : (words : ℕ → Option ℕ) → scratch_texts words 0 ≡ []
unfolding scratch_texts
no_texts words = refl

-- the text of one word more was added
pub texts_more : (words : ℕ → Option ℕ) (k : ℕ) (word : Option ℕ) (start text new : List ℕ) → word ≡ words k → text ≡ start ++ scratch_texts words k → new ≡ text ++ scratch_text k word → new ≡ start ++ scratch_texts words (k + 1)
texts_more words k word start text new is before adds =
    adds ∙ ap (λ (w : Option ℕ). text ++ scratch_text k w) is ∙ ap (λ (t : List ℕ). t ++ scratch_text k (words k)) before
    ∙ append_assoc start (scratch_texts words k) (scratch_text k (words k))
    ∙ ap (λ (t : List ℕ). start ++ t) (sym (one_text_more words k))
