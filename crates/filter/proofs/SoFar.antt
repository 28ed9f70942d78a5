-- What the tokens that were read so far spell.
use Rattle.std.proofs.Common.{◌≡◌, ℕ, ◌+◌, ◌≤◌, ◌<◌, List, [], ◌∷◌, ◌++◌, refl, sym, ap, ◌∙◌, subst, append_assoc, arith, add-one}
use Rattle.std.proofs.lemmas.List.{append-nil}
use Rattle.filter.specs.declared.token.Sign.TheVariants.{Opens, Closes}
use Rattle.filter.specs.Tokens.{Lexeme, sign}
use Rattle.filter.specs.FilterTree.{FilterTree, negation, all_of, with_nots}
use Rattle.filter.specs.Levels.{LevelTree, Nest, empty_level, open_in, count_open, max_open, filter_of, with_not, with_one, with_or, nest_one, nest_or}
use Rattle.filter.specs.Grammar.{not_word, and_word, or_word, IsOne, a_not, a_group, AreOnes, last_one, more_ones, AreAlls, last_all, more_alls, IsFilter, a_list}
use Rattle.filter.proofs.Derived.{negated_more}

-- ---- one level: what follows completes what was read

-- lists of `and`, with an `or` after each
abbrev pub Ors : ℕ → List Lexeme → List FilterTree → Type 0
Ors n ts fs = (us : List Lexeme) (gs : List FilterTree) → AreAlls n us gs → AreAlls n (ts ++ us) (fs ++ gs)

-- filters with an `and` after each
abbrev pub Ands : ℕ → List Lexeme → List FilterTree → Type 0
Ands n ts fs = (us : List Lexeme) (gs : List FilterTree) → AreOnes n us gs → AreOnes n (ts ++ us) (fs ++ gs)

-- n times `not`
abbrev pub Nots : ℕ → ℕ → List Lexeme → Type 0
Nots n k ts = (us : List Lexeme) (f : FilterTree) → IsOne (k + n) us f → IsOne n (ts ++ us) (with_nots k f)

-- a filter is wanted next
pub record Waits (n : ℕ) (l : LevelTree) (front : List Lexeme) : Type 0 where
  pub or_tokens : List Lexeme
  pub and_tokens : List Lexeme
  pub not_tokens : List Lexeme
  pub ors : Ors n or_tokens l.alls
  pub ands : Ands n and_tokens l.ones
  pub nots : Nots n l.nots not_tokens
  pub front_is : front ≡ or_tokens ++ (and_tokens ++ not_tokens)

-- a filter came last
pub record HasOne (n : ℕ) (l : LevelTree) (front : List Lexeme) : Type 0 where
  pub or_tokens : List Lexeme
  pub and_tokens : List Lexeme
  pub ors : Ors n or_tokens l.alls
  pub ands : AreOnes n and_tokens l.ones
  pub nots : l.nots ≡ 0
  pub front_is : front ≡ or_tokens ++ and_tokens

pub nothing : (n : ℕ) → Waits n empty_level []
nothing n = record { or_tokens = []; and_tokens = []; not_tokens = []; ors = λ us gs d. d; ands = λ us gs d. d; nots = λ us f d. let m : 0 + n ≡ n = omega arith in subst (λ (k : ℕ). IsOne k us f) m d; front_is = refl }

three : (a b c d : List Lexeme) → (a ++ (b ++ c)) ++ d ≡ a ++ (b ++ (c ++ d))
three a b c d = append_assoc a (b ++ c) d ∙ ap (λ x. a ++ x) (append_assoc b c d)

pub after_one : (n : ℕ) (l : LevelTree) (front us : List Lexeme) (f : FilterTree) → Waits n l front → IsOne (l.nots + n) us f → HasOne n (with_one l f) (front ++ us)
after_one n l front us f w d = record {
  or_tokens = w.or_tokens;
  and_tokens = w.and_tokens ++ (w.not_tokens ++ us);
  ors = w.ors;
  ands = w.ands (w.not_tokens ++ us) (with_nots l.nots f ∷ []) (last_one (w.nots us f d));
  nots = refl;
  front_is = ap (λ x. x ++ us) w.front_is ∙ three w.or_tokens w.and_tokens w.not_tokens us;
}

pub after_not : (n : ℕ) (l : LevelTree) (front : List Lexeme) → l.nots + n < max_open → Waits n l front → Waits n (with_not l) (front ++ not_word ∷ [])
after_not n l front few w = record {
  or_tokens = w.or_tokens;
  and_tokens = w.and_tokens;
  not_tokens = w.not_tokens ++ not_word ∷ [];
  ors = w.ors;
  ands = w.ands;
  nots = λ us f d.
      let deeper : l.nots + 1 + n ≡ l.nots + n + 1 = omega arith in
      let inside : IsOne (l.nots + n) (not_word ∷ us) (negation f) = a_not few (subst (λ (k : ℕ). IsOne k us f) deeper d) in
      let tokens : w.not_tokens ++ (not_word ∷ us) ≡ (w.not_tokens ++ not_word ∷ []) ++ us = sym (append_assoc w.not_tokens (not_word ∷ []) us) in
      let filter : with_nots l.nots (negation f) ≡ with_nots (l.nots + 1) f = rw add-one (negated_more l.nots f) in
      subst (λ (ts : List Lexeme). IsOne n ts (with_nots (l.nots + 1) f)) tokens (subst (λ (g : FilterTree). IsOne n (w.not_tokens ++ (not_word ∷ us)) g) filter (w.nots (not_word ∷ us) (negation f) inside));
  front_is = ap (λ x. x ++ not_word ∷ []) w.front_is ∙ three w.or_tokens w.and_tokens w.not_tokens (not_word ∷ []);
}

join_ones : {n : ℕ} {ts : List Lexeme} {fs : List FilterTree} → AreOnes n ts fs → (us : List Lexeme) (gs : List FilterTree) → AreOnes n us gs → AreOnes n (ts ++ and_word ∷ us) (fs ++ gs)
join_ones (last_one d) us gs e = more_ones d e
join_ones (more_ones {n} {ts} {us = vs} {f} {fs} d ds) us gs e =
    subst (λ (xs : List Lexeme). AreOnes n xs (f ∷ (fs ++ gs))) (sym (append_assoc ts (and_word ∷ vs) (and_word ∷ us))) (more_ones d (join_ones ds us gs e))

no_nots : (n k : ℕ) → k ≡ 0 → Nots n k []
no_nots n k none us f d = rw none (let m : k + n ≡ n = omega arith in subst (λ (j : ℕ). IsOne j us f) m d)

pub after_and : (n : ℕ) (l : LevelTree) (front : List Lexeme) → HasOne n l front → Waits n l (front ++ and_word ∷ [])
after_and n l front h = record {
  or_tokens = h.or_tokens;
  and_tokens = h.and_tokens ++ and_word ∷ [];
  not_tokens = [];
  ors = h.ors;
  ands = λ us gs d. subst (λ (xs : List Lexeme). AreOnes n xs (l.ones ++ gs)) (sym (append_assoc h.and_tokens (and_word ∷ []) us)) (join_ones h.ands us gs d);
  nots = no_nots n l.nots h.nots;
  front_is = ap (λ x. x ++ and_word ∷ []) h.front_is ∙ append_assoc h.or_tokens h.and_tokens (and_word ∷ []) ∙ ap (λ x. h.or_tokens ++ x) (sym (append-nil (h.and_tokens ++ and_word ∷ [])));
}

pub after_or : (n : ℕ) (l : LevelTree) (front : List Lexeme) → HasOne n l front → Waits n (with_or l) (front ++ or_word ∷ [])
after_or n l front h = record {
  or_tokens = h.or_tokens ++ (h.and_tokens ++ or_word ∷ []);
  and_tokens = [];
  not_tokens = [];
  ors = λ us gs d.
      let tokens : h.or_tokens ++ (h.and_tokens ++ (or_word ∷ us)) ≡ (h.or_tokens ++ (h.and_tokens ++ or_word ∷ [])) ++ us = sym (three h.or_tokens h.and_tokens (or_word ∷ []) us) in
      let filters : l.alls ++ (all_of l.ones ∷ gs) ≡ (l.alls ++ all_of l.ones ∷ []) ++ gs = sym (append_assoc l.alls (all_of l.ones ∷ []) gs) in
      subst (λ (xs : List Lexeme). AreAlls n xs ((l.alls ++ all_of l.ones ∷ []) ++ gs)) tokens
      (subst (λ (fs : List FilterTree). AreAlls n (h.or_tokens ++ (h.and_tokens ++ (or_word ∷ us))) fs) filters (h.ors (h.and_tokens ++ (or_word ∷ us)) (all_of l.ones ∷ gs) (more_alls h.ands d)));
  ands = λ us gs d. d;
  nots = no_nots n l.nots h.nots;
  front_is = ap (λ x. x ++ or_word ∷ []) h.front_is ∙ append_assoc h.or_tokens h.and_tokens (or_word ∷ []) ∙ sym (append-nil (h.or_tokens ++ (h.and_tokens ++ or_word ∷ [])));
}

pub level_filter : (n : ℕ) (l : LevelTree) (front : List Lexeme) → HasOne n l front → IsFilter n front (filter_of l)
level_filter n l front h =
    subst (λ (ts : List Lexeme). IsFilter n ts (filter_of l)) (sym h.front_is) (a_list (h.ors h.and_tokens (all_of l.ones ∷ []) (last_all h.ands)))

-- ---- all levels

abbrev pub Outer : List LevelTree → List Lexeme → Type 0
Outer [] front = front ≡ []
Outer (l ∷ ls) front = (us : List Lexeme) × (vs : List Lexeme) × Outer ls us × Waits (count_open ls) l vs × (front ≡ us ++ (vs ++ sign Opens ∷ []))

pub record IsWaiting (nest : Nest) (front : List Lexeme) : Type 0 where
  pub outer_tokens : List Lexeme
  pub inner_tokens : List Lexeme
  pub around : Outer nest.outer outer_tokens
  pub within : Waits (count_open nest.outer) nest.inner inner_tokens
  pub tokens_are : front ≡ outer_tokens ++ inner_tokens

pub record IsDone (nest : Nest) (front : List Lexeme) : Type 0 where
  pub outer_tokens : List Lexeme
  pub inner_tokens : List Lexeme
  pub around : Outer nest.outer outer_tokens
  pub within : HasOne (count_open nest.outer) nest.inner inner_tokens
  pub tokens_are : front ≡ outer_tokens ++ inner_tokens

longer : (front us vs ws : List Lexeme) → front ≡ us ++ vs → front ++ ws ≡ us ++ (vs ++ ws)
longer front us vs ws is = ap (λ x. x ++ ws) is ∙ append_assoc us vs ws

pub nest_after_one : (nest : Nest) (front us : List Lexeme) (f : FilterTree) → IsWaiting nest front → IsOne (open_in nest) us f → IsDone (nest_one nest f) (front ++ us)
nest_after_one nest front us f w d = record {
  outer_tokens = w.outer_tokens;
  inner_tokens = w.inner_tokens ++ us;
  around = w.around;
  within = after_one (count_open nest.outer) nest.inner w.inner_tokens us f w.within d;
  tokens_are = longer front w.outer_tokens w.inner_tokens us w.tokens_are;
}

pub nest_after_not : (nest : Nest) (front : List Lexeme) → open_in nest < max_open → IsWaiting nest front → IsWaiting (record { outer = nest.outer; inner = with_not nest.inner }) (front ++ not_word ∷ [])
nest_after_not nest front few w = record {
  outer_tokens = w.outer_tokens;
  inner_tokens = w.inner_tokens ++ not_word ∷ [];
  around = w.around;
  within = after_not (count_open nest.outer) nest.inner w.inner_tokens few w.within;
  tokens_are = longer front w.outer_tokens w.inner_tokens (not_word ∷ []) w.tokens_are;
}

pub nest_after_open : (nest : Nest) (front : List Lexeme) → IsWaiting nest front → IsWaiting (record { outer = nest.inner ∷ nest.outer; inner = empty_level }) (front ++ sign Opens ∷ [])
nest_after_open nest front w = record {
  outer_tokens = w.outer_tokens ++ (w.inner_tokens ++ sign Opens ∷ []);
  inner_tokens = [];
  around = (w.outer_tokens, w.inner_tokens, w.around, w.within, refl);
  within = nothing (count_open (nest.inner ∷ nest.outer));
  tokens_are = longer front w.outer_tokens w.inner_tokens (sign Opens ∷ []) w.tokens_are ∙ sym (append-nil (w.outer_tokens ++ (w.inner_tokens ++ sign Opens ∷ [])));
}

pub nest_after_and : (nest : Nest) (front : List Lexeme) → IsDone nest front → IsWaiting nest (front ++ and_word ∷ [])
nest_after_and nest front h = record {
  outer_tokens = h.outer_tokens;
  inner_tokens = h.inner_tokens ++ and_word ∷ [];
  around = h.around;
  within = after_and (count_open nest.outer) nest.inner h.inner_tokens h.within;
  tokens_are = longer front h.outer_tokens h.inner_tokens (and_word ∷ []) h.tokens_are;
}

pub nest_after_or : (nest : Nest) (front : List Lexeme) → IsDone nest front → IsWaiting (nest_or nest) (front ++ or_word ∷ [])
nest_after_or nest front h = record {
  outer_tokens = h.outer_tokens;
  inner_tokens = h.inner_tokens ++ or_word ∷ [];
  around = h.around;
  within = after_or (count_open nest.outer) nest.inner h.inner_tokens h.within;
  tokens_are = longer front h.outer_tokens h.inner_tokens (or_word ∷ []) h.tokens_are;
}

pub nest_after_close : (l : LevelTree) (ls : List LevelTree) (inner : LevelTree) (front : List Lexeme) → count_open (l ∷ ls) ≤ max_open → IsDone (record { outer = l ∷ ls; inner = inner }) front → IsDone (record { outer = ls; inner = with_one l (filter_of inner) }) (front ++ sign Closes ∷ [])
nest_after_close l ls inner front few h =
    let us : List Lexeme = h.around.0 in
    let vs : List Lexeme = h.around.1 in
    let ws : List Lexeme = h.inner_tokens in
    let inside : IsFilter (count_open (l ∷ ls)) ws (filter_of inner) = level_filter (count_open (l ∷ ls)) inner ws h.within in
    let group : IsOne (l.nots + count_open ls) (sign Opens ∷ (ws ++ sign Closes ∷ [])) (filter_of inner) = a_group (omega arith) inside in
    record {
      outer_tokens = us;
      inner_tokens = vs ++ (sign Opens ∷ (ws ++ sign Closes ∷ []));
      around = h.around.2;
      within = after_one (count_open ls) l vs (sign Opens ∷ (ws ++ sign Closes ∷ [])) (filter_of inner) h.around.3 group;
      tokens_are = longer front h.outer_tokens ws (sign Closes ∷ []) h.tokens_are ∙ ap (λ x. x ++ (ws ++ sign Closes ∷ [])) h.around.4 ∙ three us vs (sign Opens ∷ []) (ws ++ sign Closes ∷ []);
    }

pub nest_filter : (inner : LevelTree) (front : List Lexeme) → IsDone (record { outer = []; inner = inner }) front → IsFilter 0 front (filter_of inner)
nest_filter inner front h =
    let tokens : front ≡ h.inner_tokens = h.tokens_are ∙ ap (λ x. x ++ h.inner_tokens) h.around in
    subst (λ (ts : List Lexeme). IsFilter 0 ts (filter_of inner)) (sym tokens) (level_filter 0 inner h.inner_tokens h.within)
