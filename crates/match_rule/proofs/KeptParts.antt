-- What the parts in front said, and the terms that they are.
use Rattle.std.proofs.Common.{◌≡◌, ℕ, Bool, true, false, List, [], ◌∷◌, ◌++◌, map, length, refl, sym, ap, ◌∙◌}
use Rattle.std.specs.Prelude.{Option, Some, None, is_some, unwrap_or, Ok, Err, ◌&&◌, ◌||◌, ◌==◌}
use Rattle.std.specs.List.{list_any}
use Rattle.std.proofs.Math.Bool.{or_comm, or-false}
use Rattle.std.proofs.lemmas.List.{append-nil, map-append}
use Rattle.std.proofs.lemmas.List.Folds.{list_any-append}
use Rattle.match_key.specs.declared.error.RuleError.{RuleError}
use Rattle.match_key.specs.declared.key.Key.{Key}
use Rattle.match_key.specs.declared.key.Key.TheVariants as keys
use Rattle.match_rule.specs.declared.condition.Condition.{Condition}
use Rattle.match_rule.specs.declared.term.Term.{Term}
use Rattle.match_rule.specs.declared.term.Term.TheVariants.{Asks, Eavesdrop}
use Rattle.match_key.specs.Key.{is_twice, is_path_twice}
use Rattle.match_rule.specs.Condition.{key_of, term_key, has_key, has_path, conditions_in, is_eavesdrop}
use Rattle.match_rule.specs.Grammar.{rule_with}
use Rattle.match_rule.specs.Reading.{◌>>=◌, after_blanks, part_at, parts_from, terms_at}
use Rattle.match_rule.specs.Gathering.{terms_of, conditions_with, eavesdrop_with, tree_at}
use Rattle.match_rule.proofs.PartReads.{reads_from, part_same, term_is}
use Rattle.match_rule.proofs.Turns.{turn, turn_err}

-- the terms are those conditions, and what one of them said of eavesdropping, in one order or another
pub record AreKept (terms : List Term) (asked : List Condition) (eavesdrop : Option Bool) : Type 0 where
  pub conditions : conditions_in terms ≡ asked
  pub any : (p : Term → Bool) → list_any p terms ≡ list_any p (terms_of asked eavesdrop)

asked_any : (p : Term → Bool) (asked : List Condition) → list_any p (map Asks asked) ≡ list_any (λ c. p (Asks c)) asked
asked_any p [] = refl
asked_any p (c ∷ cs) = ap (λ b. p (Asks c) || b) (asked_any p cs)

-- the keys of terms, by those of conditions
pub asked_keys : (asked : List Condition) (eavesdrop : Option Bool) (key : Key)
    → has_key key (terms_of asked eavesdrop) ≡ (is_some eavesdrop && is_twice keys.Eavesdrop key || list_any (λ c. is_twice (key_of c) key) asked)
asked_keys asked None key = asked_any (λ t. is_twice (term_key t) key) asked
asked_keys asked (Some flag) key = ap (λ b. is_twice keys.Eavesdrop key || b) (asked_any (λ t. is_twice (term_key t) key) asked)

pub asked_paths : (asked : List Condition) (eavesdrop : Option Bool) (key : Key) → has_path key (terms_of asked eavesdrop) ≡ list_any (λ c. is_path_twice (key_of c) key) asked
asked_paths asked None key = asked_any (λ t. is_path_twice (term_key t) key) asked
asked_paths asked (Some flag) key = asked_any (λ t. is_path_twice (term_key t) key) asked

conditions_in-append : (terms others : List Term) → conditions_in (terms ++ others) ≡ conditions_in terms ++ conditions_in others
conditions_in-append [] others = refl
conditions_in-append (Asks condition ∷ terms) others = ap (λ (cs : List Condition). condition ∷ cs) (conditions_in-append terms others)
conditions_in-append (Eavesdrop flag ∷ terms) others = conditions_in-append terms others

terms_of-more : (asked : List Condition) (eavesdrop : Option Bool) (condition : Condition) → terms_of (asked ++ condition ∷ []) eavesdrop ≡ terms_of asked eavesdrop ++ Asks condition ∷ []
terms_of-more asked None condition = map-append Asks asked (condition ∷ [])
terms_of-more asked (Some flag) condition = ap (λ (ts : List Term). Eavesdrop flag ∷ ts) (map-append Asks asked (condition ∷ []))

kept_more : (terms : List Term) (asked : List Condition) (eavesdrop : Option Bool) (term : Term) → AreKept terms asked eavesdrop → has_key (term_key term) terms ≡ false → AreKept (terms ++ term ∷ []) (conditions_with asked term) (eavesdrop_with eavesdrop term)
kept_more terms asked eavesdrop (Asks condition) kept new = record {
  conditions = conditions_in-append terms (Asks condition ∷ []) ∙ ap (λ (cs : List Condition). cs ++ condition ∷ []) kept.conditions;
  any = λ p.
      list_any-append p terms (Asks condition ∷ []) ∙ ap (λ b. b || list_any p (Asks condition ∷ [])) (kept.any p)
      ∙ sym (list_any-append p (terms_of asked eavesdrop) (Asks condition ∷ [])) ∙ ap (list_any p) (sym (terms_of-more asked eavesdrop condition));
}
kept_more terms asked (Some other) (Eavesdrop flag) kept new =
    let twice : true ≡ false = sym (kept.any (λ t. is_twice (term_key t) keys.Eavesdrop)) ∙ new in absurd cc
kept_more terms asked None (Eavesdrop flag) kept new = record {
  conditions = conditions_in-append terms (Eavesdrop flag ∷ []) ∙ append-nil (conditions_in terms) ∙ kept.conditions;
  any = λ p.
      list_any-append p terms (Eavesdrop flag ∷ []) ∙ or_comm (list_any p terms) (p (Eavesdrop flag) || false)
      ∙ ap (λ b. b || list_any p terms) (or-false (p (Eavesdrop flag))) ∙ ap (λ b. p (Eavesdrop flag) || b) (kept.any p);
}

-- the parts of the rest, after those of these terms, make the text's
pub record IsTurn (asked : List Condition) (eavesdrop : Option Bool) (rest text : List ℕ) : Type 0 where
  pub terms : List Term
  pub kept : AreKept terms asked eavesdrop
  pub reads : parts_from (length rest) terms rest ≡ terms_at text

pub first_turn : (text : List ℕ) → IsTurn [] None (after_blanks text) text
first_turn text = record { terms = []; kept = record { conditions = refl; any = λ p. refl }; reads = refl }

same_part : (asked : List Condition) (eavesdrop : Option Bool) (rest text : List ℕ) (turn : IsTurn asked eavesdrop rest text) → part_at turn.terms rest ≡ part_at (terms_of asked eavesdrop) rest
same_part asked eavesdrop rest text turn = part_same turn.terms (terms_of asked eavesdrop) rest turn.kept.any

pub next_turn : (asked : List Condition) (eavesdrop : Option Bool) (rest text : List ℕ) (term : Term) (tail : List ℕ) → IsTurn asked eavesdrop rest text → part_at (terms_of asked eavesdrop) rest ≡ Ok (term, tail) → IsTurn (conditions_with asked term) (eavesdrop_with eavesdrop term) (after_blanks tail) text
next_turn asked eavesdrop rest text term tail t e =
    let part = same_part asked eavesdrop rest text t ∙ e in
    let r = reads_from t.terms rest term tail part in
    let key = (term_is r.key r.value term r.allowed).0 in
    record {
      terms = t.terms ++ term ∷ [];
      kept = kept_more t.terms asked eavesdrop term t.kept (ap (λ k. has_key k t.terms) key ∙ r.new);
      reads = turn t.terms rest term tail part ∙ t.reads;
    }

-- a fault of a part is the text's
pub fault_turn : (asked : List Condition) (eavesdrop : Option Bool) (rest text : List ℕ) (fault : RuleError) → IsTurn asked eavesdrop rest text → (length rest == 0) ≡ false → part_at (terms_of asked eavesdrop) rest ≡ Err fault → tree_at text ≡ Err fault
fault_turn asked eavesdrop rest text fault t some e =
    ap (λ read. read >>= λ terms. Ok (rule_with terms)) (sym t.reads ∙ turn_err t.terms rest fault some (same_part asked eavesdrop rest text t ∙ e))

said_eavesdrop : (asked : List Condition) (eavesdrop : Option Bool) → list_any is_eavesdrop (terms_of asked eavesdrop) ≡ unwrap_or eavesdrop false
said_eavesdrop [] None = refl
said_eavesdrop [] (Some flag) = or-false flag
said_eavesdrop (c ∷ cs) None = said_eavesdrop cs None
said_eavesdrop (c ∷ cs) (Some flag) = said_eavesdrop cs (Some flag)

-- with nothing left the rule is read
pub last_turn : (asked : List Condition) (eavesdrop : Option Bool) (rest text : List ℕ) → IsTurn asked eavesdrop rest text → rest ≡ [] → tree_at text ≡ Ok (record { conditions = asked; eavesdrops = unwrap_or eavesdrop false })
last_turn asked eavesdrop rest text t none =
    let read : terms_at text ≡ Ok t.terms = sym t.reads ∙ ap (λ (bytes : List ℕ). parts_from (length bytes) t.terms bytes) none in
    rw (read, t.kept.conditions, t.kept.any is_eavesdrop, said_eavesdrop asked eavesdrop) refl
