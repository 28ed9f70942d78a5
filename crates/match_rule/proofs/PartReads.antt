-- What it means that a part was read.
use Rattle.std.proofs.Common.{◌≡◌, ℕ, ◌+◌, ◌<◌, ◌≤◌, Bool, true, false, cond, List, [], ◌∷◌, ◌++◌, length, refl, sym, ap, ◌∙◌, subst, arith, length-append}
use Rattle.std.specs.Prelude.{Result, Ok, Err, Option, Some, None, option_map, ◌==◌}
use Rattle.std.proofs.lemmas.Bool.{eqb-true}
use Rattle.std.specs.List.{list_any}
use Rattle.std.specs.Str.{bytes_eq, is_utf8}
use Rattle.std.proofs.lemmas.Slice.Eq.{bytes_eq-Decides}
use Rattle.signature.specs.Name.{is_bus_name}
use Rattle.match_key.specs.declared.error.RuleError.{RuleError}
use Rattle.match_key.specs.declared.error.RuleError.TheVariants.{UnknownKey, KeyTwice, BadValue, PathTwice}
use Rattle.match_key.specs.declared.key.Key.{Key}
use Rattle.match_key.specs.declared.key.Key.TheVariants as keys
use Rattle.match_rule.specs.declared.condition.Condition.{Condition}
use Rattle.match_rule.specs.declared.condition.Condition.TheVariants as conditions
use Rattle.match_rule.specs.declared.term.Term.{Term}
use Rattle.match_rule.specs.declared.term.Term.TheVariants.{Asks, Eavesdrop}
use Rattle.match_key.specs.declared.kind_name.KindName.{KindName}
use Rattle.match_rule.specs.declared.quoting.Quoting.{Quoting}
use Rattle.match_rule.specs.declared.quoting.Quoting.TheVariants.{Outside, Inside}
use Rattle.match_rule.specs.declared.quoting.Step.{Step}
use Rattle.match_rule.specs.declared.quoting.Step.TheVariants.{End, Skip, Take}
use Rattle.match_key.specs.Key.{key_named, is_twice, is_path_twice}
use Rattle.match_key.specs.Kinds.{kind_words, kind_named, kind_word}
use Rattle.match_rule.specs.Condition.{term_key, term_of, term_with, is_value, asks_if, value_of, has_key, has_path, flag_named}
use Rattle.match_rule.specs.Bytes.{begins_with}
use Rattle.match_rule.specs.Grammar.{equals, comma, apostrophe}
use Rattle.match_rule.specs.Reading.{◌>>=◌, step, after_step, value_from, with_byte, word_at, key_at, own_key, part_at, or_fault}
use Rattle.match_key.proofs.Rows.{row_found}

pub bind_ok : {A B : Type 0} (r : Result A RuleError) (f : A → Result B RuleError) (y : B) → (r >>= f) ≡ Ok y → (x : A) × (r ≡ Ok x) × (f x ≡ Ok y)
bind_ok (Ok x) f y e = (x, refl, e)
bind_ok (Err fault) f y e = absurd cc

abbrev pub ok : {A : Type 0} → A → Result A RuleError
ok x = Ok x

pub pair_ok : {A B : Type 0} (x y : A × B) → ok x ≡ ok y → (x.0 ≡ y.0) × (x.1 ≡ y.1)
pair_ok x y e = let same : x ≡ y = cc in (ap (λ p. p.0) same, ap (λ p. p.1) same)

pair_some : {A B : Type 0} (x y : A × B) → Some x ≡ Some y → (x.0 ≡ y.0) × (x.1 ≡ y.1)
pair_some x y e = let same : x ≡ y = cc in (ap (λ p. p.0) same, ap (λ p. p.1) same)

or_fault_ok : {A : Type 0} (fault : RuleError) (o : Option A) (x : A) → or_fault fault o ≡ Ok x → o ≡ Some x
or_fault_ok fault o x e = grind arith

pub guard_ok : {A : Type 0} (b : Bool) (fault : RuleError) (r : Result A RuleError) (x : A) → cond b (Err fault) r ≡ Ok x → (b ≡ false) × (r ≡ Ok x)
guard_ok b fault r x e = (grind arith, grind arith)

-- the part in front of the rest says the term
pub record Reads (front : List Term) (bytes : List ℕ) (term : Term) (rest : List ℕ) : Type 0 where
  pub word : List ℕ
  pub spelling : List ℕ
  pub key : Key
  pub value : List ℕ
  pub has_word : word_at bytes ≡ Some (word, spelling)
  pub known : key_named word ≡ Ok key
  pub new : has_key key front ≡ false
  pub apart : has_path key front ≡ false
  pub spelled : value_from Outside spelling ≡ Ok (value, rest)
  pub allowed : term_with key value ≡ Some term

key_reads : (bytes : List ℕ) (found : Key × List ℕ) → key_at bytes ≡ Ok found → (word : List ℕ) × (word_at bytes ≡ Some (word, found.1)) × (key_named word ≡ Ok found.0)
unfolding key_at
key_reads bytes found e =
    let w = bind_ok (or_fault UnknownKey (word_at bytes)) _ found e in
    let n = bind_ok (key_named w.0.0) _ found w.2 in
    let word = or_fault_ok UnknownKey (word_at bytes) w.0 w.1 in
    let same = pair_ok (n.0, w.0.1) found n.2 in
    (w.0.0, word ∙ ap (λ (x : List ℕ). Some (w.0.0, x)) same.1, n.1 ∙ ap (λ k. Ok k) same.0)

own_ok : (front : List Term) (key own : Key) → own_key front key ≡ Ok own → (has_key key front ≡ false) × (has_path key front ≡ false) × (key ≡ own)
own_ok front key own e = go (has_key key front) (has_path key front) e
  where
    go : (twice beside : Bool) → cond twice (Err KeyTwice) (cond beside (Err PathTwice) (Ok key)) ≡ Ok own → (twice ≡ false) × (beside ≡ false) × (key ≡ own)
    go false false e = (refl, refl, cc)
    go _ _ e = absurd cc

pub reads_from : (front : List Term) (bytes : List ℕ) (term : Term) (rest : List ℕ) → part_at front bytes ≡ Ok (term, rest) → Reads front bytes term rest
unfolding part_at
reads_from front bytes term rest e =
    let k = bind_ok (key_at bytes) _ (term, rest) e in
    let o = bind_ok (own_key front k.0.0) _ (term, rest) k.2 in
    let v = bind_ok (value_from Outside k.0.1) _ (term, rest) o.2 in
    let t = bind_ok (or_fault BadValue (term_with o.0 v.0.0)) _ (term, rest) v.2 in
    let own = own_ok front k.0.0 o.0 o.1 in
    let w = key_reads bytes k.0 k.1 in
    let same = pair_ok (t.0, v.0.1) (term, rest) t.2 in
    record {
      word = w.0;
      spelling = k.0.1;
      key = k.0.0;
      value = v.0.0;
      has_word = w.1;
      known = w.2;
      new = own.0;
      apart = own.1;
      spelled = v.1 ∙ ap (λ (x : List ℕ). Ok (v.0.0, x)) same.1;
      allowed = ap (λ k. term_with k v.0.0) own.2 ∙ or_fault_ok BadValue (term_with o.0 v.0.0) t.0 t.1 ∙ ap (λ x. Some x) same.0;
    }

pub reads_to : (front : List Term) (bytes : List ℕ) (term : Term) (rest : List ℕ) → Reads front bytes term rest → part_at front bytes ≡ Ok (term, rest)
unfolding part_at key_at
reads_to front bytes term rest r = rw (r.has_word, r.known, r.new, r.apart, r.spelled, r.allowed) refl

-- what a part gives from its key on, after these terms
abbrev after_key : List Term → Key × List ℕ → Result (Term × List ℕ) RuleError
after_key front key = do
  own ← own_key front key.0
  value ← value_from Outside key.1
  term ← or_fault BadValue (term_with own value.0)
  Ok (term, value.1)

-- a part is read alike after terms of which the same is true
pub part_same : (front others : List Term) (bytes : List ℕ) → ((p : Term → Bool) → list_any p front ≡ list_any p others) → part_at front bytes ≡ part_at others bytes
unfolding part_at
part_same front others bytes any = go (key_at bytes)
  where
    go : (found : Result (Key × List ℕ) RuleError) → (found >>= after_key front) ≡ (found >>= after_key others)
    go (Err fault) = refl
    go (Ok key) = rw (any (λ t. is_twice (term_key t) key.0), any (λ t. is_path_twice (term_key t) key.0)) refl

-- ---- what is read is spelled

pub word_is : (bytes word rest : List ℕ) → word_at bytes ≡ Some (word, rest) → bytes ≡ word ++ equals ∷ rest
word_is [] word rest e = absurd cc
word_is (b ∷ bs) word rest e = go (b == equals) (b == comma) refl e (word_at bs) refl (λ w r. word_is bs w r)
  where
    go : (x y : Bool) → b == equals ≡ x → cond x (Some ([], bs)) (cond y None (option_map (with_byte b) (word_at bs))) ≡ Some (word, rest) → (found : Option (List ℕ × List ℕ)) → word_at bs ≡ found → ((w r : List ℕ) → word_at bs ≡ Some (w, r) → bs ≡ w ++ equals ∷ r) → b ∷ bs ≡ word ++ equals ∷ rest
    go true y is e found has more =
        let same : b ≡ equals = eqb-true b equals is in
        let h = pair_some ([], bs) (word, rest) e in
        rw (← h.0, ← h.1, same) refl
    go false true is e found has more = absurd cc
    go false false is e None has more = let h : option_map (with_byte b) (word_at bs) ≡ None = rw has refl in absurd cc
    go false false is e (Some f) has more =
        let h = pair_some (b ∷ f.0, f.1) (word, rest) (sym (ap (option_map (with_byte b)) has) ∙ e) in
        rw (← h.0, ← h.1) (ap (λ (x : List ℕ). b ∷ x) (more f.0 f.1 has))

-- ---- what a key and a value say

kind_is : (word : List ℕ) (kind : KindName) → kind_named word ≡ Some kind → kind_word kind ≡ word
kind_is word kind e = (bytes_eq-Decides (kind_word kind) word).0 (row_found (λ (r : List ℕ × KindName). bytes_eq (kind_word r.1) r.0) kind_words word kind refl e)

-- the bytes of the value of a condition
abbrev pub term_value : Term → List ℕ
term_value (Asks condition) = value_of condition
term_value (Eavesdrop flag) = []

-- a condition has the value that it was made of
abbrev pub IsSaidBy : List ℕ → Term → Type 0
IsSaidBy value (Asks condition) = value_of condition ≡ value
IsSaidBy value (Eavesdrop flag) = Unit {0}

-- a term has the key and the value that it was made of
abbrev pub IsOf : Key → List ℕ → Term → Type 0
IsOf key value term = (term_key term ≡ key) × IsSaidBy value term

pub asks_ok : (allowed : Bool) (condition : Condition) (term : Term) → asks_if allowed condition ≡ Some term → (allowed ≡ true) × (Asks condition ≡ term)
asks_ok true condition term e = (refl, cc)
asks_ok false condition term e = absurd cc

text_is : (key : Key) (text : List ℕ) (term : Term) → term_of key text ≡ Some term → IsOf key text term
text_is keys.Kind text term e = go (kind_named text) refl e
  where
    go : (o : Option KindName) → kind_named text ≡ o → option_map (λ kind. Asks (conditions.Kind kind)) o ≡ Some term → IsOf keys.Kind text term
    go None is e = absurd cc
    go (Some kind) is e = let same : Asks (conditions.Kind kind) ≡ term = cc in subst (IsOf keys.Kind text) same (refl, kind_is text kind is)
text_is keys.Sender text term e = subst (IsOf keys.Sender text) (asks_ok (is_bus_name text) (conditions.Sender text) term e).1 (refl, refl)
text_is (keys.Compares source relation) text term e =
    subst (IsOf (keys.Compares source relation) text)
    (asks_ok (is_value source relation text) (conditions.Compares source relation text) term e).1 (refl, refl)
text_is keys.Eavesdrop text term e = go (flag_named text) e
  where
    go : (o : Option Bool) → option_map Eavesdrop o ≡ Some term → IsOf keys.Eavesdrop text term
    go None e = absurd cc
    go (Some flag) e = let same : Eavesdrop flag ≡ term = cc in subst (IsOf keys.Eavesdrop text) same (refl, tt)

-- a value that says a term is a text that says it
pub said_text : (key : Key) (value : List ℕ) (term : Term) → term_with key value ≡ Some term → (is_utf8 value ≡ true) × (term_of key value ≡ Some term)
said_text key value term e = (grind arith, grind arith)

pub term_is : (key : Key) (value : List ℕ) (term : Term) → term_with key value ≡ Some term → IsOf key value term
term_is key value term e = text_is key value term (said_text key value term e).1

-- ---- a value takes no more bytes than it has

-- a byte that was taken, and what follows it
pub take_ok : (b : ℕ) (read : Result (List ℕ × List ℕ) RuleError) (value rest : List ℕ) → (read >>= λ found. Ok (with_byte b found)) ≡ Ok (value, rest) → (later : List ℕ) × (value ≡ b ∷ later) × (read ≡ Ok (later, rest))
take_ok b (Ok found) value rest e = let h = pair_ok (b ∷ found.0, found.1) (value, rest) e in (found.0, sym h.0, ap (λ (x : List ℕ). Ok (found.0, x)) h.1)
take_ok b (Err fault) value rest e = absurd cc

value_len : (bytes : List ℕ) (q : Quoting) (value rest : List ℕ) → value_from q bytes ≡ Ok (value, rest) → length value + length rest ≤ length bytes
value_len [] Inside value rest e = absurd cc
value_len [] _ value rest e = let h = pair_ok ([], []) (value, rest) e in rw (← h.0, ← h.1) (omega arith)
value_len (b ∷ bs) q value rest e = go (step q b (begins_with apostrophe bs)) e (λ next v r. value_len bs next v r)
  where
    go : (s : Step) → after_step s b bs (λ next. value_from next bs) ≡ Ok (value, rest) → ((next : Quoting) (v r : List ℕ) → value_from next bs ≡ Ok (v, r) → length v + length r ≤ length bs) → length value + length rest ≤ length (b ∷ bs)
    go End e more = let h = pair_ok ([], bs) (value, rest) e in rw (← h.0, ← h.1) (omega arith)
    go (Skip next) e more = let h = more next value rest e in omega arith
    go (Take next) e more =
        let t = take_ok b (value_from next bs) value rest e in
        let h = more next t.0 rest t.2 in
        rw t.1 (omega arith)

term_len : (value : List ℕ) (term : Term) → IsSaidBy value term → length (term_value term) ≤ length value
term_len value (Asks condition) said = rw said (omega arith)
term_len value (Eavesdrop flag) said = omega arith

pub part_len : (front : List Term) (bytes : List ℕ) (term : Term) (rest : List ℕ) → part_at front bytes ≡ Ok (term, rest) → length (term_value term) + length rest < length bytes
part_len front bytes term rest e =
    let r = reads_from front bytes term rest e in
    let v = value_len r.spelling Outside r.value rest r.spelled in
    let has = term_len r.value term (term_is r.key r.value term r.allowed).1 in
    let whole = ap length (word_is bytes r.word r.spelling r.has_word) ∙ length-append r.word (equals ∷ r.spelling) in
    omega arith
