-- After each rule of a connection fewer are left.
use Rattle.std.proofs.Common.{◌≡◌, ℕ, ◌+◌, ◌<◌, ◌≤◌, inl, inr, Bool, true, false, not, ◌&&◌, List, [], ◌∷◌, length, Some, refl, sym, ◌∙◌, ap, arith, cond}
use Rattle.std.specs.Prelude.{filter, find, nat_lt}
use Rattle.std.proofs.lemmas.Bool.{false≢true, cases_Bool, and_parts, cond-true, cond-false, ltb-true, lt-ltb}
use Rattle.entry_table.specs.declared.entry.Entry.{Entry}
use Rattle.entry_table.specs.Entries.{is_of, is_rule_after, is_attached}

some_same : (e f : Entry) → Some e ≡ Some f → e ≡ f
some_same e f h = cc

-- what is found passes
pub found_passes : (p : Entry → Bool) (es : List Entry) (e : Entry) → find p es ≡ Some e → p e ≡ true
found_passes p [] e found = absurd cc
found_passes p (f ∷ es) e found =
    elim (cases_Bool (p f)) [
      | inl passes ↦ ap p (some_same e f (sym (sym (cond-true (p f) (Some f) (find p es) passes) ∙ found))) ∙ passes
      | inr fails ↦ found_passes p es e (sym (cond-false (p f) (Some f) (find p es) fails) ∙ found)
    ]

-- it is a rule's entry
pub found_rule : (connection id : ℕ) (es : List Entry) (e : Entry) → find (is_rule_after connection id) es ≡ Some e → is_attached e.filter ≡ false
found_rule connection id es e found =
    let passes = and_parts (is_of connection e) (nat_lt id e.id && not (is_attached e.filter)) (found_passes (is_rule_after connection id) es e found) in
    let rule = and_parts (nat_lt id e.id) (not (is_attached e.filter)) passes.1 in
    turned (is_attached e.filter) rule.1
  where
    turned : (b : Bool) → not b ≡ true → b ≡ false
    turned true h = absurd (false≢true h)
    turned false h = refl

if_length : (b : Bool) (x : Entry) (ys : List Entry) → length (cond b (x ∷ ys) ys) ≡ length ys + cond b 1 0
if_length true x ys = omega arith
if_length false x ys = omega arith

counted : (b : Bool) → b ≡ true → 1 ≤ cond b 1 0
counted true h = omega arith
counted false h = absurd (false≢true h)

not_counted : (b : Bool) → b ≡ false → cond b 1 0 ≤ 0
not_counted true h = absurd (false≢true (sym h))
not_counted false h = omega arith

no_more : (b d : Bool) → (d ≡ true → b ≡ true) → cond d 1 0 ≤ cond b 1 0
no_more true true h = omega arith
no_more true false h = omega arith
no_more false true h = absurd (false≢true (h refl))
no_more false false h = omega arith

-- fewer pass a stronger test
no_longer : (p q : Entry → Bool) → ((x : Entry) → q x ≡ true → p x ≡ true) → (xs : List Entry) → length (filter q xs) ≤ length (filter p xs)
no_longer p q weaker [] = omega arith
no_longer p q weaker (x ∷ xs) =
    let rest = no_longer p q weaker xs in
    let one = no_more (p x) (q x) (weaker x) in
    omega (arith, if_length (p x) x (filter p xs), if_length (q x) x (filter q xs), rest, one)

-- and fewer still where one that passes fails it
shorter : (p q : Entry → Bool) → ((x : Entry) → q x ≡ true → p x ≡ true) → (e : Entry) → q e ≡ false → (xs : List Entry) → find p xs ≡ Some e → length (filter q xs) < length (filter p xs)
shorter p q weaker e fails [] found = absurd cc
shorter p q weaker e fails (x ∷ xs) found =
    elim (cases_Bool (p x)) [
      | inl passes ↦ (
          let same : x ≡ e = some_same x e (sym (cond-true (p x) (Some x) (find p xs) passes) ∙ found) in
          let rest = no_longer p q weaker xs in
          let one = counted (p x) passes in
          let none = not_counted (q x) (ap q same ∙ fails) in
          omega (arith, if_length (p x) x (filter p xs), if_length (q x) x (filter q xs), rest, one, none))
      | inr other ↦ (
          let rest = shorter p q weaker e fails xs (sym (cond-false (p x) (Some x) (find p xs) other) ∙ found) in
          let one = no_more (p x) (q x) (weaker x) in
          omega (arith, if_length (p x) x (filter p xs), if_length (q x) x (filter q xs), rest, one))
    ]

after_too : (connection id later : ℕ) → id < later → (x : Entry) → is_rule_after connection later x ≡ true → is_rule_after connection id x ≡ true
after_too connection id later less x h =
    let passes = and_parts (is_of connection x) (nat_lt later x.id && not (is_attached x.filter)) h in
    let rule = and_parts (nat_lt later x.id) (not (is_attached x.filter)) passes.1 in
    let above : nat_lt id x.id ≡ true = lt-ltb id x.id (omega (arith, less, ltb-true later x.id rule.0)) in
    both (is_of connection x) (nat_lt id x.id) (not (is_attached x.filter)) passes.0 above rule.1
  where
    both : (a b c : Bool) → a ≡ true → b ≡ true → c ≡ true → (a && (b && c)) ≡ true
    both true true true _ _ _ = refl
    both false b c h _ _ = absurd (false≢true h)
    both true false c _ h _ = absurd (false≢true h)
    both true true false _ _ h = absurd (false≢true h)

-- how many rules of the connection have a greater id
pub fewer_left : (connection id : ℕ) (e : Entry) (es : List Entry) → find (is_rule_after connection id) es ≡ Some e → length (filter (is_rule_after connection e.id) es) < length (filter (is_rule_after connection id) es)
fewer_left connection id e es found =
    let passes = and_parts (is_of connection e) (nat_lt id e.id && not (is_attached e.filter)) (found_passes (is_rule_after connection id) es e found) in
    let rule = and_parts (nat_lt id e.id) (not (is_attached e.filter)) passes.1 in
    shorter (is_rule_after connection id) (is_rule_after connection e.id) (after_too connection id e.id (ltb-true id e.id rule.0)) e (not_itself (is_of connection e) (nat_lt e.id e.id) (not (is_attached e.filter)) (not_less e.id)) es found
  where
    not_less : (n : ℕ) → nat_lt n n ≡ false
    not_less n = elim (cases_Bool (nat_lt n n)) [
      | inl h ↦ absurd (omega (arith, ltb-true n n h))
      | inr h ↦ h
    ]

    not_itself : (a b c : Bool) → b ≡ false → (a && (b && c)) ≡ false
    not_itself true false c h = refl
    not_itself true true c h = absurd (false≢true (sym h))
    not_itself false b c h = refl
