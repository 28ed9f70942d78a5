-- Names with their slots, and the rules that ask for them.
use Rattle.std.proofs.Common.{◌≡◌, ◌≢◌, ℕ, zero, suc, ◌+◌, Bool, true, false, not, cond, ◌&&◌, ◌||◌, List, [], ◌∷◌, map, set, Option, Some, None, refl, sym, ap, subst, ◌∙◌, arith}
use Rattle.std.specs.Prelude.{◌==◌, position, is_none, is_some, nat_lt, nat_eq, slice_get, count_by}
use Rattle.std.specs.List.{list_any, list_all}
use Rattle.std.specs.Option.{option_eq}
use Rattle.std.specs.Str.{bytes_eq}
use Rattle.std.proofs.lemmas.Slice.Eq.{bytes_eq-Decides}
use Rattle.std.proofs.lemmas.List.{map-set}
use Rattle.std.proofs.lemmas.List.Sums.{sum_by-cons}
use Rattle.std.proofs.lemmas.Bool.Decides.{nat_tests}
use Rattle.std.proofs.lemmas.Bool.{and_parts, or_right}
use Rattle.owners.specs.Queues.{Claim, is_on}
use Rattle.owners.specs.Registry as registry
use Rattle.entry_table.specs.declared.entry.Entry.{Entry}
use Rattle.program_table.specs.SlotNames.{is_name, slot_of, slot_next, with_slot, sender_asked, asks_for, is_used, used_slot, used_slots}
use Rattle.program_table.specs.IsState.{slot_in, is_own_slot, has_own_slot}
use Rattle.program_table.specs.Ties.{slot_name, slot_names, rules_with, holding_of, holdings}
use Rattle.program_table.proofs.Positions.{position_from-first, position-map, position-here, position-set_same, set-agree, set-itself, slice_get-map}

-- names and slots are the same in both views
held_is : (entries : List Entry) (name : List ℕ) (x : Option (List ℕ)) → registry.is_held_by name (holding_of entries x) ≡ is_name name x
held_is entries name None = refl
held_is entries name (Some other) = refl

free_is : (entries : List Entry) (x : Option (List ℕ)) → is_none (holding_of entries x) ≡ is_none x
free_is entries None = refl
free_is entries (Some other) = refl

pub slot_of-holdings : (entries : List Entry) (name : List ℕ) (slots : List (Option (List ℕ))) → registry.slot_of name (holdings entries slots) ≡ slot_of name slots
slot_of-holdings entries name slots =
    position_from-first (registry.is_held_by name) (holdings entries slots) ∙ position-map (registry.is_held_by name) (is_name name) (holding_of entries) slots (held_is entries name)

pub slot_next-holdings : (entries : List Entry) (name : List ℕ) (slots : List (Option (List ℕ))) → registry.slot_next name (holdings entries slots) ≡ slot_next name slots
slot_next-holdings entries name slots =
    rw (slot_of-holdings entries name slots, position_from-first is_none (holdings entries slots), position-map is_none is_none (holding_of entries) slots (free_is entries)) refl

-- what is kept of a name is what is shown
name_of_holding : (entries : List Entry) (x : Option (List ℕ)) → slot_name (holding_of entries x) ≡ x
name_of_holding entries None = refl
name_of_holding entries (Some other) = refl

pub slot_names-holdings : (entries : List Entry) (slots : List (Option (List ℕ))) → slot_names (holdings entries slots) ≡ slots
slot_names-holdings entries [] = refl
slot_names-holdings entries (x ∷ slots) = rw (name_of_holding entries x, slot_names-holdings entries slots) refl

-- no name has two slots
abbrev pub HaveOneSlot : List (Option (List ℕ)) → Type 0
HaveOneSlot slots = (slot : ℕ) (name : List ℕ) → slice_get slots slot ≡ Some (Some name) → slot_of name slots ≡ Some slot

pub same_name : (name other : List ℕ) → bytes_eq other name ≡ true → other ≡ name
same_name name other e = (bytes_eq-Decides other name).0 e

named : (name : List ℕ) (x : Option (List ℕ)) → is_name name x ≡ true → x ≡ Some name
named name None e = cc
named name (Some other) e = ap Some (same_name name other e)

is_itself : (name : List ℕ) → bytes_eq name name ≡ true
is_itself name = (bytes_eq-Decides name name).1 refl

pub slot_is : (name : List ℕ) (slots : List (Option (List ℕ))) (n : ℕ) → slot_of name slots ≡ Some n → slice_get slots n ≡ Some (Some name)
slot_is name slots n e = let h = position-here (is_name name) slots n e in h.1 ∙ ap Some (named name h.0 h.2)

first_free : (x : Option (List ℕ)) → is_none x ≡ true → x ≡ None
first_free None e = refl
first_free (Some y) e = cc

-- the next slot of a name is its own, or a free one where it has none
pub data IsNextSlot (name : List ℕ) (slots : List (Option (List ℕ))) (n : ℕ) : Type 0 where
  own : slot_of name slots ≡ Some n → slice_get slots n ≡ Some (Some name) → IsNextSlot name slots n
  free : slot_of name slots ≡ None → slice_get slots n ≡ Some None → IsNextSlot name slots n

pub next_is : (name : List ℕ) (slots : List (Option (List ℕ))) (n : ℕ) → slot_next name slots ≡ Some n → IsNextSlot name slots n
next_is name slots n e = go (slot_of name slots) refl e
  where
    go : (o : Option ℕ) → slot_of name slots ≡ o → registry.or_else o (position is_none slots) ≡ Some n → IsNextSlot name slots n
    go None is f = let h = position-here is_none slots n f in free is (h.1 ∙ ap Some (first_free h.0 h.2))
    go (Some m) is f = let s : slot_of name slots ≡ Some n = cc in own s (slot_is name slots n s)

next_slot_is : (name : List ℕ) (slots : List (Option (List ℕ))) (n k : ℕ) → slot_next name slots ≡ Some n → slot_of name slots ≡ Some k → k ≡ n
next_slot_is name slots n k next has = let e : slot_next name slots ≡ Some k = rw has refl in cc

-- A name gets a slot, or another number of rules; the other names have as many rules as before.
pub put_holding : (name : List ℕ) (entries later : List Entry) (slots : List (Option (List ℕ))) (n : ℕ) → slot_next name slots ≡ Some n → HaveOneSlot slots
    → ((other : List ℕ) → other ≢ name → rules_with other entries ≡ rules_with other later)
    → registry.with_rules name (rules_with name later) (holdings entries slots) ≡ holdings later (with_slot name slots)
put_holding name entries later slots n next one same =
    rw (slot_next-holdings entries name slots, next) (
    set-agree (holding_of entries) (holding_of later) slots n (Some (record { name = name; rules = rules_with name later })) agree
    ∙ sym (map-set (holding_of later) slots n (Some name)))
  where
    agree : (k : ℕ) (x : Option (List ℕ)) → k ≢ n → slice_get slots k ≡ Some x → holding_of entries x ≡ holding_of later x
    agree k None ne is = refl
    agree k (Some other) ne is =
        let apart : other ≢ name = λ e. ne (next_slot_is name slots n k next (one k name (subst (λ (w : List ℕ). slice_get slots k ≡ Some (Some w)) e is))) in
        rw (same other apart) refl

-- a name that has a slot keeps its place
pub with_slot-own : (name : List ℕ) (slots : List (Option (List ℕ))) (n : ℕ) → slot_of name slots ≡ Some n → with_slot name slots ≡ slots
with_slot-own name slots n e = rw e (set-itself slots n (Some name) (slot_is name slots n e))

count-cons : {X : Type 0} (p : X → Bool) (x : X) (xs : List X) → count_by p (x ∷ xs) ≡ cond (p x) 1 0 + count_by p xs
count-cons p x xs = sum_by-cons (λ y. cond (p y) 1 0) x xs

some_counted : (n : ℕ) (b : Bool) → nat_lt 0 (cond b 1 0 + n) ≡ (b || nat_lt 0 n)
some_counted n true = grind (arith, nat_tests)
some_counted n false = grind (arith, nat_tests)

-- the count isn't 0 where one passes
pub counts_some : {X : Type 0} (p : X → Bool) (xs : List X) → nat_lt 0 (count_by p xs) ≡ list_any p xs
counts_some p [] = grind (arith, nat_tests)
counts_some p (x ∷ xs) = rw (count-cons p x xs, some_counted (count_by p xs) (p x), counts_some p xs) refl

none_is : (n : ℕ) → n == 0 ≡ not (nat_lt 0 n)
none_is zero = refl
none_is (suc n) =
    let some : nat_lt 0 (suc n) ≡ true = grind (arith, nat_tests) in
    let other : (suc n == 0) ≡ false = grind (arith, nat_tests) in
    rw (some, other) refl

kept_or : (a b : Bool) (name : List ℕ) (entries : List Entry) → cond (not a && not b) None (holding_of entries (Some name)) ≡ holding_of entries (cond (b || a) (Some name) None)
kept_or true true name entries = refl
kept_or true false name entries = refl
kept_or false true name entries = refl
kept_or false false name entries = refl

kept_is : (claims : List Claim) (entries : List Entry) (x : Option (List ℕ)) → registry.kept_slot claims (holding_of entries x) ≡ holding_of entries (used_slot claims entries x)
kept_is claims entries None = refl
kept_is claims entries (Some name) =
    rw (none_is (rules_with name entries), counts_some (asks_for name) entries)
    (kept_or (list_any (asks_for name) entries) (list_any (is_on name) claims) name entries)

-- the names that are kept are those that are used
pub kept-holdings : (claims : List Claim) (entries : List Entry) (slots : List (Option (List ℕ))) → map (registry.kept_slot claims) (holdings entries slots) ≡ holdings entries (used_slots claims entries slots)
kept-holdings claims entries [] = refl
kept-holdings claims entries (x ∷ slots) = rw (kept_is claims entries x, kept-holdings claims entries slots) refl

-- how many rules have a name that has a slot as their sender
rules_own : (entries : List Entry) (name : List ℕ) (slots : List (Option (List ℕ))) (n : ℕ) → slot_of name slots ≡ Some n → registry.rules_of name (holdings entries slots) ≡ rules_with name entries
rules_own entries name slots n e =
    rw (slot_of-holdings entries name slots, e, slice_get-map (holding_of entries) slots n, slot_is name slots n e) refl

rules_none : (entries : List Entry) (name : List ℕ) (slots : List (Option (List ℕ))) → slot_of name slots ≡ None → registry.rules_of name (holdings entries slots) ≡ 0
rules_none entries name slots e = rw (slot_of-holdings entries name slots, e) refl

-- an entry that asks for a name has its slot
pub asked_slot : (name : List ℕ) (slots : List (Option (List ℕ))) (asked : Option (List ℕ)) (slot : Option ℕ) → is_own_slot asked slot slots ≡ true → is_name name asked ≡ true → is_some (slot_of name slots) ≡ true
asked_slot name slots None slot fits asks = cc
asked_slot name slots (Some other) slot fits asks =
    let same = same_name name other asks in
    (and_parts (is_some (slot_of name slots)) (option_eq nat_eq slot (slot_of name slots)) (subst (λ (w : List ℕ). is_own_slot (Some w) slot slots ≡ true) same fits)).0

no_rule : (name : List ℕ) (slots : List (Option (List ℕ))) (e : Entry) → has_own_slot slots e ≡ true → slot_of name slots ≡ None → (b : Bool) → asks_for name e ≡ b → cond b 1 0 + 0 ≡ 0
no_rule name slots e fits none false is = refl
no_rule name slots e fits none true is =
    let s = asked_slot name slots (sender_asked e.filter) (slot_in e.filter) fits is in
    let f = ap is_some none in cc

no_rules : (name : List ℕ) (slots : List (Option (List ℕ))) (entries : List Entry) → list_all (has_own_slot slots) entries ≡ true → slot_of name slots ≡ None → rules_with name entries ≡ 0
no_rules name slots [] fits none = refl
no_rules name slots (e ∷ entries) fits none =
    let parts = and_parts (has_own_slot slots e) (list_all (has_own_slot slots) entries) fits in
    rw (count-cons (asks_for name) e entries, no_rules name slots entries parts.1 none) (no_rule name slots e parts.0 none (asks_for name e) refl)

-- the rules that are counted are those of the entries
pub rules-holdings : (entries : List Entry) (name : List ℕ) (slots : List (Option (List ℕ))) → list_all (has_own_slot slots) entries ≡ true → registry.rules_of name (holdings entries slots) ≡ rules_with name entries
rules-holdings entries name slots fits = go (slot_of name slots) refl
  where
    go : (o : Option ℕ) → slot_of name slots ≡ o → registry.rules_of name (holdings entries slots) ≡ rules_with name entries
    go None is = rules_none entries name slots is ∙ sym (no_rules name slots entries fits is)
    go (Some n) is = rules_own entries name slots n is

-- another name gets a slot: an entry keeps its own
own_other : (other name : List ℕ) (slots : List (Option (List ℕ))) (n : ℕ) → slot_of name slots ≡ None → slice_get slots n ≡ Some None → is_some (slot_of other slots) ≡ true → slot_of other (set slots n (Some name)) ≡ slot_of other slots
own_other other name slots n none is has = position-set_same (is_name other) slots n None (Some name) is (differs (bytes_eq name other) refl)
  where
    differs : (b : Bool) → bytes_eq name other ≡ b → false ≡ b
    differs false e = refl
    differs true e =
        let same : name ≡ other = same_name other name e in
        let gone : slot_of other slots ≡ None = rw (← same) none in
        let f = ap is_some gone in cc

own_put : (name : List ℕ) (slots : List (Option (List ℕ))) (n : ℕ) (asked : Option (List ℕ)) (slot : Option ℕ) → slot_of name slots ≡ None → slice_get slots n ≡ Some None → is_own_slot asked slot slots ≡ true → is_own_slot asked slot (set slots n (Some name)) ≡ true
own_put name slots n None slot none is fits = refl
own_put name slots n (Some other) slot none is fits =
    let has = (and_parts (is_some (slot_of other slots)) (option_eq nat_eq slot (slot_of other slots)) fits).0 in
    rw (own_other other name slots n none is has) fits

own_puts : (name : List ℕ) (slots : List (Option (List ℕ))) (n : ℕ) (entries : List Entry) → slot_of name slots ≡ None → slice_get slots n ≡ Some None → list_all (has_own_slot slots) entries ≡ true → list_all (has_own_slot (set slots n (Some name))) entries ≡ true
own_puts name slots n [] none is fits = refl
own_puts name slots n (e ∷ entries) none is fits =
    let parts = and_parts (has_own_slot slots e) (list_all (has_own_slot slots) entries) fits in
    rw (own_put name slots n (sender_asked e.filter) (slot_in e.filter) none is parts.0) (own_puts name slots n entries none is parts.1)

-- entries keep their slots where a name gets one
pub own-with_slot : (name : List ℕ) (slots : List (Option (List ℕ))) (n : ℕ) (entries : List Entry) → slot_next name slots ≡ Some n → list_all (has_own_slot slots) entries ≡ true → list_all (has_own_slot (with_slot name slots)) entries ≡ true
own-with_slot name slots n entries next fits = elim (next_is name slots n next) [
  | own e is ↦ rw (with_slot-own name slots n e) fits
  | free none is ↦ rw next (own_puts name slots n entries none is fits)
]

-- a name that is used keeps its slot
name_used : (claims : List Claim) (entries : List Entry) (other y : List ℕ) → is_used claims entries other ≡ true → (a b : Bool) → is_used claims entries y ≡ a → bytes_eq y other ≡ b → is_name other (cond a (Some y) None) ≡ b
name_used claims entries other y used true b is e = e
name_used claims entries other y used false false is e = refl
name_used claims entries other y used false true is e =
    let same : y ≡ other = same_name other y e in
    let lost : is_used claims entries other ≡ false = rw (← same) is in cc

same_used : (claims : List Claim) (entries : List Entry) (other : List ℕ) → is_used claims entries other ≡ true → (x : Option (List ℕ)) → is_name other (used_slot claims entries x) ≡ is_name other x
same_used claims entries other used None = refl
same_used claims entries other used (Some y) = name_used claims entries other y used (is_used claims entries y) (bytes_eq y other) refl refl

own_used : (claims : List Claim) (entries : List Entry) (slots : List (Option (List ℕ))) (asked : Option (List ℕ)) (slot : Option ℕ) → ((name : List ℕ) → is_name name asked ≡ true → list_any (asks_for name) entries ≡ true) → is_own_slot asked slot slots ≡ true → is_own_slot asked slot (used_slots claims entries slots) ≡ true
own_used claims entries slots None slot asks fits = refl
own_used claims entries slots (Some other) slot asks fits =
    let used : is_used claims entries other ≡ true = or_right (list_any (is_on other) claims) (list_any (asks_for other) entries) (asks other (is_itself other)) in
    let same : slot_of other (used_slots claims entries slots) ≡ slot_of other slots = position-map (is_name other) (is_name other) (used_slot claims entries) slots (same_used claims entries other used) in
    rw same fits

own_all_used : (claims : List Claim) (entries : List Entry) (slots : List (Option (List ℕ))) (some : List Entry) → ((name : List ℕ) → list_any (asks_for name) some ≡ true → list_any (asks_for name) entries ≡ true) → list_all (has_own_slot slots) some ≡ true → list_all (has_own_slot (used_slots claims entries slots)) some ≡ true
own_all_used claims entries slots [] asks fits = refl
own_all_used claims entries slots (e ∷ some) asks fits =
    let parts = and_parts (has_own_slot slots e) (list_all (has_own_slot slots) some) fits in
    rw (own_used claims entries slots (sender_asked e.filter) (slot_in e.filter) (λ name is. asks name (rw is refl)) parts.0)
    (own_all_used claims entries slots some (λ name is. asks name (or_right (asks_for name e) (list_any (asks_for name) some) is)) parts.1)

pub own-used_slots : (claims : List Claim) (entries : List Entry) (slots : List (Option (List ℕ))) → list_all (has_own_slot slots) entries ≡ true → list_all (has_own_slot (used_slots claims entries slots)) entries ≡ true
own-used_slots claims entries slots fits = own_all_used claims entries slots entries (λ name is. is) fits
