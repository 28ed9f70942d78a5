-- Requests and new entries keep names and entries tied.
use Rattle.std.proofs.Common.{◌≡◌, ◌≢◌, ℕ, ◌+◌, ◌<◌, ◌==◌, Bool, true, false, not, cond, ◌||◌, List, length, [], ◌∷◌, ◌++◌, Option, Some, None, refl, sym, ap, subst, ◌∙◌, arith}
use Rattle.std.specs.Prelude.{Result, Ok, Err, is_ok, is_none, count_by, nat_eq, nat_le}
use Rattle.std.specs.List.{list_all}
use Rattle.std.specs.Option.{option_eq}
use Rattle.std.specs.Str.{bytes_eq}
use Rattle.std.proofs.lemmas.Bool.{eq-eqb, eqb-true, and_parts, and_from}
use Rattle.std.proofs.lemmas.Bool.Decides.{nat_tests}
use Rattle.std.proofs.lemmas.Slice.Eq.{bytes_eq-Decides}
use Rattle.std.proofs.lemmas.List.Sums.{sum_by-cons}
use Rattle.owners.specs.declared.holding.Holding.{Holding}
use Rattle.owners.specs.declared.answer.Named.{Named}
use Rattle.owners.specs.declared.error.ClaimError.{ClaimError}
use Rattle.owners.specs.Queues.{after_requesting}
use Rattle.owners.specs.Registry as registry
use Rattle.entry_table.specs.declared.entry.Entry.{Entry}
use Rattle.entry_table.specs.Entries.{Entries, AreEntries}
use Rattle.program_table.specs.declared.command.Reply.{Reply}
use Rattle.program_table.specs.declared.refusal.Refusal.{Refusal}
use Rattle.program_table.specs.declared.refusal.Refusal.TheVariants.{NamesFull, Stale, EntriesFull}
use Rattle.program_table.specs.SlotNames.{slot_of, slot_next, with_slot, sender_asked, asks_for, is_name}
use Rattle.program_table.specs.Registrations.{Registrations, with_request}
use Rattle.program_table.specs.Refusals.{◌>>=◌, refuse_if}
use Rattle.program_table.specs.Answers.{request_answer, slot_fits, has_room}
use Rattle.program_table.specs.IsState.{slot_in, is_own_slot, has_own_slot}
use Rattle.program_table.specs.Ties.{slot_names, rules_with, holdings, registrations_of, AreTied}
use Rattle.program_table.proofs.Holdings.{own, free, next_is, with_slot-own, own-with_slot, put_holding, rules-holdings}
use Rattle.program_table.proofs.Positions.{position-set_first}
use Rattle.program_table.proofs.Kept.{reply_to_claim, request_replied}
use Rattle.program_table.proofs.Tying.{tied, seen, requested_slots, one_slot}

replied_ok : (r : Result Named ClaimError) → is_ok (reply_to_claim r) ≡ is_ok r
replied_ok (Ok named) = refl
replied_ok (Err error) = refl

has_next : (o : Option ℕ) (rest : Result Reply Refusal) → is_ok (refuse_if (is_none o) NamesFull >>= λ free. rest) ≡ true → (n : ℕ) × (o ≡ Some n)
has_next None rest e = cc
has_next (Some n) rest e = (n, refl)

-- the names after a request that is accepted
abbrev requested_names : List ℕ → ℕ → ℕ → registry.Registry → registry.Registry
requested_names name c flags names = record {
  claims = after_requesting name c flags names.claims;
  slots = registry.with_rules name (registry.rules_of name names.slots) names.slots;
}

module _ (name : List ℕ) (c flags : ℕ) (names later : registry.Registry) (all : Entries) (tie : AreTied names all)
    (accepted : is_ok (request_answer name c flags (registrations_of names all)) ≡ true) (e : later ≡ registry.after_request name c flags names) where
  next : (n : ℕ) × (slot_next name (slot_names names.slots) ≡ Some n)
  next = has_next (slot_next name (slot_names names.slots)) _ accepted

  later_is : later ≡ requested_names name c flags names
  later_is =
      let ok : is_ok (registry.request_answer name c flags names) ≡ true =
      sym (replied_ok (registry.request_answer name c flags names)) ∙ ap is_ok (request_replied name c flags names all tie) ∙ accepted in
      e ∙ ap (λ (b : Bool). cond b (requested_names name c flags names) names) ok

  slots_are : later.slots ≡ holdings all.entries (with_slot name (slot_names names.slots))
  slots_are = ap (λ (n : registry.Registry). n.slots) later_is ∙ requested_slots name names all next.0 tie next.1

  pub requested_tie : registry.IsRegistry later → AreTied later all
  requested_tie is = tied later all (with_slot name (slot_names names.slots)) is tie.entries slots_are (own-with_slot name (slot_names names.slots) next.0 all.entries next.1 tie.own_slots)

  pub requested_view : registrations_of later all ≡ with_request name c flags (registrations_of names all)
  requested_view =
      seen later all (with_slot name (slot_names names.slots)) slots_are
      ∙ ap (λ (n : registry.Registry). let r : Registrations = record { claims = n.claims; slots = with_slot name (slot_names names.slots); entries = all.entries; last_entry = all.last } in r) later_is

pub count-cons : {X : Type 0} (p : X → Bool) (x : X) (xs : List X) → count_by p (x ∷ xs) ≡ cond (p x) 1 0 + count_by p xs
count-cons p x xs = sum_by-cons (λ y. cond (p y) 1 0) x xs

pub count-push : {X : Type 0} (p : X → Bool) (xs : List X) (x : X) → count_by p (xs ++ x ∷ []) ≡ count_by p xs + cond (p x) 1 0
count-push p [] x = refl
count-push p (y ∷ xs) x =
    let here = count-cons p y (xs ++ x ∷ []) in
    let there = count-cons p y xs in
    let rest = count-push p xs x in
    omega (arith, here, there, rest)

pub all-push : {X : Type 0} (p : X → Bool) (xs : List X) (x : X) → list_all p xs ≡ true → p x ≡ true → list_all p (xs ++ x ∷ []) ≡ true
all-push p [] x h e = rw e refl
all-push p (y ∷ xs) x h e = let parts = and_parts (p y) (list_all p xs) h in and_from (p y) (list_all p (xs ++ x ∷ [])) parts.0 (all-push p xs x parts.1 e)

pub same_holdings : (entries later : List Entry) (slots : List (Option (List ℕ))) → ((name : List ℕ) → rules_with name entries ≡ rules_with name later) → holdings entries slots ≡ holdings later slots
same_holdings entries later [] h = refl
same_holdings entries later (None ∷ slots) h = ap (λ (s : List _). None ∷ s) (same_holdings entries later slots h)
same_holdings entries later (Some name ∷ slots) h = rw (h name, same_holdings entries later slots h) refl

pub if_not : (b : Bool) → b ≡ false → cond {A = ℕ} b 1 0 ≡ 0
if_not false e = refl
if_not true e = cc

no_rule_more : (name : List ℕ) (entries : List Entry) (e : Entry) → sender_asked e.filter ≡ None → rules_with name entries ≡ rules_with name (entries ++ e ∷ [])
no_rule_more name entries e none =
    let no : asks_for name e ≡ false = ap (is_name name) none in
    let more = count-push (asks_for name) entries e in
    let nothing = if_not (asks_for name e) no in
    omega (arith, more, nothing)

-- an entry that asks for no name is added
pub added_tie : (names : registry.Registry) (all later : Entries) (e : Entry) → AreTied names all → AreEntries later → later.entries ≡ all.entries ++ e ∷ [] → sender_asked e.filter ≡ None → AreTied names later
added_tie names all later e tie is same none =
    let slots = slot_names names.slots in
    let fits : has_own_slot slots e ≡ true = ap (λ (asked : Option (List ℕ)). is_own_slot asked (slot_in e.filter) slots) none in
    record {
      registry = tie.registry;
      entries = is;
      counted = rw same (sym (same_holdings all.entries (all.entries ++ e ∷ []) slots (λ name. no_rule_more name all.entries e none)) ∙ tie.counted);
      own_slots = rw same (all-push (has_own_slot slots) all.entries e tie.own_slots fits);
    }

-- which names an entry asks for
pub asked_apart : (name other : List ℕ) (e : Entry) → sender_asked e.filter ≡ Some name → other ≢ name → asks_for other e ≡ false
asked_apart name other e is apart = ap (is_name other) is ∙ not_same (bytes_eq name other) refl
  where
    not_same : (b : Bool) → bytes_eq name other ≡ b → b ≡ false
    not_same false f = refl
    not_same true f = absurd (apart (sym ((bytes_eq-Decides name other).0 f)))

pub asked_itself : (name : List ℕ) (e : Entry) → sender_asked e.filter ≡ Some name → asks_for name e ≡ true
asked_itself name e is = ap (is_name name) is ∙ (bytes_eq-Decides name name).1 refl

-- a rule that asks for a name as the sender is added, and was compiled for the slot that the name has or gets
asked_now : (name other : List ℕ) (entries : List Entry) (e : Entry) → sender_asked e.filter ≡ Some name → other ≢ name → rules_with other entries ≡ rules_with other (entries ++ e ∷ [])
asked_now name other entries e is apart =
    let no = asked_apart name other e is apart in
    let more = count-push (asks_for other) entries e in
    let nothing = if_not (asks_for other e) no in
    omega (arith, more, nothing)

pub if_so : (b : Bool) → b ≡ true → cond {A = ℕ} b 1 0 ≡ 1
if_so true e = refl
if_so false e = cc

one_more : (name : List ℕ) (entries : List Entry) (e : Entry) → sender_asked e.filter ≡ Some name → rules_with name (entries ++ e ∷ []) ≡ rules_with name entries + 1
one_more name entries e is =
    let so = asked_itself name e is in
    let more = count-push (asks_for name) entries e in
    let one = if_so (asks_for name e) so in
    omega (arith, more, one)

same_slot : (n : ℕ) → option_eq nat_eq (Some n) (Some n) ≡ true
same_slot n = eq-eqb n n refl

own_now : (name : List ℕ) (slots : List (Option (List ℕ))) (n : ℕ) → slot_next name slots ≡ Some n → slot_of name (with_slot name slots) ≡ Some n
own_now name slots n next = elim (next_is name slots n next) [
  | own e is ↦ rw (with_slot-own name slots n e) e
  | free none is ↦ rw next (position-set_first (is_name name) slots n None (Some name) is none ((bytes_eq-Decides name name).1 refl))
]

module _ (name : List ℕ) (names later : registry.Registry) (all after : Entries) (e : Entry) (n : ℕ) (tie : AreTied names all)
    (names_is : later ≡ registry.after_slot_for name names) (same : after.entries ≡ all.entries ++ e ∷ [])
    (asks : sender_asked e.filter ≡ Some name) (next : slot_next name (slot_names names.slots) ≡ Some n) (fits : slot_in e.filter ≡ Some n) where
  sender_slots : later.slots ≡ holdings after.entries (with_slot name (slot_names names.slots))
  sender_slots =
      let slots = slot_names names.slots in
      ap (λ (r : registry.Registry). r.slots) names_is
      ∙ ap (λ (s : List (Option Holding)). registry.with_rules name (registry.rules_of name s + 1) s) (sym tie.counted)
      ∙ ap (λ (k : ℕ). registry.with_rules name (k + 1) (holdings all.entries slots)) (rules-holdings all.entries name slots tie.own_slots)
      ∙ ap (λ (k : ℕ). registry.with_rules name k (holdings all.entries slots)) (sym (one_more name all.entries e asks))
      ∙ put_holding name all.entries (all.entries ++ e ∷ []) slots n next (one_slot names all tie) (λ other apart. asked_now name other all.entries e asks apart)
      ∙ ap (λ (es : List Entry). holdings es (with_slot name slots)) (sym same)

  sender_own : has_own_slot (with_slot name (slot_names names.slots)) e ≡ true
  sender_own =
      let slots = with_slot name (slot_names names.slots) in
      ap (λ (asked : Option (List ℕ)). is_own_slot asked (slot_in e.filter) slots) asks
      ∙ ap (λ (slot : Option ℕ). is_own_slot (Some name) slot slots) fits
      ∙ rw (own_now name (slot_names names.slots) n next) (same_slot n)

  pub sender_tie : registry.IsRegistry later → AreEntries after → AreTied later after
  sender_tie is entries =
      tied later after (with_slot name (slot_names names.slots)) is entries sender_slots
      (rw same (all-push (has_own_slot (with_slot name (slot_names names.slots))) all.entries e (own-with_slot name (slot_names names.slots) n all.entries next tie.own_slots) sender_own))

  pub sender_view : (m : ℕ) → after ≡ record { entries = all.entries ++ e ∷ []; last = m } → registrations_of later after ≡ record { claims = names.claims; slots = with_slot name (slot_names names.slots); entries = all.entries ++ e ∷ []; last_entry = m }
  sender_view m f =
      let slots = with_slot name (slot_names names.slots) in
      seen later after slots sender_slots
      ∙ ap (λ (r : registry.Registry). let s : Registrations = record { claims = r.claims; slots = slots; entries = after.entries; last_entry = after.last } in s) names_is
      ∙ ap (λ (a : Entries). let s : Registrations = record { claims = names.claims; slots = slots; entries = a.entries; last_entry = a.last } in s) f

fits_at : (o slot : Option ℕ) → (refuse_if (is_none o) NamesFull >>= λ free. refuse_if (not (option_eq nat_eq slot o)) Stale) ≡ Ok tt → (n : ℕ) × (o ≡ Some n) × (slot ≡ Some n)
fits_at None slot e = cc
fits_at (Some n) None e = cc
fits_at (Some n) (Some m) e = (n, refl, ap Some (eqb-true m n (is_so (nat_eq m n) e)))
  where
    is_so : (b : Bool) → refuse_if (not b) Stale ≡ Ok tt → b ≡ true
    is_so true f = refl
    is_so false f = cc

-- the slot that a rule was compiled for, where it fits
pub fits_next : (asked : Option (List ℕ)) (name : List ℕ) (slot : Option ℕ) (slots : List (Option (List ℕ))) → asked ≡ Some name → slot_fits asked slot slots ≡ Ok tt → (n : ℕ) × (slot_next name slots ≡ Some n) × (slot ≡ Some n)
fits_next None name slot slots is e = cc
fits_next (Some other) name slot slots is e =
    let same : other ≡ name = cc in
    fits_at (slot_next name slots) slot (subst (λ (w : List ℕ). slot_fits (Some w) slot slots ≡ Ok tt) same e)

-- there is room where none refuses
pub room_left : (r : Registrations) → has_room r ≡ Ok tt → length r.entries < 65534
room_left r e = go (nat_le 65534 (length r.entries)) refl e
  where
    go : (b : Bool) → nat_le 65534 (length r.entries) ≡ b → refuse_if (b || r.last_entry == 4294967295) EntriesFull ≡ Ok tt → length r.entries < 65534
    go true is f = cc
    go false is f = grind (arith, nat_tests)
