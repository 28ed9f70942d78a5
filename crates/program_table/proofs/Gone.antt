-- Entries of a connection go one after the other, and then its claims.
use Rattle.std.proofs.Common.{◌≡◌, ℕ, Bool, true, false, not, cond, ◌||◌, List, [], ◌∷◌, ◌++◌, filter, length, Option, Some, None, ◌<◌, refl, sym, ap, subst, ◌∙◌, arith}
use Rattle.std.specs.Prelude.{◌==◌, Contains, find}
use Rattle.std.specs.List.{list_any}
use Rattle.std.proofs.lemmas.Bool.{or_right}
use Rattle.owners.specs.Queues.{Claim, is_on, without_all}
use Rattle.owners.specs.Registry as registry
use Rattle.entry_table.specs.declared.entry.Entry.{Entry}
use Rattle.entry_table.specs.Entries.{Entries, AreEntries, is_of, is_entry, entries_but}
use Rattle.program_table.specs.SlotNames.{sender_asked, asks_for, used_slots}
use Rattle.program_table.specs.Registrations.{Registrations, settle_names, without_all_of}
use Rattle.program_table.specs.Senders.{without_sender}
use Rattle.program_table.specs.Removal.{entries_not_of, AreSomeGone}
use Rattle.program_table.specs.Ties.{slot_names, registrations_of, AreTied}
use Rattle.program_table.proofs.Holdings.{slot_names-holdings}
use Rattle.program_table.proofs.Removing.{IsTaken, taken, taken_one, taken_entry, none_taken, filter_between, length_between}
use Rattle.program_table.proofs.Freeing.{freed_slots, freed_view, same_claims, used_twice}
use Rattle.program_table.proofs.Sound.{registrations_sound}

or_more : (a b c d : Bool) → (a ≡ true → c ≡ true) → (b ≡ true → d ≡ true) → (a || b) ≡ true → (c || d) ≡ true
or_more true b c d f g h = rw (f refl) refl
or_more false b c d f g h = or_right c d (g h)

any_between : (p : Entry → Bool) (front back : List Entry) (e : Entry) → list_any p (front ++ back) ≡ true → list_any p (front ++ e ∷ back) ≡ true
any_between p [] back e h = or_right (p e) (list_any p back) h
any_between p (x ∷ front) back e h = or_more (p x) (list_any p (front ++ back)) (p x) (list_any p (front ++ e ∷ back)) (λ f. f) (any_between p front back e) h

any_kept : (p q : Claim → Bool) (cs : List Claim) → list_any p (filter q cs) ≡ true → list_any p cs ≡ true
any_kept p q [] h = h
any_kept p q (c ∷ cs) h = go (any_kept p q cs) (q c) h
  where
    go : (list_any p (filter q cs) ≡ true → list_any p cs ≡ true) → (b : Bool) → list_any p (cond b (c ∷ filter q cs) (filter q cs)) ≡ true → (p c || list_any p cs) ≡ true
    go later true g = or_more (p c) (list_any p (filter q cs)) (p c) (list_any p cs) (λ f. f) later g
    go later false g = or_right (p c) (list_any p cs) (later g)

-- one of them is gone
pub one_gone : (c : ℕ) (e : Entry) (names later : registry.Registry) (all after : Entries) → AreTied names all → IsTaken e all.entries after.entries → is_of c e ≡ true → after.last ≡ all.last → later ≡ without_sender (sender_asked e.filter) names → AreSomeGone c (registrations_of names all) (registrations_of later after)
one_gone c e names later all after tie taken is last f = record {
  claims = same_claims e taken.front taken.back names all after tie taken.before taken.after later (sender_asked e.filter) f;
  last = last;
  others = ap (entries_not_of c) taken.after ∙ sym (filter_between (is_of c) taken.front taken.back e is) ∙ ap (entries_not_of c) (sym taken.before);
  fewer_users = λ name h.
      rw taken.before (any_between (asks_for name) taken.front taken.back e (sym (ap (list_any (asks_for name)) taken.after) ∙ h));
  slots =
      ap slot_names (freed_slots e taken.front taken.back names all after tie taken.before taken.after later f)
      ∙ slot_names-holdings after.entries (used_slots names.claims after.entries (slot_names names.slots));
}

pub none_gone : (c : ℕ) (names : registry.Registry) (all : Entries) → AreTied names all → AreSomeGone c (registrations_of names all) (registrations_of names all)
none_gone c names all tie = record {
  claims = refl;
  last = refl;
  others = refl;
  fewer_users = λ name h. h;
  slots = sym (registrations_sound names all tie).used;
}

pub more_gone : (c : ℕ) (r s t : Registrations) → AreSomeGone c r s → AreSomeGone c s t → AreSomeGone c r t
more_gone c r s t first next = record {
  claims = next.claims ∙ first.claims;
  last = next.last ∙ first.last;
  others = next.others ∙ first.others;
  fewer_users = λ name h. first.fewer_users name (next.fewer_users name h);
  slots =
      next.slots
      ∙ ap (λ (cs : List Claim). used_slots cs t.entries s.slots) first.claims
      ∙ ap (used_slots r.claims t.entries) first.slots
      ∙ used_twice r.claims r.claims s.entries t.entries r.slots (λ name. or_more (list_any (is_on name) r.claims) (list_any (asks_for name) t.entries) (list_any (is_on name) r.claims) (list_any (asks_for name) s.entries) (λ f. f) (next.fewer_users name));
}

-- all of them are gone, and the claims
pub all_gone : (c : ℕ) (r s : Registrations) → AreSomeGone c r s → entries_not_of c s.entries ≡ s.entries → settle_names (record s { claims = without_all c s.claims }) ≡ without_all_of c r
all_gone c r s gone last =
    let same : s.entries ≡ entries_not_of c r.entries = sym last ∙ gone.others in
    let slots : used_slots (without_all c s.claims) s.entries s.slots ≡ used_slots (without_all c r.claims) (entries_not_of c r.entries) r.slots =
    ap (λ (cs : List Claim). used_slots (without_all c cs) s.entries s.slots) gone.claims
    ∙ ap (used_slots (without_all c r.claims) s.entries) gone.slots
    ∙ used_twice r.claims (without_all c r.claims) s.entries s.entries r.slots (λ name. or_more (list_any (is_on name) (without_all c r.claims)) (list_any (asks_for name) s.entries) (list_any (is_on name) r.claims) (list_any (asks_for name) s.entries) (any_kept (is_on name) _ r.claims) (λ f. f))
    ∙ ap (λ (es : List Entry). used_slots (without_all c r.claims) es r.slots) same in
    ap (λ (cs : List Claim). let x : Registrations = record { claims = without_all c cs; slots = used_slots (without_all c s.claims) s.entries s.slots; entries = s.entries; last_entry = s.last_entry } in x) gone.claims
    ∙ ap (λ (ss : List (Option (List ℕ))). let x : Registrations = record { claims = without_all c r.claims; slots = ss; entries = s.entries; last_entry = s.last_entry } in x) slots
    ∙ ap (λ (es : List Entry). let x : Registrations = record { claims = without_all c r.claims; slots = used_slots (without_all c r.claims) (entries_not_of c r.entries) r.slots; entries = es; last_entry = s.last_entry } in x) same
    ∙ ap (λ (n : ℕ). let x : Registrations = record { claims = without_all c r.claims; slots = used_slots (without_all c r.claims) (entries_not_of c r.entries) r.slots; entries = entries_not_of c r.entries; last_entry = n } in x) gone.last

-- the entry that was found is taken out of the table
pub taken_out : (p : Entry → Bool) (e : Entry) (all after : Entries) → AreEntries all → Some e ≡ find p all.entries → after ≡ entries_but (λ f. f.id == e.id) all → IsTaken e all.entries after.entries
taken_out p e all after is found rest =
    subst (λ (es : List Entry). IsTaken e all.entries es) (sym (ap (λ (a : Entries). a.entries) rest)) (taken p all.entries e is.rising (sym found))

-- one of the entries is taken out of the table
pub taken_among : (e : Entry) (all after : Entries) → AreEntries all → Contains all.entries e → after ≡ entries_but (λ f. f.id == e.id) all → IsTaken e all.entries after.entries
taken_among e all after is there rest =
    subst (λ (es : List Entry). IsTaken e all.entries es) (sym (ap (λ (a : Entries). a.entries) rest)) (taken_one e all.entries is.rising there)

pub fewer_left : (e : Entry) (all rest : List Entry) → IsTaken e all rest → length rest < length all
fewer_left e all rest here =
    let left = ap (λ (es : List Entry). length es) here.after in
    let full = ap (λ (es : List Entry). length es) here.before in
    let less = length_between here.front here.back e in
    omega (arith, left, full, less)

-- names that are registered are used
settled_now : (names : registry.Registry) (all : Entries) → AreTied names all → registrations_of names all ≡ settle_names (registrations_of names all)
settled_now names all tie =
    ap (λ (s : List (Option (List ℕ))). let r : Registrations = record { claims = names.claims; slots = s; entries = all.entries; last_entry = all.last } in r)
    (sym (registrations_sound names all tie).used)

abbrev left_with : registry.Registry → List Entry → ℕ → Registrations
left_with names es last = settle_names (record { claims = names.claims; slots = slot_names names.slots; entries = es; last_entry = last })

pub entry_gone : (c n : ℕ) (e : Entry) (names later : registry.Registry) (all after : Entries) → AreTied names all → Some e ≡ find (is_entry c n) all.entries → after ≡ entries_but (λ f. f.id == e.id) all → later ≡ without_sender (sender_asked e.filter) names
    → registrations_of later after ≡ left_with names (filter (λ f. not (is_entry c n f)) all.entries) all.last
entry_gone c n e names later all after tie found rest f =
    let here = taken_out (is_entry c n) e all after tie.entries found rest in
    freed_view e here.front here.back names all after tie here.before here.after later f
    ∙ ap (λ (a : Entries). left_with names a.entries a.last) rest
    ∙ ap (λ (es : List Entry). left_with names es all.last) (sym (taken_entry c n all.entries e tie.entries.rising (sym found)))

pub no_entry_gone : (c n : ℕ) (names : registry.Registry) (all after : Entries) → AreTied names all → find (is_entry c n) all.entries ≡ None → after ≡ all → registrations_of names after ≡ left_with names (filter (λ f. not (is_entry c n f)) all.entries) all.last
no_entry_gone c n names all after tie none same =
    ap (registrations_of names) same ∙ settled_now names all tie
    ∙ ap (λ (es : List Entry). left_with names es all.last) (sym (none_taken (is_entry c n) all.entries none))
