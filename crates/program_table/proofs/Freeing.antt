-- Names and entries stay tied where an entry is taken out.
use Rattle.std.proofs.Common.{◌≡◌, ◌≢◌, ℕ, ◌+◌, ◌-◌, ◌<◌, Bool, true, false, cond, List, [], ◌∷◌, ◌++◌, map, Option, Some, None, refl, sym, ap, subst, ◌∙◌, arith}
use Rattle.std.specs.Prelude.{IfSome, is_some, is_none, position}
use Rattle.std.specs.List.{list_all}
use Rattle.owners.specs.declared.holding.Holding.{Holding}
use Rattle.owners.specs.Queues.{Claim}
use Rattle.owners.specs.Registry as registry
use Rattle.entry_table.specs.declared.entry.Entry.{Entry}
use Rattle.entry_table.specs.Entries.{Entries, AreEntries}
use Rattle.program_table.specs.SlotNames.{slot_of, slot_next, sender_asked, asks_for, is_name, is_used, used_slot, used_slots}
use Rattle.program_table.specs.Registrations.{Registrations, settle_names}
use Rattle.program_table.specs.Senders.{without_sender}
use Rattle.program_table.specs.IsState.{slot_in, has_own_slot}
use Rattle.program_table.specs.Ties.{slot_names, rules_with, holdings, registrations_of, AreTied}
use Rattle.program_table.proofs.Holdings.{asked_slot, with_slot-own, put_holding, kept-holdings, rules-holdings, own-used_slots}
use Rattle.program_table.proofs.Adding.{same_holdings, if_not, if_so, asked_apart, asked_itself}
use Rattle.program_table.proofs.Tying.{tied, seen, one_slot}
use Rattle.program_table.proofs.Removing.{count_between, all_between}

has_slot_of : (o : Option ℕ) → is_some o ≡ true → (n : ℕ) × (o ≡ Some n)
has_slot_of None e = cc
has_slot_of (Some n) e = (n, refl)

module _ (e : Entry) (front back : List Entry) (names : registry.Registry) (all after : Entries) (tie : AreTied names all)
    (before : all.entries ≡ front ++ e ∷ back) (rest : after.entries ≡ front ++ back) where
  abbrev pub slots : List (Option (List ℕ))
  slots = slot_names names.slots

  counted : (name : List ℕ) → rules_with name all.entries ≡ cond (asks_for name e) 1 0 + rules_with name after.entries
  counted name =
      ap (rules_with name) before ∙ count_between (asks_for name) front back e
      ∙ ap (λ (es : List Entry). cond (asks_for name e) 1 0 + rules_with name es) (sym rest)

  own_parts : (has_own_slot slots e ≡ true) × (list_all (has_own_slot slots) (front ++ back) ≡ true)
  own_parts = all_between (has_own_slot slots) front back e (subst (λ (es : List Entry). list_all (has_own_slot slots) es ≡ true) before tie.own_slots)

  own_rest : list_all (has_own_slot slots) after.entries ≡ true
  own_rest = subst (λ (es : List Entry). list_all (has_own_slot slots) es ≡ true) (sym rest) own_parts.1

  rules_are : (name : List ℕ) → registry.rules_of name names.slots ≡ rules_with name all.entries
  rules_are name = ap (registry.rules_of name) (sym tie.counted) ∙ rules-holdings all.entries name slots tie.own_slots

  rules_more : (name : List ℕ) → sender_asked e.filter ≡ Some name → registry.rules_of name names.slots ≡ 1 + rules_with name after.entries
  rules_more name asks =
      let counts = rules_are name ∙ counted name in
      let one = if_so (asks_for name e) (asked_itself name e asks) in
      omega (arith, counts, one)

  -- the name that the entry's rule asks for is counted
  pub some_rule : IfSome (sender_asked e.filter) (λ name. 0 < registry.rules_of name names.slots)
  some_rule = go (sender_asked e.filter) refl
    where
      go : (o : Option (List ℕ)) → sender_asked e.filter ≡ o → IfSome o (λ name. 0 < registry.rules_of name names.slots)
      go None asks = tt
      go (Some name) asks = let more = rules_more name asks in omega (arith, more)

  kept_slots : map (registry.kept_slot names.claims) (holdings after.entries slots) ≡ holdings after.entries (used_slots names.claims after.entries slots)
  kept_slots = kept-holdings names.claims after.entries slots

  none_freed : sender_asked e.filter ≡ None → names.slots ≡ holdings after.entries (used_slots names.claims after.entries slots)
  none_freed asks =
      sym tie.registry.used
      ∙ ap (map (registry.kept_slot names.claims)) (sym tie.counted ∙ same_holdings all.entries after.entries slots same)
      ∙ kept_slots
    where
      same : (name : List ℕ) → rules_with name all.entries ≡ rules_with name after.entries
      same name =
          let counts = counted name in
          let none = if_not (asks_for name e) (ap (is_name name) asks) in
          omega (arith, counts, none)

  one_freed : (name : List ℕ) → sender_asked e.filter ≡ Some name → (registry.after_slot_free name names).slots ≡ holdings after.entries (used_slots names.claims after.entries slots)
  one_freed name asks =
      ap (λ (k : ℕ). map (registry.kept_slot names.claims) (registry.with_rules name k names.slots)) fewer
      ∙ ap (λ (s : List (Option Holding)). map (registry.kept_slot names.claims) (registry.with_rules name (rules_with name after.entries) s)) (sym tie.counted)
      ∙ ap (map (registry.kept_slot names.claims)) (put_holding name all.entries after.entries slots has.0 next (one_slot names all tie) apart)
      ∙ ap (λ (s : List (Option (List ℕ))). map (registry.kept_slot names.claims) (holdings after.entries s)) (with_slot-own name slots has.0 has.1)
      ∙ kept_slots
    where
      has : (n : ℕ) × (slot_of name slots ≡ Some n)
      has = has_slot_of (slot_of name slots) (asked_slot name slots (sender_asked e.filter) (slot_in e.filter) own_parts.0 (asked_itself name e asks))

      next : slot_next name slots ≡ Some has.0
      next = ap (λ (o : Option ℕ). registry.or_else o (position is_none slots)) has.1

      fewer : registry.rules_of name names.slots - 1 ≡ rules_with name after.entries
      fewer = let more = rules_more name asks in omega (arith, more)

      apart : (other : List ℕ) → other ≢ name → rules_with other all.entries ≡ rules_with other after.entries
      apart other differs =
          let counts = counted other in
          let none = if_not (asks_for other e) (asked_apart name other e asks differs) in
          omega (arith, counts, none)

  pub freed_slots : (later : registry.Registry) → later ≡ without_sender (sender_asked e.filter) names → later.slots ≡ holdings after.entries (used_slots names.claims after.entries slots)
  freed_slots later is = go (sender_asked e.filter) refl is
    where
      go : (o : Option (List ℕ)) → sender_asked e.filter ≡ o → later ≡ without_sender o names → later.slots ≡ holdings after.entries (used_slots names.claims after.entries slots)
      go None asks f = ap (λ (r : registry.Registry). r.slots) f ∙ none_freed asks
      go (Some name) asks f = ap (λ (r : registry.Registry). r.slots) f ∙ one_freed name asks

  pub same_claims : (later : registry.Registry) (o : Option (List ℕ)) → later ≡ without_sender o names → later.claims ≡ names.claims
  same_claims later None f = ap (λ (r : registry.Registry). r.claims) f
  same_claims later (Some name) f = ap (λ (r : registry.Registry). r.claims) f

  pub freed_tie : (later : registry.Registry) → later ≡ without_sender (sender_asked e.filter) names → registry.IsRegistry later → AreEntries after → AreTied later after
  freed_tie later f is entries =
      tied later after (used_slots names.claims after.entries slots) is entries (freed_slots later f) (own-used_slots names.claims after.entries slots own_rest)

  pub freed_view : (later : registry.Registry) → later ≡ without_sender (sender_asked e.filter) names → registrations_of later after ≡ settle_names (record { claims = names.claims; slots = slots; entries = after.entries; last_entry = after.last })
  freed_view later f =
      seen later after (used_slots names.claims after.entries slots) (freed_slots later f)
      ∙ ap (λ (cs : List _). let r : Registrations = record { claims = cs; slots = used_slots names.claims after.entries slots; entries = after.entries; last_entry = after.last } in r) (same_claims later (sender_asked e.filter) f)

used_after : (b : Bool) (claims : List Claim) (entries : List Entry) (name : List ℕ) → is_used claims entries name ≡ b → used_slot claims entries (Some name) ≡ cond b (Some name) None
used_after b claims entries name is = rw is refl

-- A name that is used by fewer is tested once more.
pub used_twice : (claims few : List Claim) (entries some : List Entry) (slots : List (Option (List ℕ))) → ((name : List ℕ) → is_used few some name ≡ true → is_used claims entries name ≡ true) → used_slots few some (used_slots claims entries slots) ≡ used_slots few some slots
used_twice claims few entries some [] h = refl
used_twice claims few entries some (None ∷ slots) h = ap (λ (s : List (Option (List ℕ))). None ∷ s) (used_twice claims few entries some slots h)
used_twice claims few entries some (Some name ∷ slots) h =
    rw (once (is_used claims entries name) (is_used few some name) refl refl, used_twice claims few entries some slots h) refl
  where
    once : (a b : Bool) → is_used claims entries name ≡ a → is_used few some name ≡ b → used_slot few some (used_slot claims entries (Some name)) ≡ used_slot few some (Some name)
    once true b p q = ap (used_slot few some) (used_after true claims entries name p)
    once false false p q = ap (used_slot few some) (used_after false claims entries name p) ∙ sym (used_after false few some name q)
    once false true p q = let f = h name q in cc
