-- Names and entries stay tied.
use Rattle.std.proofs.Common.{◌≡◌, ℕ, zero, suc, true, List, [], ◌∷◌, map, Option, Some, None, refl, sym, ap, subst, ◌∙◌}
use Rattle.std.specs.Prelude.{option_map, slice_get}
use Rattle.std.specs.List.{list_all}
use Rattle.owners.specs.declared.holding.Holding.{Holding}
use Rattle.owners.specs.Queues.{Claim, without}
use Rattle.owners.specs.Registry as registry
use Rattle.entry_table.specs.Entries.{Entries, AreEntries}
use Rattle.program_table.specs.SlotNames.{slot_of, slot_next, with_slot, used_slots}
use Rattle.program_table.specs.Registrations.{Registrations, settle_names, without_claim}
use Rattle.program_table.specs.IsState.{has_own_slot}
use Rattle.program_table.specs.Ties.{slot_name, slot_names, holdings, registrations_of, AreTied}
use Rattle.program_table.proofs.Holdings.{HaveOneSlot, slot_of-holdings, slot_names-holdings, put_holding, kept-holdings, rules-holdings, own-used_slots}

pub slot_of_kept : (name : List ℕ) (names : registry.Registry) (all : Entries) → AreTied names all → registry.slot_of name names.slots ≡ slot_of name (slot_names names.slots)
slot_of_kept name names all tie = ap (registry.slot_of name) (sym tie.counted) ∙ slot_of-holdings all.entries name (slot_names names.slots)

-- no name that is registered has two slots
pub one_slot : (names : registry.Registry) (all : Entries) → AreTied names all → HaveOneSlot (slot_names names.slots)
one_slot names all tie slot name e = go (slice_get names.slots slot) refl (sym (slot_get names.slots slot) ∙ e)
  where
    slot_get : (slots : List (Option Holding)) (k : ℕ) → slice_get (slot_names slots) k ≡ option_map slot_name (slice_get slots k)
    slot_get [] k = refl
    slot_get (x ∷ slots) zero = refl
    slot_get (x ∷ slots) (suc k) = slot_get slots k

    go : (o : Option (Option Holding)) → slice_get names.slots slot ≡ o → option_map slot_name o ≡ Some (Some name) → slot_of name (slot_names names.slots) ≡ Some slot
    go None is f = cc
    go (Some None) is f = cc
    go (Some (Some h)) is f =
        let same : h.name ≡ name = cc in
        sym (slot_of_kept name names all tie) ∙ subst (λ (w : List ℕ). registry.slot_of w names.slots ≡ Some slot) same (tie.registry.own_slot slot h is)

-- names that are kept by these slots
pub tied : (names : registry.Registry) (all : Entries) (slots : List (Option (List ℕ))) → registry.IsRegistry names → AreEntries all → names.slots ≡ holdings all.entries slots → list_all (has_own_slot slots) all.entries ≡ true → AreTied names all
tied names all slots is entries e fits =
    let shown : slot_names names.slots ≡ slots = ap slot_names e ∙ slot_names-holdings all.entries slots in
    record {
      registry = is;
      entries = entries;
      counted = ap (holdings all.entries) shown ∙ sym e;
      own_slots = rw shown fits;
    }

pub seen : (names : registry.Registry) (all : Entries) (slots : List (Option (List ℕ))) → names.slots ≡ holdings all.entries slots → registrations_of names all ≡ record { claims = names.claims; slots = slots; entries = all.entries; last_entry = all.last }
seen names all slots e =
    ap (λ (s : List (Option (List ℕ))). let r : Registrations = record { claims = names.claims; slots = s; entries = all.entries; last_entry = all.last } in r)
    (ap slot_names e ∙ slot_names-holdings all.entries slots)

-- some claims are gone
settled_slots : (names : registry.Registry) (all : Entries) (claims : List Claim) → AreTied names all → (registry.settle_slots claims names.slots).slots ≡ holdings all.entries (used_slots claims all.entries (slot_names names.slots))
settled_slots names all claims tie = ap (map (registry.kept_slot claims)) (sym tie.counted) ∙ kept-holdings claims all.entries (slot_names names.slots)

pub settled_tie : (names later : registry.Registry) (all : Entries) (claims : List Claim) → AreTied names all → registry.IsRegistry later → later ≡ registry.settle_slots claims names.slots → AreTied later all
settled_tie names later all claims tie is e =
    tied later all (used_slots claims all.entries (slot_names names.slots)) is tie.entries
    (ap (λ (n : registry.Registry). n.slots) e ∙ settled_slots names all claims tie)
    (own-used_slots claims all.entries (slot_names names.slots) tie.own_slots)

pub settled_view : (names later : registry.Registry) (all : Entries) (claims : List Claim) → AreTied names all → later ≡ registry.settle_slots claims names.slots → registrations_of later all ≡ settle_names (record (registrations_of names all) { claims = claims })
settled_view names later all claims tie e =
    ap (λ (n : registry.Registry). registrations_of n all) e
    ∙ seen (registry.settle_slots claims names.slots) all (used_slots claims all.entries (slot_names names.slots)) (settled_slots names all claims tie)

pub dropped_tie : (o : Option (List ℕ)) (c : ℕ) (names later : registry.Registry) (all : Entries) → AreTied names all → registry.IsRegistry later → later ≡ registry.after_drop_one_at o c names → AreTied later all
dropped_tie None c names later all tie is e = subst (λ (n : registry.Registry). AreTied n all) (sym e) tie
dropped_tie (Some name) c names later all tie is e = settled_tie names later all (without name c names.claims) tie is e

pub dropped_view : (o : Option (List ℕ)) (c : ℕ) (names later : registry.Registry) (all : Entries) → AreTied names all → later ≡ registry.after_drop_one_at o c names → registrations_of later all ≡ without_claim c o (registrations_of names all)
dropped_view None c names later all tie e = ap (λ (n : registry.Registry). registrations_of n all) e
dropped_view (Some name) c names later all tie e = settled_view names later all (without name c names.claims) tie e

-- a name needs a slot
pub requested_slots : (name : List ℕ) (names : registry.Registry) (all : Entries) (n : ℕ) → AreTied names all → slot_next name (slot_names names.slots) ≡ Some n → registry.with_rules name (registry.rules_of name names.slots) names.slots ≡ holdings all.entries (with_slot name (slot_names names.slots))
requested_slots name names all n tie next =
    let slots = slot_names names.slots in
    ap (λ (s : List (Option Holding)). registry.with_rules name (registry.rules_of name s) s) (sym tie.counted)
    ∙ ap (λ (k : ℕ). registry.with_rules name k (holdings all.entries slots)) (rules-holdings all.entries name slots tie.own_slots)
    ∙ put_holding name all.entries all.entries slots n next (one_slot names all tie) (λ other apart. refl)
