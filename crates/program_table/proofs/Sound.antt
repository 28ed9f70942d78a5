-- What is true of everything that is registered.
use Rattle.std.proofs.Common.{◌≡◌, Bool, List, [], ◌∷◌, map, refl, sym, ap, ◌∙◌}
use Rattle.std.specs.Prelude.{is_some}
use Rattle.std.specs.List.{list_all}
use Rattle.std.proofs.lemmas.List.{length-map}
use Rattle.owners.specs.Queues.{Claim}
use Rattle.owners.specs.Registry as registry
use Rattle.entry_table.specs.Entries.{Entries}
use Rattle.program_table.specs.SlotNames.{slot_of, used_slots}
use Rattle.program_table.specs.IsState.{AreRegistrations}
use Rattle.program_table.specs.Ties.{slot_name, slot_names, registrations_of, AreTied}
use Rattle.program_table.proofs.Holdings.{slot_names-holdings, kept-holdings}
use Rattle.program_table.proofs.Tying.{one_slot, slot_of_kept}

same_tests : (p q : Claim → Bool) (claims : List Claim) → ((c : Claim) → p c ≡ q c) → list_all p claims ≡ list_all q claims
same_tests p q [] h = refl
same_tests p q (c ∷ claims) h = rw (h c, same_tests p q claims h) refl

pub registrations_sound : (names : registry.Registry) (all : Entries) → AreTied names all → AreRegistrations (registrations_of names all)
registrations_sound names all tie =
    let slots = slot_names names.slots in
    record {
      slots = length-map names.slots slot_name ∙ tie.registry.slots;
      one_slot = one_slot names all tie;
      claimed = same_tests (λ (c : Claim). is_some (slot_of c.name slots)) (λ (c : Claim). is_some (registry.slot_of c.name names.slots)) names.claims (λ c. ap is_some (sym (slot_of_kept c.name names all tie))) ∙ tie.registry.claimed;
      own_slots = tie.own_slots;
      used =
          sym (slot_names-holdings all.entries (used_slots names.claims all.entries slots))
          ∙ ap slot_names (sym (kept-holdings names.claims all.entries slots) ∙ ap (map (registry.kept_slot names.claims)) tie.counted ∙ tie.registry.used);
      rising = tie.entries.rising;
      below_last = tie.entries.below_last;
      few_entries = tie.entries.few;
      few_claims = tie.registry.claims;
    }
