-- Who hears the bus, before a change of a name's owner and after it.
use Rattle.std.proofs.Common.{◌≡◌, ℕ, Bool, true, false, List, Option, Some, None, refl, sym, ap, subst, ◌∙◌}
use Rattle.std.specs.Prelude.{Contains, slice_get, if◌then◌else◌}
use mathlib.Core.Path.{fun_ext}
use Rattle.message_view.specs.Message.{Message}
use Rattle.match_rule.specs.Holds.{Holds}
use Rattle.owners.specs.Registry.{least_of}
use Rattle.entry_table.specs.declared.entry.Entry.{Entry}
use Rattle.entry_table.specs.declared.entry.Filter.{Filter}
use Rattle.entry_table.specs.declared.entry.Filter.TheVariants.{Rule, Attached}
use Rattle.program_table.specs.Does.{effect, is_accepted, next_of}
use Rattle.program_table.specs.Recipients.{is_owned, is_owned_at, FilterMatches, IsRecipient, AreRecipients}
use Rattle.program_table.specs.Registrations.{Registrations, without_claim}
use Rattle.program_table.specs.State.{State}
use Rattle.passes.specs.declared.name_call.NameCall.{NameCall}
use Rattle.passes.specs.declared.name_call.NameCall.TheVariants.{Request, Release, DropOne}
use Rattle.passes.specs.NameCalls.{command_of}

-- the bus owns no name
none_owned : (r : Registrations) (o : Option (Option (List ℕ))) → is_owned_at r None o ≡ false
none_owned r None = refl
none_owned r (Some None) = refl
none_owned r (Some (Some name)) = refl

nobody_asked : (r t : Registrations) → is_owned r None ≡ is_owned t None
nobody_asked r t = fun_ext (λ name. refl)

matches_alike : (r t : Registrations) (m : Message) (f : Filter) → FilterMatches r None m f → FilterMatches t None m f
matches_alike r t m (Rule compiled) h = let P : (List ℕ → Bool) → Type 0 = λ owned. Holds compiled.rule m owned in subst P (nobody_asked r t) h
matches_alike r t m (Attached attachment) (meant, words, verdict, steps, owned, some, ends) =
    (meant, words, verdict, steps, record { set = owned.set; owned = λ slot. owned.owned slot ∙ (none_owned r (slice_get r.slots slot) ∙ sym (none_owned t (slice_get t.slots slot))) }, some, ends)

entries_of_claim : (c : ℕ) (name : Option (List ℕ)) (r : Registrations) → (without_claim c name r).entries ≡ r.entries
entries_of_claim c None r = refl
entries_of_claim c (Some name) r = refl

module _ {M : Type 0} where
  hears_alike : (s t : State M) (m : Message) (n : ℕ) → t.registrations.entries ≡ s.registrations.entries → IsRecipient s None m n → IsRecipient t None m n
  hears_alike s t m n same (e, there, is, matches) =
      (e, subst (λ (l : List Entry). Contains l e) (sym same) there, is, matches_alike s.registrations t.registrations m e.filter matches)

  heard_alike : (s t : State M) (m : Message) (numbers : List ℕ) → t.registrations.entries ≡ s.registrations.entries → AreRecipients s None m numbers → AreRecipients t None m numbers
  heard_alike s t m numbers same h = record {
    rising = h.rising;
    exact = λ n. (λ found. hears_alike s t m n same ((h.exact n).0 found), λ hears. (h.exact n).1 (hears_alike t s m n (sym same) hears));
  }

  effect_keeps : (s : State M) (c : ℕ) (call : NameCall) → (effect s (command_of c call)).registrations.entries ≡ s.registrations.entries
  effect_keeps s c (Request name flags) = refl
  effect_keeps s c (Release name) = refl
  effect_keeps s c DropOne = entries_of_claim c (least_of c s.registrations.claims) s.registrations

  kept_if : (accepted : Bool) (s t : State M) → t.registrations.entries ≡ s.registrations.entries → (if accepted then t else s).registrations.entries ≡ s.registrations.entries
  kept_if true s t same = same
  kept_if false s t same = refl

  -- a call about names changes no entry, and so nobody who hears the bus
  pub heard_by_the_same : (s : State M) (c : ℕ) (call : NameCall) (m : Message) (numbers : List ℕ) → AreRecipients s None m numbers → AreRecipients (next_of s (command_of c call)) None m numbers
  heard_by_the_same s c call m numbers h =
      heard_alike s (next_of s (command_of c call)) m numbers (kept_if (is_accepted s (command_of c call)) s (effect s (command_of c call)) (effect_keeps s c call)) h
