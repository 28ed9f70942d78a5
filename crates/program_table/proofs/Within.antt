-- What is within the capacity of a bus, as the code tests it.
use Rattle.std.proofs.Common.{◌≡◌, ℕ, Bool, List, Option, Some, None, true, length, refl, sym, ap, subst, ◌∙◌, ◌≤◌, arith}
use Rattle.std.specs.Prelude.{Result, Ok, Err, IfSome, IsErrAnd, nat_le, nat_lt}
use Rattle.std.proofs.lemmas.Bool.Decides.{nat_tests}
use Rattle.owners.specs.Queues.{after_requesting}
use Rattle.owners.specs.Registry as registry
use Rattle.entry_table.specs.Entries.{Entries}
use Rattle.program_table.specs.declared.capacity.Capacity.{Capacity}
use Rattle.program_table.specs.declared.refusal.Refusal.{Refusal}
use Rattle.program_table.specs.declared.refusal.Refusal.TheVariants as refusals
use Rattle.program_table.specs.SlotNames.{slot_next}
use Rattle.program_table.specs.Registrations.{Registrations}
use Rattle.program_table.specs.Refusals.{refuse_if}
use Rattle.program_table.specs.Capacities.{slot_within, is_beyond, is_over, claim_within}
use Rattle.program_table.specs.Ties.{slot_names, AreTied}
use Rattle.program_table.proofs.Kept.{next_kept}

-- what is handed on is the refusal
pub handed_on : {A : Type 0} (result read : Result A Refusal) (why : Refusal) → IsErrAnd result (λ f. f ≡ why) → read ≡ Err why → result ≡ read
handed_on (Ok x) read why is e = absurd is
handed_on (Err f) read why is e = ap (λ x. Err x) is ∙ sym e

-- the slot is tested first
pub no_slot_within : (most : Capacity) (name : List ℕ) (c flags : ℕ) (r : Registrations) (why : Refusal) → slot_within most (Some name) r.slots ≡ Err why → claim_within most name c flags r ≡ Err why
no_slot_within most name c flags r why e = rw e refl

-- and then the claims, which are counted where the name has a slot or gets one
pub slot_is_within : (most : Capacity) (name : List ℕ) (c flags : ℕ) (r : Registrations) (over : Bool) → slot_within most (Some name) r.slots ≡ Ok tt
    → IfSome (slot_next name r.slots) (λ _. over ≡ is_over most.claims (length r.claims) (length (after_requesting name c flags r.claims)))
    → claim_within most name c flags r ≡ refuse_if over refusals.QueueFull
slot_is_within most name c flags r over e h = rw e (ap (λ (b : Bool). refuse_if b refusals.QueueFull) (sym (known (slot_next name r.slots) e h)))
  where
    known : (o : Option ℕ) → refuse_if (is_beyond most.names o) refusals.NamesFull ≡ Ok tt → IfSome o (λ _. over ≡ is_over most.claims (length r.claims) (length (after_requesting name c flags r.claims)))
        → over ≡ is_over most.claims (length r.claims) (length (after_requesting name c flags r.claims))
    known None e h = cc
    known (Some slot) e h = h

test_le : (m n : ℕ) → m ≤ n → nat_le m n ≡ true
test_le m n e = grind (arith, nat_tests)

-- whether there would be one claim too many, as the names tell it
pub over_kept : (most : ℕ) (name : List ℕ) (c flags : ℕ) (names : registry.Registry) (all : Entries) (adds : Bool) → AreTied names all → most ≤ length names.claims
    → IfSome (registry.slot_next name names.slots) (λ _. adds ≡ nat_lt (length names.claims) (length (after_requesting name c flags names.claims)))
    → IfSome (slot_next name (slot_names names.slots)) (λ _. adds ≡ is_over most (length names.claims) (length (after_requesting name c flags names.claims)))
over_kept most name c flags names all adds tie full h =
    rw (test_le most (length names.claims) full) (subst (λ (o : Option ℕ). IfSome o (λ _. adds ≡ nat_lt (length names.claims) (length (after_requesting name c flags names.claims)))) (next_kept name names all tie) h)
