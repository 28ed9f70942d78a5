-- What the names that are kept tell of what is registered.
use Rattle.std.proofs.Common.{◌≡◌, ℕ, Bool, true, false, cond, List, refl, sym, ap, ◌∙◌}
use Rattle.std.specs.Prelude.{Result, Ok, Err, is_none, nat_lt, length}
use Rattle.owners.specs.declared.answer.Named.{Named}
use Rattle.owners.specs.declared.error.ClaimError.{ClaimError}
use Rattle.owners.specs.declared.error.ClaimError.TheVariants as errors
use Rattle.owners.specs.Queues.{after_requesting}
use Rattle.owners.specs.Registry as registry
use Rattle.entry_table.specs.Entries.{Entries}
use Rattle.program_table.specs.declared.command.Reply.{Reply}
use Rattle.program_table.specs.declared.command.Reply.TheVariants as replies
use Rattle.program_table.specs.declared.refusal.Refusal.{Refusal}
use Rattle.program_table.specs.declared.refusal.Refusal.TheVariants as refusals
use Rattle.program_table.specs.SlotNames.{slot_next}
use Rattle.program_table.specs.Refusals.{◌>>=◌, refuse_if}
use Rattle.program_table.specs.SlotSearch.{claim_refusal}
use Rattle.program_table.specs.Answers.{request_answer}
use Rattle.program_table.specs.Ties.{slot_names, registrations_of, AreTied}
use Rattle.program_table.proofs.Holdings.{slot_next-holdings}

pub next_kept : (name : List ℕ) (names : registry.Registry) (all : Entries) → AreTied names all → registry.slot_next name names.slots ≡ slot_next name (slot_names names.slots)
next_kept name names all tie = ap (registry.slot_next name) (sym tie.counted) ∙ slot_next-holdings all.entries name (slot_names names.slots)

-- the reply to an answer of the names
abbrev pub reply_to_claim : Result Named ClaimError → Result Reply Refusal
reply_to_claim (Ok named) = Ok (replies.Name named)
reply_to_claim (Err error) = Err (claim_refusal error)

in_order : (a b : Bool) (named : Named) → reply_to_claim (cond a (Err errors.NamesFull) (cond b (Err errors.QueueFull) (Ok named))) ≡ (refuse_if a refusals.NamesFull >>= λ free. (refuse_if b refusals.QueueFull >>= λ few. Ok (replies.Name named)))
in_order true b named = refl
in_order false true named = refl
in_order false false named = refl

pub request_replied : (name : List ℕ) (c flags : ℕ) (names : registry.Registry) (all : Entries) → AreTied names all → reply_to_claim (registry.request_answer name c flags names) ≡ request_answer name c flags (registrations_of names all)
request_replied name c flags names all tie =
    rw (next_kept name names all tie)
    (in_order (is_none (slot_next name (slot_names names.slots))) (nat_lt registry.max_claims (length (after_requesting name c flags names.claims))) _)
