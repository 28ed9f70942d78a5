-- The names and entries of the opening state.
use Rattle.std.proofs.Common.{◌≡◌, ℕ, zero, suc, List, [], ◌∷◌, Option, None, refl, sym, ap, ◌∙◌}
use Rattle.std.specs.Prelude.{replicate}
use Rattle.owners.specs.declared.holding.Holding.{Holding}
use Rattle.owners.specs.Registry as registry
use Rattle.entry_table.specs.Entries.{Entries, AreEntries, no_entries}
use Rattle.program_table.specs.Registrations.{Registrations, no_registrations}
use Rattle.program_table.specs.Ties.{holdings, registrations_of, AreTied}
use Rattle.program_table.proofs.Tying.{tied, seen}

no_holdings : (n : ℕ) → replicate n None ≡ holdings [] (replicate n None)
no_holdings zero = refl
no_holdings (suc n) = ap (λ (s : List (Option Holding)). None ∷ s) (no_holdings n)

opening_slots : (names : registry.Registry) (all : Entries) → names ≡ registry.opening → all ≡ no_entries → names.slots ≡ holdings all.entries (replicate registry.max_names None)
opening_slots names all e f =
    ap (λ (n : registry.Registry). n.slots) e ∙ no_holdings registry.max_names
    ∙ ap (λ (a : Entries). holdings a.entries (replicate registry.max_names None)) (sym f)

pub opening_tie : (names : registry.Registry) (all : Entries) → names ≡ registry.opening → all ≡ no_entries → registry.IsRegistry names → AreEntries all → AreTied names all
opening_tie names all e f is entries =
    tied names all (replicate registry.max_names None) is entries (opening_slots names all e f) (rw f refl)

pub opening_view : (names : registry.Registry) (all : Entries) → names ≡ registry.opening → all ≡ no_entries → registrations_of names all ≡ no_registrations
opening_view names all e f =
    seen names all (replicate registry.max_names None) (opening_slots names all e f)
    ∙ ap (λ (n : registry.Registry). let r : Registrations = record { claims = n.claims; slots = replicate registry.max_names None; entries = all.entries; last_entry = all.last } in r) e
    ∙ ap (λ (a : Entries). let r : Registrations = record { claims = []; slots = replicate registry.max_names None; entries = a.entries; last_entry = a.last } in r) f
