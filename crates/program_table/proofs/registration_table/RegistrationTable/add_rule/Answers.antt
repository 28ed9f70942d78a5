use Rattle.std.proofs.Common.{◌≡◌, ℕ, List, ◌++◌, ◌∷◌, [], Some, Option, ◌∙◌, sym, ap, arith}
use Rattle.std.specs.Prelude.{Ok}
use Rattle.std.proofs.lemmas.List.Sums.{count_by-le-length}
use Rattle.match_rule.specs.RuleTree.{sender_name_of}
use Rattle.owners.specs.Registry as registry
use Rattle.entry_table.specs.Entries.{Entries}
use Rattle.program_table.specs.SlotNames.{asks_for}
use Rattle.entry_table.specs.declared.entry.Filter.TheVariants as filters
use Rattle.program_table.specs.Registrations.{Registrations, with_entry, with_sender}
use Rattle.program_table.specs.Answers.{slot_fits, has_room}
use Rattle.program_table.specs.Ties.{slot_names, rules_with, registrations_of}
use Rattle.program_table.proofs.Holdings.{rules-holdings}
use Rattle.program_table.proofs.Adding.{fits_next, room_left, sender_tie, sender_view, added_tie}
use Rattle.program_table.proofs.registration_table.RegistrationTable.add_rule.Goals as goal

pub slot_for-requires : goal.slot_for-requires
slot_for-requires c =
    let slots = slot_names c.self.inside.names.slots in
    let room : has_room (registrations_of c.self.inside.names c.self.inside.entries) ≡ Ok tt = ap has_room c.self.view_is ∙ c.requires.room in
    let left = room_left (registrations_of c.self.inside.names c.self.inside.entries) room in
    let few = count_by-le-length (asks_for c.in-Some.name) c.self.inside.entries.entries in
    let same : registry.rules_of c.in-Some.name c.self.inside.names.slots ≡ rules_with c.in-Some.name c.self.inside.entries.entries =
    ap (registry.rules_of c.in-Some.name) (sym c.self.invariant.counted) ∙ rules-holdings c.self.inside.entries.entries c.in-Some.name slots c.self.invariant.own_slots in
    omega (arith, left, few, same)

pub invariant_of-self : goal.invariant_of-self
invariant_of-self c =
    let asks : sender_name_of c.args.program.rule ≡ Some c.in-Some.name = sym c.in-Some.ensures in
    let fits : slot_fits (sender_name_of c.args.program.rule) c.args.program.slot (slot_names c.self.inside.names.slots) ≡ Ok tt =
    ap (λ (r : Registrations). slot_fits (sender_name_of c.args.program.rule) c.args.program.slot r.slots) c.self.view_is ∙ c.requires.fits in
    let next = fits_next (sender_name_of c.args.program.rule) c.in-Some.name c.args.program.slot (slot_names c.self.inside.names.slots) asks fits in
    sender_tie c.in-Some.name c.self.inside.names c.slot_for.new.self c.self.inside.entries c.add.new.self _ next.0 c.self.invariant
    c.slot_for.ensures.after (ap (λ (all : Entries). all.entries) c.add.ensures.added) asks next.1 next.2 c.slot_for.ensures.registry c.last_id.ensures.sound

pub invariant_of-self-in-None : goal.invariant_of-self-in-None
invariant_of-self-in-None c =
    added_tie c.self.inside.names c.self.inside.entries c.add-in-None.new.self _ c.self.invariant c.last_id-in-None.ensures.sound (ap (λ (all : Entries). all.entries) c.add-in-None.ensures.added) (sym c.in-None.ensures)

pub returns-in-Some : goal.returns-in-Some
returns-in-Some c =
    let asks : sender_name_of c.args.program.rule ≡ Some c.in-Some.name = sym c.in-Some.ensures in
    let fits : slot_fits (sender_name_of c.args.program.rule) c.args.program.slot (slot_names c.self.inside.names.slots) ≡ Ok tt =
    ap (λ (r : Registrations). slot_fits (sender_name_of c.args.program.rule) c.args.program.slot r.slots) c.self.view_is ∙ c.requires.fits in
    let next = fits_next (sender_name_of c.args.program.rule) c.in-Some.name c.args.program.slot (slot_names c.self.inside.names.slots) asks fits in
    let added = c.add.ensures.added
    ∙ ap (λ (i : ℕ). let a : Entries = record { entries = c.self.inside.entries.entries ++ record { id = i; connection = c.args.connection; filter = filters.Rule c.args.program } ∷ []; last = i } in a) c.add.ensures.id in
    sender_view c.in-Some.name c.self.inside.names c.slot_for.new.self c.self.inside.entries c.add.new.self _ next.0 c.self.invariant
    c.slot_for.ensures.after (ap (λ (all : Entries). all.entries) added) asks next.1 next.2 _ added
    ∙ ap (λ (r : Registrations). with_sender (Some c.in-Some.name) (with_entry c.args.connection (filters.Rule c.args.program) r)) c.self.view_is
    ∙ ap (λ (asked : Option (List ℕ)). with_sender asked (with_entry c.args.connection (filters.Rule c.args.program) c.args.self.now)) c.in-Some.ensures
