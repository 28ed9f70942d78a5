use Rattle.std.proofs.Common.{◌≡◌, sym, ap, subst}
use Rattle.entry_table.specs.Entries.{Entries, is_of}
use Rattle.program_table.specs.Removal.{entries_not_of, AreSomeGone}
use Rattle.program_table.specs.Ties.{registrations_of}
use Rattle.program_table.proofs.Removing.{none_taken}
use Rattle.program_table.proofs.Freeing.{some_rule, freed_tie}
use Rattle.program_table.proofs.Gone.{taken_among, one_gone, none_gone, fewer_left}
use Rattle.program_table.proofs.removal.remove_any.Goals as goal

pub free_slot-requires-clause-rule : goal.free_slot-requires-clause-rule
free_slot-requires-clause-rule c =
    let here = taken_among c.in-Some.entry c.args.entries.now c.remove_any.new.self c.requires.entries c.in-Some.ensures.among c.in-Some.ensures.rest in
    some_rule c.in-Some.entry here.front here.back c.args.names.now c.args.entries.now c.remove_any.new.self c.requires here.before here.after

pub returns-in-Some-clause-tied : goal.returns-in-Some-clause-tied
returns-in-Some-clause-tied c =
    let here = taken_among c.in-Some.entry c.args.entries.now c.remove_any.new.self c.requires.entries c.in-Some.ensures.among c.in-Some.ensures.rest in
    freed_tie c.in-Some.entry here.front here.back c.args.names.now c.args.entries.now c.remove_any.new.self c.requires here.before here.after c.free_slot.new.names c.free_slot.ensures.after c.free_slot.ensures.registry c.last_id.ensures.sound

pub returns-in-Some-clause-gone : goal.returns-in-Some-clause-gone
returns-in-Some-clause-gone c =
    let here = taken_among c.in-Some.entry c.args.entries.now c.remove_any.new.self c.requires.entries c.in-Some.ensures.among c.in-Some.ensures.rest in
    one_gone c.args.connection c.in-Some.entry c.args.names.now c.free_slot.new.names c.args.entries.now c.remove_any.new.self c.requires here
    c.in-Some.ensures.theirs
    (ap (λ (a : Entries). a.last) c.in-Some.ensures.rest) c.free_slot.ensures.after

pub returns-in-Some-clause-fewer : goal.returns-in-Some-clause-fewer
returns-in-Some-clause-fewer c = λ so.
    fewer_left c.in-Some.entry c.args.entries.now.entries c.remove_any.new.self.entries (taken_among c.in-Some.entry c.args.entries.now c.remove_any.new.self c.requires.entries c.in-Some.ensures.among c.in-Some.ensures.rest)

pub returns-in-None-clause-gone : goal.returns-in-None-clause-gone
returns-in-None-clause-gone c =
    subst (λ (a : Entries). AreSomeGone c.args.connection (registrations_of c.args.names.now c.args.entries.now) (registrations_of c.args.names.now a)) (sym c.in-None.ensures.unchanged) (none_gone c.args.connection c.args.names.now c.args.entries.now c.requires)

pub returns-in-None-clause-last : goal.returns-in-None-clause-last
returns-in-None-clause-last c = λ so.
    subst (λ (a : Entries). entries_not_of c.args.connection a.entries ≡ a.entries) (sym c.in-None.ensures.unchanged) (none_taken (is_of c.args.connection) c.args.entries.now.entries c.in-None.ensures.none)
