use Rattle.std.proofs.Common.{sym}
use Rattle.entry_table.specs.Entries.{is_entry}
use Rattle.program_table.proofs.Freeing.{some_rule, freed_tie}
use Rattle.program_table.proofs.Gone.{taken_out, entry_gone, no_entry_gone}
use Rattle.program_table.proofs.removal.remove_entry.Goals as goal

pub free_slot-requires-clause-rule : goal.free_slot-requires-clause-rule
free_slot-requires-clause-rule c =
    let here = taken_out (is_entry c.args.connection c.args.id) c.in-Some.entry c.args.entries.now c.remove.new.self c.requires.entries c.in-Some.ensures.entry c.in-Some.ensures.rest in
    some_rule c.in-Some.entry here.front here.back c.args.names.now c.args.entries.now c.remove.new.self c.requires here.before here.after

pub returns-in-Some-clause-tied : goal.returns-in-Some-clause-tied
returns-in-Some-clause-tied c =
    let here = taken_out (is_entry c.args.connection c.args.id) c.in-Some.entry c.args.entries.now c.remove.new.self c.requires.entries c.in-Some.ensures.entry c.in-Some.ensures.rest in
    freed_tie c.in-Some.entry here.front here.back c.args.names.now c.args.entries.now c.remove.new.self c.requires here.before here.after c.free_slot.new.names c.free_slot.ensures.after c.free_slot.ensures.registry c.last_id.ensures.sound

pub returns-in-Some-clause-gone : goal.returns-in-Some-clause-gone
returns-in-Some-clause-gone c =
    entry_gone c.args.connection c.args.id c.in-Some.entry c.args.names.now c.free_slot.new.names c.args.entries.now c.remove.new.self c.requires c.in-Some.ensures.entry c.in-Some.ensures.rest c.free_slot.ensures.after

pub returns-in_default-clause-gone : goal.returns-in_default-clause-gone
returns-in_default-clause-gone c =
    no_entry_gone c.args.connection c.args.id c.args.names.now c.args.entries.now c.remove.new.self c.requires (sym c.in_default.ensures.entry) c.in_default.ensures.unchanged
