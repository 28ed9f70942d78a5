use Rattle.std.proofs.Common.{sym, ap, ◌∙◌}
use Rattle.std.specs.Prelude.{Some, None, find}
use Rattle.entry_table.specs.declared.search.Wanted.TheVariants.{RuleAfter}
use Rattle.entry_table.specs.Entries.{Entries, is_rule_after}
use Rattle.entry_table.specs.Searching.{entries_of}
use Rattle.entry_table.proofs.Finding.{searched, found-some, found-none, oldest_of}
use Rattle.entry_table.proofs.table.EntryTable.next_rule.Goals as goal

pub returns-in-Some : goal.returns-in-Some
returns-in-Some c =
    let held = c.self.inside.slab in
    let test = is_rule_after c.args.connection c.args.after in
    let f = searched held (RuleAfter c.args.after) c.args.connection c.of_connection.result (Some c.in-Some.place) c.of_connection.ensures.once c.of_connection.ensures.value c.in-Some.ensures in
    c.get.ensures ∙ sym (found-some held c.in-Some.place (find test (entries_of held)) (oldest_of test held) f.here f.first f.kept)
    ∙ ap (λ (t : Entries). find test t.entries) c.self.view_is

pub returns-in-None : goal.returns-in-None
returns-in-None c =
    let held = c.self.inside.slab in
    let test = is_rule_after c.args.connection c.args.after in
    let f = searched held (RuleAfter c.args.after) c.args.connection c.of_connection.result None c.of_connection.ensures.once c.of_connection.ensures.value c.in-None.ensures in
    sym (found-none held test (find test (entries_of held)) (oldest_of test held) f.here f.first)
    ∙ ap (λ (t : Entries). find test t.entries) c.self.view_is
