use Rattle.std.proofs.Common.{sym, ap, ◌∙◌, ℕ}
use Rattle.std.specs.Prelude.{Some, None, option_map, find}
use Rattle.entry_table.specs.declared.entry.Entry.{Entry}
use Rattle.entry_table.specs.declared.search.Wanted.TheVariants.{EqualRule}
use Rattle.entry_table.specs.Entries.{Entries, has_rule}
use Rattle.entry_table.specs.Searching.{entries_of}
use Rattle.entry_table.proofs.Finding.{searched, found-some, found-none, oldest_of}
use Rattle.entry_table.proofs.table.EntryTable.find_rule.Goals as goal

pub returns-in-Some : goal.returns-in-Some
returns-in-Some c =
    let held = c.self.inside.slab in
    let test = has_rule c.args.connection c.args.rule.now in
    let f = searched held (EqualRule c.args.rule) c.args.connection c.of_connection.result (Some c.in-Some.place) c.of_connection.ensures.once c.of_connection.ensures.value c.in-Some.ensures in
    c.id_at.ensures ∙ ap (option_map {T = Entry} {U = ℕ} (λ (e : Entry). e.id)) (sym (found-some held c.in-Some.place (find test (entries_of held)) (oldest_of test held) f.here f.first f.kept))
    ∙ ap (λ (t : Entries). option_map {T = Entry} {U = ℕ} (λ (e : Entry). e.id) (find test t.entries)) c.self.view_is

pub returns-in-None : goal.returns-in-None
returns-in-None c =
    let held = c.self.inside.slab in
    let test = has_rule c.args.connection c.args.rule.now in
    let f = searched held (EqualRule c.args.rule) c.args.connection c.of_connection.result None c.of_connection.ensures.once c.of_connection.ensures.value c.in-None.ensures in
    ap (option_map {T = Entry} {U = ℕ} (λ (e : Entry). e.id)) (sym (found-none held test (find test (entries_of held)) (oldest_of test held) f.here f.first))
    ∙ ap (λ (t : Entries). option_map {T = Entry} {U = ℕ} (λ (e : Entry). e.id) (find test t.entries)) c.self.view_is
