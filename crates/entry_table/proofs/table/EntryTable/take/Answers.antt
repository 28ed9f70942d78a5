use Rattle.std.proofs.Common.{◌≡◌, ◌+◌, ◌-◌, List, length, subst, sym, ap, ◌∙◌, arith}
use Rattle.std.specs.Prelude.{Some, None, find, filter, ◌==◌}
use Rattle.entry_table.specs.declared.entry.Entry.{Entry}
use Rattle.entry_table.specs.Entries.{Entries, entries_but}
use Rattle.entry_table.specs.PlacedEntries.{Placed}
use Rattle.entry_table.specs.Searching.{is_wanted, entries_of, IsTable}
use Rattle.entry_table.proofs.Finding.{searched, found-some, found-none, found-there, has_place-entry, oldest_of, entries_of-but, IsTable-but, length-but, length-entries_of, filter-but}
use Rattle.entry_table.proofs.table.EntryTable.take.Goals as goal

pub take-entry-requires : goal.take-entry-requires
take-entry-requires c =
    let held = c.self.inside.slab in
    let f = searched held c.args.wanted c.args.connection c.of_connection.result (Some c.in-Some.place) c.of_connection.ensures.once c.of_connection.ensures.value c.in-Some.ensures in
    let at = found-there held c.in-Some.place (oldest_of (is_wanted c.args.wanted c.args.connection) held) f.here f.kept in
    has_place-entry c.in-Some.place at.0 held at.1

pub invariant_of-self : goal.invariant_of-self
invariant_of-self c =
    let i = c.self.inside in
    let less : (i.count - 1) + 1 ≡ i.count = omega (arith, length-but c.in-Some.place c.take-entry.result i.slab c.of_connection.ensures.once c.take-entry.ensures.entry, c.self.invariant.counted) in
    subst (λ (held : List Placed). IsTable held i.last (i.count - 1)) (sym c.take-entry.ensures.rest) (IsTable-but c.in-Some.place c.take-entry.result i.slab i.last i.count (i.count - 1) c.of_connection.ensures.once c.self.invariant c.take-entry.ensures.entry less)

pub returns-in-None-clause-entry : goal.returns-in-None-clause-entry
returns-in-None-clause-entry c =
    let held = c.self.inside.slab in
    let test = is_wanted c.args.wanted c.args.connection in
    let f = searched held c.args.wanted c.args.connection c.of_connection.result None c.of_connection.ensures.once c.of_connection.ensures.value c.in-None.ensures in
    sym (found-none held test (find test (entries_of held)) (oldest_of test held) f.here f.first) ∙ ap (λ (t : Entries). find test t.entries) c.self.view_is

pub returns-in-Some-clause-entry : goal.returns-in-Some-clause-entry
returns-in-Some-clause-entry c =
    let held = c.self.inside.slab in
    let test = is_wanted c.args.wanted c.args.connection in
    let f = searched held c.args.wanted c.args.connection c.of_connection.result (Some c.in-Some.place) c.of_connection.ensures.once c.of_connection.ensures.value c.in-Some.ensures in
    sym c.take-entry.ensures.entry ∙ sym (found-some held c.in-Some.place (find test (entries_of held)) (oldest_of test held) f.here f.first f.kept) ∙ ap (λ (t : Entries). find test t.entries) c.self.view_is

pub returns-in-Some-clause-rest : goal.returns-in-Some-clause-rest
returns-in-Some-clause-rest c =
    let i = c.self.inside in
    ap (λ (held : List Placed). record { entries = entries_of held; last = i.last }) c.take-entry.ensures.rest
    ∙ ap (λ (es : List Entry). record { entries = es; last = i.last }) (entries_of-but c.in-Some.place c.take-entry.result i.slab c.of_connection.ensures.once c.self.invariant.ids c.take-entry.ensures.entry)
    ∙ ap (entries_but (λ (f : Entry). f.id == c.take-entry.result.id)) c.self.view_is

pub returns-in-Some-clause-kept : goal.returns-in-Some-clause-kept
returns-in-Some-clause-kept c = λ test fails.
    let i = c.self.inside in
    ap (λ (held : List Placed). filter test (entries_of held)) c.take-entry.ensures.rest
    ∙ filter-but c.in-Some.place c.take-entry.result test i.slab c.of_connection.ensures.once c.take-entry.ensures.entry fails
    ∙ ap (λ (t : Entries). filter test t.entries) c.self.view_is

pub returns-in-Some-clause-fewer : goal.returns-in-Some-clause-fewer
returns-in-Some-clause-fewer c =
    let i = c.self.inside in
    omega (arith, length-but c.in-Some.place c.take-entry.result i.slab c.of_connection.ensures.once c.take-entry.ensures.entry, length-entries_of i.slab, length-entries_of c.take-entry.new.self, ap (λ (held : List Placed). length held) c.take-entry.ensures.rest, ap (λ (t : Entries). length t.entries) c.self.view_is)
