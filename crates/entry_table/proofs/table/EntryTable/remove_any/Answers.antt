use Rattle.std.proofs.Common.{◌≡◌, ◌+◌, ◌-◌, List, length, subst, sym, ap, ◌∙◌, arith}
use Rattle.std.specs.Prelude.{Contains, find, filter, ◌==◌}
use Rattle.entry_table.specs.declared.entry.Entry.{Entry}
use Rattle.entry_table.specs.Entries.{Entries, entries_but, is_of}
use Rattle.entry_table.specs.PlacedEntries.{Placed}
use Rattle.entry_table.specs.Searching.{entries_of, IsTable}
use Rattle.entry_table.proofs.Finding.{first-theirs, none-theirs, has_place-entry, some_one, entries_of-but, IsTable-but, length-but, length-entries_of, filter-but}
use Rattle.entry_table.proofs.Asking.{entry_among}
use Rattle.entry_table.proofs.table.EntryTable.remove_any.Goals as goal

pub take-entry-requires : goal.take-entry-requires
take-entry-requires c =
    let held = c.self.inside.slab in
    let at = first-theirs held c.args.connection c.of_connection.result c.in-Some.place c.in-Some.ensures in
    has_place-entry c.in-Some.place at.0 held at.1

pub invariant_of-self : goal.invariant_of-self
invariant_of-self c =
    let i = c.self.inside in
    let less : (i.count - 1) + 1 ≡ i.count = omega (arith, length-but c.in-Some.place c.take-entry.result i.slab c.of_connection.ensures.once c.take-entry.ensures.entry, c.self.invariant.counted) in
    subst (λ (held : List Placed). IsTable held i.last (i.count - 1)) (sym c.take-entry.ensures.rest) (IsTable-but c.in-Some.place c.take-entry.result i.slab i.last i.count (i.count - 1) c.of_connection.ensures.once c.self.invariant c.take-entry.ensures.entry less)

pub returns-in-None-clause-none : goal.returns-in-None-clause-none
returns-in-None-clause-none c =
    sym (ap (λ (t : Entries). find (is_of c.args.connection) t.entries) c.self.view_is)
    ∙ none-theirs c.self.inside.slab c.args.connection c.of_connection.result c.of_connection.ensures.once c.of_connection.ensures.value c.in-None.ensures

pub returns-in-Some-clause-theirs : goal.returns-in-Some-clause-theirs
returns-in-Some-clause-theirs c =
    let held = c.self.inside.slab in
    let at = first-theirs held c.args.connection c.of_connection.result c.in-Some.place c.in-Some.ensures in
    ap (is_of c.args.connection) (some_one c.take-entry.result at.0 (sym c.take-entry.ensures.entry ∙ at.1)) ∙ at.2

pub returns-in-Some-clause-kept : goal.returns-in-Some-clause-kept
returns-in-Some-clause-kept c = λ test fails.
    let i = c.self.inside in
    ap (λ (held : List Placed). filter test (entries_of held)) c.take-entry.ensures.rest
    ∙ filter-but c.in-Some.place c.take-entry.result test i.slab c.of_connection.ensures.once c.take-entry.ensures.entry fails
    ∙ ap (λ (t : Entries). filter test t.entries) c.self.view_is

pub returns-in-Some-clause-fewer : goal.returns-in-Some-clause-fewer
returns-in-Some-clause-fewer c =
    let i = c.self.inside in
    omega (arith, length-but c.in-Some.place c.take-entry.result i.slab c.of_connection.ensures.once c.take-entry.ensures.entry, length-entries_of i.slab, length-entries_of c.take-entry.new.self, ap (λ (held : List Placed). length held) c.take-entry.ensures.rest, ap (λ (t : Entries). length t.entries) c.self.view_is)

pub returns-in-Some-clause-among : goal.returns-in-Some-clause-among
returns-in-Some-clause-among c =
    subst (λ (t : Entries). Contains t.entries c.take-entry.result) c.self.view_is (entry_among c.in-Some.place c.take-entry.result c.self.inside.slab c.take-entry.ensures.entry)

pub returns-in-Some-clause-rest : goal.returns-in-Some-clause-rest
returns-in-Some-clause-rest c =
    let i = c.self.inside in
    ap (λ (held : List Placed). record { entries = entries_of held; last = i.last }) c.take-entry.ensures.rest
    ∙ ap (λ (es : List Entry). record { entries = es; last = i.last }) (entries_of-but c.in-Some.place c.take-entry.result i.slab c.of_connection.ensures.once c.self.invariant.ids c.take-entry.ensures.entry)
    ∙ ap (entries_but (λ (f : Entry). f.id == c.take-entry.result.id)) c.self.view_is
