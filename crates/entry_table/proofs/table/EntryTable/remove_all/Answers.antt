use Rattle.std.proofs.Common.{◌≡◌, ℕ, Bool, true, false, not, List, sym, ap, ◌∙◌}
use Rattle.std.proofs.lemmas.Bool.{not_from_true}
use Rattle.std.specs.Prelude.{filter}
use Rattle.entry_table.specs.declared.entry.Entry.{Entry}
use Rattle.entry_table.specs.Entries.{Entries, is_of, entries_but}
use Rattle.entry_table.proofs.Finding.{filter-none}
use Rattle.entry_table.proofs.table.EntryTable.remove_all.Goals as goal

-- one entry of the connection less
step : (connection : ℕ) (old new start : Entries) (e : Entry) → is_of connection e ≡ true → new.last ≡ old.last → ((test : Entry → Bool) → test e ≡ false → filter test new.entries ≡ filter test old.entries)
    → entries_but (is_of connection) old ≡ entries_but (is_of connection) start → entries_but (is_of connection) new ≡ entries_but (is_of connection) start
step connection old new start e theirs last kept before =
    let test : Entry → Bool = λ f. not (is_of connection f) in
    ap (λ (es : List Entry). record { entries = es; last = new.last }) (kept test (not_from_true (is_of connection e) theirs))
    ∙ ap (λ (n : ℕ). record { entries = filter test old.entries; last = n }) last
    ∙ before

pub theirs-preserved-in-Some : goal.theirs-preserved-in-Some
theirs-preserved-in-Some c = step c.args.connection c.theirs.self c.remove_any.new.self c.args.self.now c.in-Some.field-0 c.in-Some.ensures.theirs c.in-Some.ensures.last c.in-Some.ensures.kept c.theirs.invariant

pub theirs-preserved-in-Some-2 : goal.theirs-preserved-in-Some-2
theirs-preserved-in-Some-2 c = step c.args.connection c.theirs.self c.remove_any.new.self c.args.self.now c.in-Some.field-0 c.in-Some.ensures.theirs c.in-Some.ensures.last c.in-Some.ensures.kept c.theirs.invariant

pub returns : goal.returns
returns c =
    let all = filter-none (is_of c.args.connection) c.theirs.self.entries c.in_default.ensures.none in
    c.in_default.ensures.unchanged ∙ sym (ap (λ (es : List Entry). record { entries = es; last = c.theirs.self.last }) all) ∙ c.theirs.invariant
