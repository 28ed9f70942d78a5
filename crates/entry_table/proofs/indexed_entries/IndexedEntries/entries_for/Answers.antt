use Rattle.std.proofs.Common.{subst, List}
use Rattle.std.specs.Prelude.{option_map}
use Rattle.match_rule.specs.FixedTexts.{texts_from}
use Rattle.entry_table.specs.OfferedEntries.{AreOffered}
use Rattle.entry_table.specs.PlacedEntries.{Placed}
use Rattle.entry_table.specs.Searching.{entries_of, IdsFall}
use Rattle.entry_table.proofs.Lookups.{AreOffered-index}
use Rattle.entry_table.proofs.RootedPaths.{rooted}
use Rattle.entry_table.proofs.indexed_entries.IndexedEntries.entries_for.Goals as goal

pub returns : goal.returns
returns c = λ m valid.
    let i = c.self.inside in
    let sender = option_map (λ name. name.now) c.args.sender in
    subst (λ (held : List Placed). IdsFall held → AreOffered (entries_of held) (texts_from sender m) c.entries_for.result) c.self.view_is
    (λ falls. AreOffered-index i.index i.slab sender m c.entries_for.result (rooted c.args.view.now m valid) c.self.invariant falls (c.entries_for.ensures m valid))
