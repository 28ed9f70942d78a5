-- Inner: the texts that an entry is looked up by.
use Rattle.entry_table.specs.declared.entry.Filter.{Filter}
use Rattle.entry_table.specs.OfferedEntries.{texts_fixed, namespaces_fixed}
use Rattle.entry_table.specs.TextKeys.{LookupTexts, with_namespaces}

abbrev pub lookup_texts : Filter → LookupTexts
lookup_texts filter = with_namespaces (texts_fixed filter) (namespaces_fixed filter)
