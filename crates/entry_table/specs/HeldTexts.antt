-- Inner: a message's texts as they are kept for lookups.
use Rattle.std.specs.Prelude.{ℕ, List, Option, Some, None, if◌then◌else◌}
use Rattle.entry_table.specs.declared.texts.Text.{Text}
use Rattle.entry_table.specs.TextKeys.{LookupTexts}

abbrev pub text_in : Text → Option (List ℕ)
text_in t = if t.is_there then Some t.text.now else None

abbrev pub texts_in : Text → Text → Text → Text → Text → Text → Text → LookupTexts
texts_in member interface path sender arg0 path_namespace arg0_namespace = record {
  texts = record { member = text_in member; interface = text_in interface; path = text_in path; sender = text_in sender; arg0 = text_in arg0 };
  path_namespace = text_in path_namespace;
  arg0_namespace = text_in arg0_namespace;
}
