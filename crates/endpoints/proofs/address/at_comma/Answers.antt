-- A value before the comma has none, so the first comma is the one after it.
use Rattle.std.proofs.Common.{lit<}
use Rattle.std.proofs.lemmas.Str.Pattern.{split_after}
use Rattle.endpoints.proofs.Commas.{no_comma, parts_given}
use Rattle.endpoints.proofs.address.at_comma.Goals as goal

pub returns-clause-only : goal.returns-clause-only
returns-clause-only c front back plain text =
    parts_given c.split_once.result front back
    (split_after 44 c.args.text.now front back c.split_once.result c.split_once.ensures.cases (lit< tt) text (no_comma front plain))
