use Rattle.std.proofs.Common.{refl, ◌∙◌}
use Rattle.dbusfan_tool.proofs.NearestKept.{no_lines, none_near}
use Rattle.dbusfan_tool.proofs.tally.Tally.new.Goals as goal

pub returns-clause-none : goal.returns-clause-none
returns-clause-none c = record {
  words_are = refl;
  each_is = refl;
  lines_are = c.new.ensures.bytes ∙ no_lines c.args.words c.args.each;
  notes_are = c.new-2.ensures.bytes;
  packets_are = refl;
  judged_are = refl;
  accepted_are = refl;
  passed_over_are = refl;
  nearest_are = c.new-3.ensures.items ∙ none_near c.args.words;
}
