use Rattle.std.proofs.Common.{ap, ◌∙◌}
use Rattle.entry_table.specs.PlaceLists.{places_in}
use Rattle.entry_table.specs.FoundTexts.{coming}
use Rattle.entry_table.specs.TextKeys.{KeyedTexts, hash_lists}
use Rattle.entry_table.proofs.index.Index.entries_for.Goals as goal

pub returns : goal.returns
returns c = λ m valid. record {
  used = c.in_use.result;
  once = c.in_use.ensures.once;
  same = c.in_use.ensures.used;
  has_arg0 = c.has_arg0-has_arg0.result;
  without = c.has_arg0-has_arg0.ensures;
  is = c.new.ensures
      ∙ ap (λ (found : KeyedTexts). coming c.args.slab.now c.args.self.now.by_texts found (record { shape = 0; places = places_in c.args.self.now.by_texts hash_lists; shapes = c.in_use.result })) (c.new-found.ensures m valid);
}
