use Rattle.message_value.proofs.SkipValues.{extent_fits, extent_steps, item_there, item_end}
use Rattle.message_value.proofs.skip.skip_array.Goals as goal

pub skip_word-len-requires : goal.skip_word-len-requires
skip_word-len-requires c = extent_fits c.args.order c.args.alignment c.args.cursor.now c.requires.read.0 c.requires.read.1

pub skip_padding-requires-clause-read : goal.skip_padding-requires-clause-read
skip_padding-requires-clause-read c =
    let s = extent_steps c.args.order c.args.alignment c.args.cursor.now c.skip_word-len.result c.skip_word-len.new.self c.requires.read.0 c.requires.read.1 c.skip_word-len.ensures in
    (s.start, s.gone)

pub skip-requires : goal.skip-requires
skip-requires c =
    let s = extent_steps c.args.order c.args.alignment c.args.cursor.now c.skip_word-len.result c.skip_word-len.new.self c.requires.read.0 c.requires.read.1 c.skip_word-len.ensures in
    item_there c.args.alignment c.skip_word-len.result c.skip_word-len.new.self c.requires.read.0 c.skip_padding.new.self s c.skip_padding.ensures.gone

pub returns : goal.returns
returns c = λ found e.
    let s = extent_steps c.args.order c.args.alignment c.args.cursor.now c.skip_word-len.result c.skip_word-len.new.self found e c.skip_word-len.ensures in
    item_end c.args.alignment c.skip_word-len.result c.skip_word-len.new.self found c.skip_padding.new.self (c.skip.result.now, c.skip.new.self) s c.skip_padding.ensures.gone c.skip.ensures.read
