use Rattle.std.proofs.Common.{◌+◌}
use Rattle.summary.specs.Layout.{summary_len}
use Rattle.summary.proofs.WordLists.{argument_written}
use Rattle.summary.proofs.parts.put_argument.Goals as goal

pub returns-clause-bytes : goal.returns-clause-bytes
returns-clause-bytes c =
    argument_written c.args.words.now c.put.new.self c.put-2.new.self c.put-3.new.self c.from.result c.place_in_image.result c.args.arg.len c.args.arg.code (summary_len c.args.edition + c.args.arg.place) c.put.ensures c.put-2.ensures c.put-3.ensures c.from.ensures c.place_in_image.ensures
