use Rattle.summary.proofs.Assembled.{summary_written}
use Rattle.summary.proofs.summary_bytes.put_summary.Goals as goal

pub returns-clause-bytes : goal.returns-clause-bytes
returns-clause-bytes c m valid =
    summary_written c.args.edition m c.args.owned.now c.args-2.result c.put_arguments-count.result c.args.words.now c.put_head.new.words c.put_texts.new.words c.put_arguments-count.new.words c.set.new.self c.put_rest.new.words (c.args-2.ensures m valid) c.put_arguments-count.ensures.count c.requires (c.put_head.ensures.bytes m valid) (c.put_texts.ensures.bytes m valid) c.put_arguments-count.ensures.bytes c.set.ensures (c.put_rest.ensures.bytes m valid)
