use Rattle.std.proofs.Common.{sym, ◌∙◌, ap, drop}
use Rattle.filter.specs.Lexis.{quoted_len}
use Rattle.filter.proofs.Fronts.{past_escaped, past_other}
use Rattle.filter.proofs.quoted.quoted_len.Goals as goal
use Rattle.filter.proofs.quoted.quoted_len.Goals.{then-after_backslash, else-after_backslash+else-byte-quote}

pub loop-len-preserved : goal.loop-len-preserved
loop-len-preserved c =
    let q = c.args.quote in
    let n = c.loop-len.len in
    let bytes = c.args.bytes.now in
    elim c.if-after_backslash.branch [
      | then-after_backslash w ↦ rw w.after_backslash-is (sym (past_escaped q n n bytes c.loop-len-test.true) ∙ ap (λ a. quoted_len q a n (drop n bytes)) (sym w.if-after_backslash.true) ∙ c.loop-len.invariant)
      | else-after_backslash+else-byte-quote w ↦ rw w.after_backslash-is (sym (past_other q n n bytes c.loop-len-test.true w.if-byte-quote.false) ∙ ap (λ a. quoted_len q a n (drop n bytes)) (sym w.if-after_backslash.false) ∙ c.loop-len.invariant)
    ]
