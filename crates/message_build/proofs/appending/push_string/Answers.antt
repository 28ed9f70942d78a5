use Rattle.std.proofs.Common.{length}
use Rattle.message_value.specs.Spelling.{padding, zeros, text_bytes}
use Rattle.message_build.proofs.Appended.{appends_then}
use Rattle.message_build.proofs.appending.push_string.Goals as goal

pub returns : goal.returns
returns c =
    let old = c.args.bytes.now.items in
    appends_then c.push_text.result old c.align.new.bytes.items c.push_text.new.bytes.items (zeros (padding 4 (length old))) (text_bytes c.args.order 115 c.args.string.now) c.in_ok-align.ensures c.push_text.ensures
