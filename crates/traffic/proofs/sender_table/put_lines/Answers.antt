use Rattle.std.proofs.Common.{Global}
use Rattle.std.specs.Prelude.{String, string_bytes, option_map}
use Rattle.std.specs.Map.Iter.{deref_pair}
use Rattle.traffic.specs.Senders.{sender_line}
use Rattle.traffic.specs.declared.sender_table.Messages.{Messages}
use Rattle.traffic.proofs.RowLines.{line_added}
use Rattle.traffic.proofs.sender_table.put_lines.Goals as goal

pub loop-place-preserved : goal.loop-place-preserved
loop-place-preserved c =
    line_added (λ (row : String Global × Messages). sender_line c.args.time (string_bytes row.0) row.1) c.args.rows.now.entries c.loop-place.place (option_map deref_pair c.get_index.result)
    (string_bytes c.args.text.now) (string_bytes c.loop-place.text) (string_bytes c.put_row.new.text)
    c.get_index.ensures.entry c.loop-place.invariant c.in_ok-put_row.ensures
