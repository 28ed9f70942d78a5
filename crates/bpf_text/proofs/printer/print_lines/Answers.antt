use Rattle.std.proofs.Common.{sym, ◌∙◌, string_bytes}
use Rattle.bpf_text.proofs.PrintedSoFar.{line_more}
use Rattle.bpf_text.proofs.Widths.{one_wider}
use Rattle.bpf_text.proofs.printer.print_lines.Goals as goal

pub loop-place-preserved : goal.loop-place-preserved
loop-place-preserved c = (
  line_more c.args.program.now c.loop-place.place _ c.in-Some.op c.is_jumped_to.result (string_bytes c.loop-place.out) (string_bytes c.put_line.new.out) c.loop-place-test.true (sym c.in-Some.ensures) (sym c.jumps_out.ensures ∙ c.if-jumps_out.false) c.is_jumped_to.ensures c.in_ok-put_line.ensures.ok c.loop-place.invariant.0,
  one_wider c.args.program.now c.loop-place.place _ c.loop-place-test.true c.loop-place.invariant.1 c.has_widths.ensures,
)
