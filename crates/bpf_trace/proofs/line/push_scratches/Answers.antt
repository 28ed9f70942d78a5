use Rattle.std.proofs.Common.{sym, append-nil}
use Rattle.std.specs.Prelude.{string_bytes}
use Rattle.bpf_trace.specs.Views.{state_of}
use Rattle.bpf_trace.proofs.Scratch.{no_texts, texts_more}
use Rattle.bpf_trace.proofs.line.push_scratches.Goals as goal

pub loop-k-init : goal.loop-k-init
loop-k-init c = rw (no_texts (state_of c.args.at.now).words) (sym (append-nil (string_bytes c.args.text.now)))

pub loop-k-preserved : goal.loop-k-preserved
loop-k-preserved c =
    texts_more (state_of c.args.at.now).words c.loop-k.k _ (string_bytes c.args.text.now) (string_bytes c.loop-k.text) (string_bytes c.push_scratch.new.text) c.word_of.ensures c.loop-k.invariant c.in_ok-push_scratch.ensures
