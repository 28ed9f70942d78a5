use Rattle.std.proofs.Common.{ℕ, ◌++◌, ◌∷◌, [], List, sym, ◌∙◌}
use Rattle.bpf_text.specs.Source.{Label}
use Rattle.bpf_text.proofs.Labels.{begins_more, labels_pushed, repeated_then, repeated_else}
use Rattle.bpf_text.proofs.line.take_labels.Goals as goal
use Rattle.bpf_text.proofs.line.take_labels.Goals.{then-again, else-again}

pub loop-name-preserved : goal.loop-name-preserved
loop-name-preserved c =
    let before : List Label = c.args.labels.now in
    let old : List Label = c.loop-name.labels in
    let place : ℕ = c.args.place in
    let names : List (List ℕ) = c.loop-name.invariant.names in
    let name : List ℕ = c.in-Some.name.now in
    record {
      names = names ++ name ∷ [];
      begins = begins_more c.args.bytes.now c.loop-name.rest.now c.in-Some.tail.now name names c.loop-name.invariant.begins (sym c.in-Some.ensures.value);
      labels = labels_pushed before old c.push.new.self place names name c.loop-name.invariant.labels c.in_ok-push.ensures;
      repeated = elim c.if-again.branch [
        | then-again w ↦ w.again-is ∙ w.if-again.true ∙ repeated_then before place names name c.loop-name.again c.loop-name.invariant.repeated w.if-again.true
        | else-again w ↦ w.again-is ∙ repeated_else before old place names name c.loop-name.again w.has-again.result c.loop-name.invariant.repeated w.if-again.false c.loop-name.invariant.labels w.has-again.ensures
      ];
    }
