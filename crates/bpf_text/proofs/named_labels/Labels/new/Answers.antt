use Rattle.std.proofs.Common.{List, sym, map, subst}
use Rattle.bpf_text.specs.declared.named_labels.Label.{Label}
use Rattle.bpf_text.specs.LabelPlaces.{Finds, label_view}
use Rattle.bpf_text.proofs.LabelMap.{no_labels}
use Rattle.bpf_text.proofs.named_labels.Labels.new.Goals as goal

pub invariant_of-result : goal.invariant_of-result
invariant_of-result c = subst (λ (labels : List Label). Finds c.new-2.result (map label_view labels)) (sym c.new.ensures.items) (no_labels c.new-2.result c.new-2.ensures.empty)
