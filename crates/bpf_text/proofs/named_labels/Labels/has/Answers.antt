use Rattle.std.proofs.Common.{◌≡◌, sym, ap, map, ◌∙◌}
use Rattle.std.specs.Prelude.{is_some}
use Rattle.bpf_text.specs.LabelPlaces.{label_view}
use Rattle.bpf_text.specs.Source.{has_name}
use Rattle.bpf_text.proofs.LabelMap.{has_defined}
use Rattle.bpf_text.proofs.named_labels.Labels.has.Goals as goal

pub returns : goal.returns
returns c =
    let here : c.contains_key.result ≡ has_name (map label_view c.self.inside.list.items) c.args.name.now =
    c.contains_key.ensures ∙ ap is_some (c.self.invariant c.args.name.now) ∙ sym (has_defined (map label_view c.self.inside.list.items) c.args.name.now) in
    cc
