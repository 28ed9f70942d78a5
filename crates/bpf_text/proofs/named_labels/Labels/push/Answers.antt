use Rattle.std.proofs.Common.{sym, map, subst, ◌∙◌}
use Rattle.std.proofs.lemmas.Map.Text.{btree_map_updates_str}
use Rattle.bpf_text.specs.LabelPlaces.{Finds, label_view}
use Rattle.bpf_text.specs.Source.{Label}
use Rattle.bpf_text.proofs.LabelMap.{known_push, new_push}
use Rattle.bpf_text.proofs.Labels.{mapped_push}
use Rattle.bpf_text.proofs.named_labels.Labels.push.Goals as goal

pub invariant_of-self-then-contains_key : goal.invariant_of-self-then-contains_key
invariant_of-self-then-contains_key c =
    let label : Label = record { name = c.args.name.now; place = c.args.place } in
    let pushed = mapped_push label_view c.self.inside.list.items c.push.new.self.items _ c.in_ok-push.ensures.items in
    subst (Finds c.self.inside.places) (sym pushed) (known_push c.self.inside.places (map label_view c.self.inside.list.items) label c.self.invariant (sym c.contains_key.ensures ∙ c.if-contains_key.true))

pub invariant_of-self-in-Ok : goal.invariant_of-self-in-Ok
invariant_of-self-in-Ok c =
    let label : Label = record { name = c.args.name.now; place = c.args.place } in
    let pushed = mapped_push label_view c.self.inside.list.items c.push.new.self.items _ c.in_ok-push.ensures.items in
    let updates = btree_map_updates_str c.args.name.now c.self.inside.places c.insert.new.self _ c.in-Ok.ensures.updates in
    subst (Finds c.insert.new.self) (sym pushed) (new_push c.self.inside.places c.insert.new.self (map label_view c.self.inside.list.items) label c.self.invariant (sym c.contains_key.ensures ∙ c.if-contains_key.false) updates)
