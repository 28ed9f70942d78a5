use Rattle.std.proofs.Common.{◌∷◌, arith}
use Rattle.fan_out.proofs.Marking.{marks_end}
use Rattle.fan_out.proofs.Finding.{recipients_marked, offered_fit, offered_connected}
use Rattle.fan_out.proofs.recipients.consider_offered.Goals as goal

pub consider_all-requires-clause-few : goal.consider_all-requires-clause-few
consider_all-requires-clause-few g c =
    let spelled = c.raw.ensures.spells in
    omega (arith, offered_fit c.args.state.now spelled.0 (c.args.first.now ∷ c.args.others.now) c.requires.state (c.requires.offers spelled.0 spelled.1))

pub consider_all-requires-clause-connected : goal.consider_all-requires-clause-connected
consider_all-requires-clause-connected g c =
    let spelled = c.raw.ensures.spells in
    offered_connected c.args.state.now spelled.0 (c.args.first.now ∷ c.args.others.now) c.requires.state (c.requires.offers spelled.0 spelled.1)

pub returns-clause-exact : goal.returns-clause-exact
returns-clause-exact g c m valid =
    let s = c.args.state.now in
    let all = c.args.first.now ∷ c.args.others.now in
    let marked = rw (c.new-programs.ensures.view, c.new-programs.ensures.owned) at c.consider_all.ensures.marked in
    recipients_marked s c.args.sender m c.args.view.now c.slots_of-owned.result c.args.piece.part c.args.piece.of all c.consider_all.new.marks.places
    c.requires.state c.slots_of-owned.ensures valid c.ends_in_one_way.ensures c.offered_where_it_holds.ensures (c.requires.offers m valid)
    (λ decided. marks_end s c.args.piece.part c.args.piece.of c.args.view.now c.slots_of-owned.result all c.consider_all.result.runs c.consider_all.new.marks.places c.args.sender m valid decided marked)
