use Rattle.std.proofs.Common.{List, ℕ, length, ap, subst, arith}
use Rattle.std.specs.Prelude.{Option}
use Rattle.match_rule.specs.FixedTexts.{texts_from}
use Rattle.entry_table.specs.declared.entry.Entry.{Entry}
use Rattle.entry_table.specs.OfferedEntries.{AreOffered}
use Rattle.fan_out.proofs.Offering.{offered_few}
use Rattle.fan_out.proofs.Finding.{nobody_marked}
use Rattle.fan_out.proofs.recipients.mark_recipients.Goals as goal

pub returns-in-None-clause-exact : goal.returns-in-None-clause-exact
returns-in-None-clause-exact g c m valid =
    let are = subst (λ (name : Option (List ℕ)). AreOffered c.args.state.now.registrations.entries (texts_from name m) c.entries_for-offers.result) (c.sender.ensures m valid) (c.entries_for-offers.ensures.offers m valid) in
    nobody_marked c.args.state.now c.args.sender m c.args.piece.part c.args.piece.of 4096 c.entries_for-offers.result c.args.marks.now.places c.offered_where_it_holds.ensures are c.in-None.ensures.steps.0 c.requires

pub returns-in-Some-clause-most : goal.returns-in-Some-clause-most
returns-in-Some-clause-most g c m valid =
    let are = subst (λ (name : Option (List ℕ)). AreOffered c.args.state.now.registrations.entries (texts_from name m) c.entries_for-offers.result) (c.sender.ensures m valid) (c.entries_for-offers.ensures.offers m valid) in
    omega (arith, c.consider_offered.ensures.most, offered_few c.args.state.now m c.entries_for-offers.result are, ap (λ (es : List Entry). length es) c.in-Some.ensures.steps)
