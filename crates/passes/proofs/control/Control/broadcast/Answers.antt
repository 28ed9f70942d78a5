use Rattle.std.proofs.Common.{◌≡◌, ◌∙◌, ℕ, List, Option, IfSome, refl, ap, sym, subst, length}
use Rattle.message_view.specs.Valid.{Valid}
use Rattle.program_table.specs.declared.command.Command.{Command}
use Rattle.published.specs.Publication.{Publication}
use Rattle.routing.specs.Turns.{TurnView}
use Rattle.passes.specs.Passes.{PassState, sender_of}
use Rattle.passes.specs.Standings.{place_at}
use Rattle.passes.specs.Theirs.{AreTheirs, HaveTurns}
use mathlib.Core.List.{IsPrefix}
use Rattle.passes.proofs.Theirs.{theirs_kept, theirs_sent, turns_alike, stands_all}
use Rattle.passes.proofs.ToldFirst.{seen_itself, told_routed}
use Rattle.passes.proofs.control.Control.broadcast.Goals as goal

pub route-answer-requires-clause-stands : goal.route-answer-requires-clause-stands
route-answer-requires-clause-stands g c =
    let outbox_of = g.M.Mailbox.outbox_of in
    let l = c.self.inside.publisher.value.history in
    let seen : c.tell.new.pass.seen ≡ l = ap (λ (x : PassState g.row.M.Denot). x.seen) c.in_ok-tell.ensures.2 ∙ c.in_ok-tell.ensures.0 in
    let its : List (Command g.row.M.Denot) → Type 0 = λ h. AreTheirs outbox_of h c.take_sender-sender.result.recipient_seats in
    let theirs = theirs_kept outbox_of l c.state.result.now c.take_sender-sender.result c.seat_those_there-seated.new.sender c.state.ensures.history c.state.ensures.state c.seat_those_there-seated.ensures.keeps (subst its seen c.take_sender-sender.ensures.theirs) in
    let turns : List TurnView → Type 0 = λ t. HaveTurns outbox_of l t in
    let have = subst turns (sym c.stand_at.ensures.turns) c.self.invariant in
    stands_all outbox_of l c.state.result.now c.seat_those_there-seated.new.recipients.items c.in_ok-place.place c.seat_those_there-seated.new.sender.recipient_seats c.stand_at.new.turns c.in_ok-stand_at.ensures.at c.state.ensures.history c.state.ensures.state theirs have c.seat_those_there-seated.ensures.there

pub put_back-requires-clause-theirs : goal.put_back-requires-clause-theirs
put_back-requires-clause-theirs g c =
    let outbox_of = g.M.Mailbox.outbox_of in
    let l = c.self.inside.publisher.value.history in
    let seen : c.tell.new.pass.seen ≡ l = ap (λ (x : PassState g.row.M.Denot). x.seen) c.in_ok-tell.ensures.2 ∙ c.in_ok-tell.ensures.0 in
    theirs_sent outbox_of c.tell.new.pass c.tell.new.pass c.take_sender-sender.new.self l c.state.result.now c.take_sender-sender.result c.seat_those_there-seated.new.sender c.route-answer.new.sender refl (seen_itself c.tell.new.pass.seen l seen)
    c.state.ensures.history c.state.ensures.state (ap (λ (x : PassState g.row.M.Denot). x.seen) c.take_sender-sender.ensures.same ∙ seen) c.take_sender-sender.ensures.theirs c.seat_those_there-seated.ensures.keeps c.route-answer.ensures.keeps

pub invariant_of-self-4 : goal.invariant_of-self-4
invariant_of-self-4 g c =
    let outbox_of = g.M.Mailbox.outbox_of in
    let l = c.self.inside.publisher.value.history in
    let turns : List TurnView → Type 0 = λ t. HaveTurns outbox_of l t in
    turns_alike outbox_of l c.stand_at.new.turns.turns c.route-answer.new.turns.turns c.route-answer.ensures.turns.queues (subst turns (sym c.stand_at.ensures.turns) c.self.invariant)

pub returns-clause-routed : goal.returns-clause-routed
returns-clause-routed g c =
    let M = g.row.M.Denot in
    let outbox_of = g.M.Mailbox.outbox_of in
    let l = c.self.inside.publisher.value.history in
    let v = c.args.pass.now in
    let begins = subst (λ (h : List (Command M)). IsPrefix v.seen h) c.in_ok-tell.ensures.0 c.in_ok-tell.ensures.1 in
    let at = c.in_ok-place.ensures.place ∙ ap (λ n. place_at c.args.standing n) c.commands.ensures in
    told_routed _ c.args.standing c.in_ok-place.place outbox_of c.args.source c.sender-from.result c.args.bytes.now v c.tell.new.pass c.take_sender-sender.new.self c.put_back.new.self l c.state.result.now c.take_sender-sender.result c.seat_those_there-seated.new.sender c.route-answer.new.sender c.seat_those_there-seated.new.recipients.items c.route-answer.new.refused.items c.route-answer.result
    (record {
      begins = begins;
      told = c.in_ok-tell.ensures.2 ∙ ap (λ (h : List (Command M)). record v { seen = h }) c.in_ok-tell.ensures.0;
      state = c.state.ensures.state;
      taken = c.take_sender-sender.ensures.same;
      is = c.take_sender-sender.ensures.sender;
      back = c.put_back.ensures;
    })
    (c.sender-from.ensures ∙ ap (λ n. sender_of c.args.source n) c.connection.ensures)
    (λ m valid. c.seat_those_there-seated.ensures.recipients m (let V : List ℕ → Type 0 = λ b. Valid b m in subst V (sym c.requires) valid))
    c.seat_those_there-seated.ensures.shut c.seat_those_there-seated.ensures.keeps c.seat_those_there-seated.ensures.put c.route-answer.ensures.keeps c.seats.ensures.fits c.route-answer.ensures.ok c.route-answer.ensures.err at
