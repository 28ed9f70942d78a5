use Rattle.std.proofs.Common.{sym, ap, ◌∙◌, inl, inr}
use Rattle.program_table.specs.History.{after}
use Rattle.published.specs.Publication.{Publication}
use Rattle.passes.specs.Passes.{PassState}
use Rattle.passes.proofs.Commands.{IsGained, turned_down, gained, goes_on, room, one_more, finished}
use Rattle.passes.proofs.Admitted.{told_self, counted_self, counted_at}
use Rattle.passes.proofs.control.publish.Goals as goal

pub returns-in-Refused : goal.returns-in-Refused
returns-in-Refused g c =
    let v = c.args.pass.now in
    let b = c.args.publisher.now in
    inl (turned_down v v c.refuse.new.self b.history b c.publish.new.self v.connection v.took c.args.command c.in-Refused.refusal c.refuse.result (told_self v b c.requires.ready) (counted_self v b c.requires.ready) (sym c.in-Ok.ensures.reply ∙ c.in-Refused.is) c.in-Ok.ensures.history
    (c.refuse.ensures.error ∙ c.of.ensures) c.refuse.ensures.pass)

pub count_in-requires : goal.count_in-requires
count_in-requires g c =
    let v = c.args.pass.now in
    let b = c.args.publisher.now in
    let n = c.connection-connection.result in
    let told_history = told_self v b c.requires.ready in
    let count = counted_at v b n c.connection-connection.ensures c.requires.ready in
    let gain : IsGained v b c.publish.new.self c.args.command = gained v b c.publish.new.self c.args.command (λ refusal e. c.in_default.not-Refused refusal (c.in-Ok.ensures.reply ∙ e)) c.in-Ok.ensures.history (c.requires.own (after b.history)) in
    record {
      begins = goes_on v v b.history c.front.result b c.publish.new.self c.args.command told_history gain c.front.ensures;
      room = room v v b.history b c.publish.new.self n v.took c.args.command told_history count gain;
      number = count.there;
      same = inr c.connection-connection.ensures;
      own = one_more v v b.history c.front.result b c.publish.new.self n v.took c.args.command told_history count gain c.front.ensures;
    }

pub returns : goal.returns
returns g c =
    let v = c.args.pass.now in
    let b = c.args.publisher.now in
    let n = c.connection-connection.result in
    let told_history = told_self v b c.requires.ready in
    let count = counted_at v b n c.connection-connection.ensures c.requires.ready in
    let gain : IsGained v b c.publish.new.self c.args.command = gained v b c.publish.new.self c.args.command (λ refusal e. c.in_default.not-Refused refusal (c.in-Ok.ensures.reply ∙ e)) c.in-Ok.ensures.history (c.requires.own (after b.history)) in (
      finished v v c.count_in.new.self b.history c.front.result b c.publish.new.self n v.took c.args.command c.in-Ok.reply told_history count gain c.front.ensures c.in-Ok.ensures.reply c.count_in.ensures,
      ap (λ (p : PassState g.row.M.Denot). p.connection) c.count_in.ensures ∙ c.connection-connection.ensures,
      ap (λ (p : PassState g.row.M.Denot). p.is_closed) c.count_in.ensures ∙ c.requires.ready.admitted.open_still,
    )
