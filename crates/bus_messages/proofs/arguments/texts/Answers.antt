use Rattle.std.proofs.Common.{rules, ◌≡◌, ◌++◌, ◌∷◌, [], ◌-◌, length, None, sym, ◌∙◌, arith}
use Rattle.std.proofs.lemmas.Grind.{common_steps}
use Rattle.bus_messages.specs.Arguments.{text_element, text_elements, texts_of}
use Rattle.bus_messages.proofs.TextElements.{lent_values, one_more_text, texts_ended, turns_ended, no_text}
use Rattle.bus_messages.proofs.arguments.texts.Goals.{else-loop-test, then-loop-test+then-is_empty}
use Rattle.bus_messages.proofs.arguments.texts.Goals as goal

pub returns-in_err-text : goal.returns-in_err-text
returns-in_err-text c =
    let whole = text_elements c.args.order c.args.bytes.now in
    let none : texts_of whole ≡ None =
    no_text (text_element c.args.order) (length c.args.bytes.now) c.loop.counter c.loop.cursor (lent_values c.loop.texts.items) _ whole
    (omega (arith, c.loop-test.true)) (sym c.is_empty.ensures ∙ c.if-is_empty.false) c.in_err-text.ensures c.loop.invariant in
    search (rules, none)

pub loop-preserved : goal.loop-preserved
loop-preserved c =
    let strings = c.loop.texts.items in
    let string = c.in_ok-text.text in
    let pushed : c.push.new.self.items ≡ strings ++ string ∷ [] = grind (arith, common_steps) in
    rw pushed (one_more_text (text_element c.args.order) (length c.args.bytes.now) c.loop.counter c.loop.cursor c.next_text.new.cursor strings string (text_elements c.args.order c.args.bytes.now)
    (omega (arith, c.loop-test.true)) (sym c.is_empty.ensures ∙ c.if-is_empty.false) c.in_ok-text.ensures c.loop.invariant)

pub returns : goal.returns
returns c =
    let reader = text_element c.args.order in
    let turns = length c.args.bytes.now - c.loop.counter in
    let whole = text_elements c.args.order c.args.bytes.now in
    elim c.loop-test.branch [
      | else-loop-test w ↦ turns_ended reader turns c.loop.cursor c.loop.texts.items whole (omega (arith, w.loop-test.false)) c.loop.invariant
      | then-loop-test+then-is_empty w ↦ texts_ended reader turns c.loop.cursor c.loop.texts.items whole (sym w.is_empty.ensures ∙ w.if-is_empty.true) c.loop.invariant
    ]
