use Rattle.std.proofs.Common.{◌≡◌, List, [], ℕ, false, ap, subst, take, ◌∙◌, sym, length, ◌-◌}
use Rattle.auth.specs.declared.stage.Stage.TheVariants.{Failed}
use Rattle.auth.specs.Lines.{through_line}
use Rattle.auth.specs.Stages.{is_over}
use Rattle.auth.specs.Talk.{Standing, Outcome, by_lines, no_answer}
use Rattle.auth.proofs.TakenLines.{ended_len, full_talk, ended_fed}
use Rattle.auth.proofs.server.Auth.take_line.Goals as goal

pub returns-in-Full-clause-talk : goal.returns-in-Full-clause-talk
returns-in-Full-clause-talk c =
    let on : is_over c.self.inside.stage ≡ false = ap (λ (s : Standing). is_over s.stage) c.self.view_is ∙ c.requires in
    let state = rw c.in-Full.is at c.add-taken.ensures.state in
    let s : Standing = record { terms = c.self.inside.terms; stage = c.self.inside.stage; rejections = c.self.inside.rejections; line = c.self.inside.line.items } in
    subst (λ (x : Standing). by_lines x (take (through_line x.line c.args.bytes.now) c.args.bytes.now) ≡ no_answer (record { terms = s.terms; stage = Failed; rejections = s.rejections; line = c.clear.new.self.items })) c.self.view_is
    (full_talk s c.args.bytes.now c.add-taken.new.line.items c.add-taken.result.0 (record { within = c.add-taken.ensures.taken; is = c.add-taken.ensures.line }) on state.0 state.1
    ∙ ap (λ (x : List ℕ). no_answer (record { terms = s.terms; stage = Failed; rejections = s.rejections; line = x })) (sym c.clear.ensures))

pub returns-in-Failed-clause-talk : goal.returns-in-Failed-clause-talk
returns-in-Failed-clause-talk c =
    let on : is_over c.self.inside.stage ≡ false = ap (λ (s : Standing). is_over s.stage) c.self.view_is ∙ c.requires in
    let state = rw c.in-Ended.is at c.add-taken.ensures.state in
    let s : Standing = record { terms = c.self.inside.terms; stage = c.self.inside.stage; rejections = c.self.inside.rejections; line = c.self.inside.line.items } in
    let r = c.answer_line-line_answer.result in
    let text : c.without_end-text.result.now ≡ take (length c.add-taken.new.line.items - 2) c.add-taken.new.line.items = rw c.as_slice.ensures.value at c.without_end-text.ensures in
    let answer : List ℕ → Outcome = λ (x : List ℕ). record { standing = record { terms = s.terms; stage = r.stage; rejections = r.rejections; line = x }; answers = r.answer.items } in
    subst (λ (x : Standing). by_lines x (take (through_line x.line c.args.bytes.now) c.args.bytes.now) ≡ no_answer (record { terms = s.terms; stage = r.stage; rejections = r.rejections; line = c.clear-in-Ended.new.self.items })) c.self.view_is
    (ended_fed s c.args.bytes.now c.add-taken.new.line.items c.without_end-text.result.now c.add-taken.result.0 (answer []) (record { within = c.add-taken.ensures.taken; is = c.add-taken.ensures.line }) on state.1 state.0 text c.answer_line-line_answer.ensures.answer
    ∙ ap answer (sym c.clear-in-Ended.ensures)
    ∙ ap (λ (x : List ℕ). record { standing = record { terms = s.terms; stage = r.stage; rejections = r.rejections; line = c.clear-in-Ended.new.self.items }; answers = x }) (c.answer_line-line_answer.ensures.refusal c.in-Failed.is))

pub returns-in_default-clause-taken : goal.returns-in_default-clause-taken
returns-in_default-clause-taken c =
    let state = rw c.in-Ended.is at c.add-taken.ensures.state in
    subst (λ (x : Standing). c.add-taken.result.0 ≡ through_line x.line c.args.bytes.now) c.self.view_is
    (ended_len c.self.inside.line.items c.args.bytes.now c.add-taken.new.line.items c.add-taken.result.0 (record { within = c.add-taken.ensures.taken; is = c.add-taken.ensures.line }) state.1 state.0)

pub returns-in_default-clause-talk : goal.returns-in_default-clause-talk
returns-in_default-clause-talk c =
    let on : is_over c.self.inside.stage ≡ false = ap (λ (s : Standing). is_over s.stage) c.self.view_is ∙ c.requires in
    let state = rw c.in-Ended.is at c.add-taken.ensures.state in
    let s : Standing = record { terms = c.self.inside.terms; stage = c.self.inside.stage; rejections = c.self.inside.rejections; line = c.self.inside.line.items } in
    let r = c.answer_line-line_answer.result in
    let text : c.without_end-text.result.now ≡ take (length c.add-taken.new.line.items - 2) c.add-taken.new.line.items = rw c.as_slice.ensures.value at c.without_end-text.ensures in
    let answer : List ℕ → Outcome = λ (x : List ℕ). record { standing = record { terms = s.terms; stage = r.stage; rejections = r.rejections; line = x }; answers = r.answer.items } in
    subst (λ (x : Standing). by_lines x (take (through_line x.line c.args.bytes.now) c.args.bytes.now) ≡ answer c.clear-in-Ended.new.self.items) c.self.view_is
    (ended_fed s c.args.bytes.now c.add-taken.new.line.items c.without_end-text.result.now c.add-taken.result.0 (answer []) (record { within = c.add-taken.ensures.taken; is = c.add-taken.ensures.line }) on state.1 state.0 text c.answer_line-line_answer.ensures.answer
    ∙ ap answer (sym c.clear-in-Ended.ensures))
