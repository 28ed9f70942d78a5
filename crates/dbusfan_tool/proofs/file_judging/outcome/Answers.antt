use Rattle.std.proofs.Common.{ℕ, List, refl, inl, inr, sym, subst, ◌∙◌}
use Rattle.message_view.specs.Valid.{Valid}
use Rattle.dbusfan_tool.specs.FileJudgements.{no_message, message}
use Rattle.dbusfan_tool.proofs.FileSaid.{hands_on, of_file_fault, of_hex_fault, kind_stays}
use Rattle.dbusfan_tool.proofs.file_judging.outcome.Goals as goal

pub returns-in_err-text : goal.returns-in_err-text
returns-in_err-text g c judge before name serves gives other sure =
    hands_on _ judge _ _ c.from_residual.ensures.1 (of_file_fault _ judge c.in_err-text.field-0.0 (c.in_err-text.ensures before name gives))

pub returns-in_err-bytes : goal.returns-in_err-bytes
returns-in_err-bytes g c judge before name serves gives other sure =
    let read = c.in_ok-text.ensures before name gives in
    let none = rw c.deref.ensures.value at c.in_err-bytes.ensures.hex in
    hands_on _ judge _ _ c.from_residual-in_err-bytes.ensures.1 (of_hex_fault _ judge c.in_err-bytes.field-0.0 c.in_ok-text.text.items read.0 (kind_stays c.args.beginning _ sure read.1 ∙ other) none)

pub returns-in_err-message : goal.returns-in_err-message
returns-in_err-message g c judge before name serves gives other sure =
    let read = c.in_ok-text.ensures before name gives in
    let spells = rw c.deref.ensures.value at c.in_ok-bytes.ensures.ok in
    let fault = rw c.deref-2.ensures.value at c.in_err-message.ensures.fault in
    hands_on _ judge _ _ c.from_residual-in_err-message.ensures.1 (inl (no_message read.0 refl spells fault))

pub returns-in_err-outcome : goal.returns-in_err-outcome
returns-in_err-outcome g c judge before name serves gives other sure = hands_on _ judge _ _ c.from_residual-in_err-outcome.ensures.1 (inr refl)

pub returns : goal.returns
returns g c judge before name serves gives other sure =
    let read = c.in_ok-text.ensures before name gives in
    let spells = rw c.deref.ensures.value at c.in_ok-bytes.ensures.ok in
    let found = c.in_ok-message.ensures.found in
    let valid = subst (λ (bytes : List ℕ). Valid bytes found.1.0) (sym found.0) found.1.1 in
    let is = rw (found.0, c.deref-2.ensures.value) at (c.in_ok-outcome.ensures judge found.1.0 serves valid) in
    message read.0 refl spells is
