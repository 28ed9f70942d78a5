use Rattle.std.proofs.Common.{◌≡◌, ◌<◌, ◌≤◌, length, get_or, drop, None, List, ℕ, suc, sym, ◌∙◌, arith}
use Rattle.std.proofs.Math.Seq.{drop-cons}
use Rattle.std.proofs.lemmas.List.{drop_all}
use Rattle.filter.specs.Integers.{number_in}
use Rattle.filter.specs.Integers.{with_digit_of}
use Rattle.filter.proofs.Numbers.{number_after, stops, ends}
use Rattle.filter.proofs.integer.number_in.Goals as goal

pub returns-in_err-number : goal.returns-in_err-number
returns-in_err-number c =
    let digits : List ℕ = c.args.digits.now in
    let at : ℕ = c.loop-digit.digit-index in
    let d : ℕ = get_or digits at 0 in
    let low : 2 ≤ c.args.base = c.requires.low in
    let inside : at < length digits = c.loop-digit-test.true in
    let bad : with_digit_of c.args.base c.loop-digit.number d ≡ None = sym c.with_digit.ensures ∙ c.in_err-number.was in
    let none = stops c.args.base c.loop-digit.number d (drop (suc at) digits) (omega arith) bad in
    let all : number_after c.args.base c.loop-digit.number (drop at digits) ≡ number_in c.args.base digits = c.loop-digit.invariant.0 in
    let last : number_in c.args.base digits ≡ None = sym all ∙ rw (drop-cons digits at 0) none in
    c.from_residual.ensures ∙ sym last

pub returns : goal.returns
returns c =
    let digits : List ℕ = c.args.digits.now in
    let over : length digits ≤ c.loop-digit.digit-index = c.loop-digit-test.false in
    sym (ends c.args.base c.loop-digit.number c.loop-digit.invariant.1) ∙ (rw (drop_all c.loop-digit.digit-index digits over) at c.loop-digit.invariant.0)
