use Rattle.std.proofs.Common.{◌≡◌, ℕ, ◌+◌, drop, sym, ap, ◌∙◌, arith, length-drop}
use Rattle.captures.specs.Options.{padded_len, times_from}
use Rattle.captures.specs.Numbers.{half}
use Rattle.captures.proofs.OptionLists.{ends_with_bytes, after_one}
use Rattle.captures.proofs.times.Times.of.Goals as goal

pub returns-then-rest-next : goal.returns-then-rest-next
returns-then-rest-next c =
    let rest = c.loop-rest.rest.now in
    let len : c.padded_len-next.result ≡ padded_len (half c.args.order rest 2) = c.padded_len-next.ensures ∙ ap padded_len c.half-len.ensures in
    let next = after_one c.args.order c.loop-rest.times c.in-Ok.after rest c.loop-rest-test.true (λ e. c.if-half-eq-END_OF_OPTIONS.false (c.half.ensures ∙ e)) (omega (arith, c.half-len.ensures, c.if-rest-len.false)) (sym c.after_option.ensures ∙ c.in-Ok.is) in
    sym (ends_with_bytes c.args.order c.in-Ok.after (drop (4 + padded_len (half c.args.order rest 2)) rest) (omega (arith, length-drop (4 + padded_len (half c.args.order rest 2)) rest, len, c.if-rest-next.true)))
    ∙ sym next ∙ c.loop-rest.invariant

pub loop-rest-preserved : goal.loop-rest-preserved
loop-rest-preserved c =
    let rest = c.loop-rest.rest.now in
    let len : c.padded_len-next.result ≡ padded_len (half c.args.order rest 2) = c.padded_len-next.ensures ∙ ap padded_len c.half-len.ensures in
    let next = after_one c.args.order c.loop-rest.times c.in-Ok.after rest c.loop-rest-test.true (λ e. c.if-half-eq-END_OF_OPTIONS.false (c.half.ensures ∙ e)) (omega (arith, c.half-len.ensures, c.if-rest-len.false)) (sym c.after_option.ensures ∙ c.in-Ok.is) in
    ap (times_from c.args.order c.in-Ok.after 0) (c.split_at.ensures.back ∙ ap (λ (n : ℕ). drop (4 + n) rest) len)
    ∙ sym next ∙ c.loop-rest.invariant

pub returns : goal.returns
returns c = sym (ends_with_bytes c.args.order c.loop-rest.times c.loop-rest.rest.now c.loop-rest-test.false) ∙ c.loop-rest.invariant
