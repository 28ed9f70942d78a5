use Rattle.std.proofs.Common.{arith, ◌≡◌, false, sym, ◌∙◌, ap, get_or}
use Rattle.signature.proofs.Cuts.{none_at, longer_at}
use Rattle.signature.specs.Code.{code_of}
use Rattle.signature.specs.Reading.{fault_at, next}
use Rattle.signature.specs.TypeTexts.{is_closed}
use Rattle.signature.proofs.walk.long_type_len.Goals as goal

pub advance-requires : goal.advance-requires
advance-requires c =
    let none = none_at c.loop-byte.nesting c.args.text.now c.loop-byte.byte-index (omega arith) c.loop-byte.invariant.0 in
    ap (fault_at c.loop-byte.nesting) c.of.ensures ∙ none.0

pub loop-byte-preserved : goal.loop-byte-preserved
loop-byte-preserved c =
    let code = code_of (get_or c.args.text.now c.loop-byte.byte-index 0) in
    let none = none_at c.loop-byte.nesting c.args.text.now c.loop-byte.byte-index (omega arith) c.loop-byte.invariant.0 in
    let after : c.advance.new.nesting ≡ next c.loop-byte.nesting code = c.advance.ensures ∙ ap (next c.loop-byte.nesting) c.of.ensures in
    let goes_on : is_closed (next c.loop-byte.nesting code) ≡ false = ap is_closed (sym after) ∙ sym c.is_empty.ensures ∙ c.if-is_empty.false in
    let longer = longer_at c.loop-byte.nesting c.args.text.now c.loop-byte.byte-index c.loop-byte.len (omega arith) goes_on in
    rw after (none.1, longer ∙ c.loop-byte.invariant.1, omega arith)
