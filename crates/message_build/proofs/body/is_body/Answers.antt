use Rattle.std.proofs.Common.{◌≡◌, arith, ℕ, List, Ok, Err, sym, subst, ◌∙◌, eqb-true, true, false, eqb, length}
use Rattle.signature.specs.DataType.{SigText, slices}
use Rattle.message_value.specs.declared.order.Order.TheVariants.{Little}
use Rattle.message_value.specs.declared.error.MsgError.TheVariants as faults
use Rattle.message_value.specs.Fits.{max_levels}
use Rattle.message_value.specs.Reading.{At, members_at, value_at}
use Rattle.message_build.proofs.BodyLaws.{read_body, body_ends, body_no_fault}
use Rattle.message_build.proofs.body.is_body.Goals as goal

pub returns-in-Ok-check_members-clause-yes : goal.returns-in-Ok-check_members-clause-yes
returns-in-Ok-check_members-clause-yes c = λ end.
    let found = c.in-Ok.ensures.found in
    let types = found.1.0 in
    let tail = c.check_members.new.cursor in
    let lent : c.types.result ≡ slices types = c.types.ensures types (subst (λ (t : List ℕ). SigText types t) (sym found.0) found.1.1) in
    let read = c.in-Ok-check_members.ensures types lent found.1.1.fits in
    let here = subst (λ (a : At). members_at (value_at max_levels Little) types a ≡ Ok (read.0, tail)) c.new-cursor.ensures read.1 in
    let empty : eqb (length tail.rest) 0 ≡ true = sym c.is_empty.ensures ∙ end in
    read_body types c.args.signature.now c.args.body.now faults.Short read.0 tail found.1.1 (λ i. omega (arith, c.type_inv.body i)) (omega arith) here (eqb-true (length tail.rest) 0 empty)

pub returns-in-Ok-check_members-clause-no : goal.returns-in-Ok-check_members-clause-no
returns-in-Ok-check_members-clause-no c = λ end body.
    let found = c.in-Ok.ensures.found in
    let types = found.1.0 in
    let tail = c.check_members.new.cursor in
    let lent : c.types.result ≡ slices types = c.types.ensures types (subst (λ (t : List ℕ). SigText types t) (sym found.0) found.1.1) in
    let read = c.in-Ok-check_members.ensures types lent found.1.1.fits in
    let here = subst (λ (a : At). members_at (value_at max_levels Little) types a ≡ Ok (read.0, tail)) c.new-cursor.ensures read.1 in
    let left : eqb (length tail.rest) 0 ≡ false = sym c.is_empty.ensures ∙ end in
    let none : length tail.rest ≡ 0 = body_ends types c.args.signature.now c.args.body.now faults.Short read.0 tail found.1.1 body here in
    let contrary : true ≡ false = rw none at left in
    absurd cc

pub returns-in-Err-clause-no : goal.returns-in-Err-clause-no
returns-in-Err-clause-no c = λ end body.
    let found = c.in-Ok.ensures.found in
    let types = found.1.0 in
    let lent : c.types.result ≡ slices types = c.types.ensures types (subst (λ (t : List ℕ). SigText types t) (sym found.0) found.1.1) in
    let read = c.in-Err.ensures types lent found.1.1.fits in
    let here = subst (λ (a : At). members_at (value_at max_levels Little) types a ≡ Err c.in-Err.field-0) c.new-cursor.ensures read in
    body_no_fault types c.args.signature.now c.args.body.now faults.Short c.in-Err.field-0 found.1.1 body here
