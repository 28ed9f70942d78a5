use Rattle.std.proofs.Common.{◌∙◌, sym, subst}
use Rattle.signature.specs.DataType.{SigText}
use Rattle.message_view.specs.Reading.{types_in}
use Rattle.message_view.proofs.BodyTypes.{types_found}
use Rattle.message_view.proofs.fields.Fields.signature.Goals as goal

pub of_checked_text-requires : goal.of_checked_text-requires
of_checked_text-requires c =
    let front = c.requires.0 in
    let same = c.as_bytes.ensures.value ∙ c.signature_text.ensures front c.requires.1 in
    (types_in front, subst (SigText (types_in front)) (sym same) c.requires.2)

pub returns : goal.returns
returns c = λ front is.
    let known = c.requires.0 in
    let same = c.as_bytes.ensures.value ∙ c.signature_text.ensures known c.requires.1 in
    types_found front c.as_bytes.result.now _ (c.as_bytes.ensures.value ∙ c.signature_text.ensures front is) (c.of_checked_text.ensures, (types_in known, subst (SigText (types_in known)) (sym same) c.requires.2))
