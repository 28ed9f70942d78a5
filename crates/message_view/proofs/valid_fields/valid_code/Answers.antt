use Rattle.message_view.proofs.ValidFields.{code_gone, code_byte_read, code_is}
use Rattle.message_view.proofs.valid_fields.valid_code.Goals as goal

pub skip_padding-requires-clause-read : goal.skip_padding-requires-clause-read
skip_padding-requires-clause-read c = code_gone c.requires.0 c.args.cursor.now c.requires.1

pub valid_byte-requires : goal.valid_byte-requires
valid_byte-requires c = code_byte_read c.requires.0 c.args.cursor.now _ c.skip_padding.ensures c.requires.1

pub returns : goal.returns
returns c = λ front read. code_is front c.args.cursor.now _ _ _ c.skip_padding.ensures c.valid_byte.ensures read
