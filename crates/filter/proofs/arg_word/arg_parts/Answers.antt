use Rattle.filter.proofs.Digits.{digits_are}
use Rattle.filter.proofs.arg_word.arg_parts.Goals as goal

pub arg_number-requires : goal.arg_number-requires
arg_number-requires c = rw c.split_digits.ensures.digits (digits_are c.args.rest.now)
