use Rattle.match_key.proofs.ArgNames.{digits_are}
use Rattle.match_key.proofs.arg_key.arg_key.Goals as goal

pub arg_number-requires : goal.arg_number-requires
arg_number-requires c = rw c.split_digits.ensures.digits (digits_are c.args.rest.now)
