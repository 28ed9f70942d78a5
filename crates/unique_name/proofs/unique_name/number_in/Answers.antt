use Rattle.std.proofs.Common.{◌≡◌, Ok}
use Rattle.std.proofs.lemmas.Fmt.{parse-decimal}
use Rattle.unique_name.proofs.unique_name.number_in.Goals as goal

pub returns-in-Ok : goal.returns-in-Ok
returns-in-Ok c = λ n small same.
    let parsed : c.from_str_radix.result ≡ Ok n = parse-decimal 64 n c.args.digits.now c.from_str_radix.result small small same c.from_str_radix.ensures.value in
    cc (parsed, c.in-Ok.is)

pub returns-in-Err : goal.returns-in-Err
returns-in-Err c = λ n small same.
    let parsed : c.from_str_radix.result ≡ Ok n = parse-decimal 64 n c.args.digits.now c.from_str_radix.result small small same c.from_str_radix.ensures.value in
    cc (parsed, c.in-Err.is)
