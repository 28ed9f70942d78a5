-- The value that was read is the one of the text, after its key.
use Rattle.std.proofs.Common.{◌≡◌, ap, sym, arith}
use Rattle.std.specs.Prelude.{Some}
use Rattle.std.proofs.lemmas.Slice.Eq.{bytes_eq-Decides}
use Rattle.percent_encoding.specs.Percent.{percent_decode}
use Rattle.endpoints.specs.Address.{over_unix_escaped, over_name, over_folder, over_temporary, over_runtime, at_path, in_folder, runtime_text}
use Rattle.endpoints.proofs.Spelled.{spelled, only_of, read_text, not_text, letter, two_keys, true_and_false}
use Rattle.endpoints.proofs.address.Address.read.Goals as goal

pub returns-in-Some-clause-found : goal.returns-in-Some-clause-found
returns-in-Some-clause-found c = spelled _ _ _ c.in-Some.ensures.found.0 (over_unix_escaped _ c.in-Some.ensures.found.1)

pub returns-in-Some-value_of-clause-found : goal.returns-in-Some-value_of-clause-found
returns-in-Some-value_of-clause-found c = spelled _ _ _ c.in-Some-value_of.ensures.found.0 (over_name _ c.in-Some-value_of.ensures.found.1)

pub returns-in-Some-value_of-2-clause-found : goal.returns-in-Some-value_of-2-clause-found
returns-in-Some-value_of-2-clause-found c = spelled _ _ _ c.in-Some-value_of-2.ensures.found.0 (over_folder _ c.in-Some-value_of-2.ensures.found.1)

pub returns-in-Some-value_of-3-clause-found : goal.returns-in-Some-value_of-3-clause-found
returns-in-Some-value_of-3-clause-found c = spelled _ _ _ c.in-Some-value_of-3.ensures.found.0 (over_temporary _ c.in-Some-value_of-3.ensures.found.1)

pub returns-then-eq-clause-found : goal.returns-then-eq-clause-found
returns-then-eq-clause-found c = spelled _ _ _ ((bytes_eq-Decides c.args.text.now runtime_text).0 (sym c.if-eq.ensures)) over_runtime

pub returns-in-Some-clause-only : goal.returns-in-Some-clause-only
returns-in-Some-clause-only c =
    let text = c.args.text.now in
    let is : letter text ≡ 112 = ap letter c.in-Some.ensures.found.0 in
    only_of _ _
    (λ host digits port value is_port e. two_keys text _ 111 is (ap letter e) (λ w. omega arith))
    (λ host digits port value is_port e. two_keys text _ 111 is (ap letter e) (λ w. omega arith))
    (λ path value e. ap (λ t. Some (at_path (percent_decode t))) (read_text _ _ _ c.in-Some.is (c.value_of.ensures.only path e value)))
    (λ name value e. two_keys text _ 97 is (ap letter e) (λ w. omega arith))
    (λ path value e. two_keys text _ 100 is (ap letter e) (λ w. omega arith))
    (λ path value e. two_keys text _ 116 is (ap letter e) (λ w. omega arith))
    (λ e. two_keys text _ 114 is (ap letter e) (λ w. omega arith))

pub returns-in-Some-value_of-2-clause-only : goal.returns-in-Some-value_of-2-clause-only
returns-in-Some-value_of-2-clause-only c =
    let text = c.args.text.now in
    let is : letter text ≡ 100 = ap letter c.in-Some-value_of-2.ensures.found.0 in
    only_of _ _
    (λ host digits port value is_port e. two_keys text _ 111 is (ap letter e) (λ w. omega arith))
    (λ host digits port value is_port e. two_keys text _ 111 is (ap letter e) (λ w. omega arith))
    (λ path value e. two_keys text _ 112 is (ap letter e) (λ w. omega arith))
    (λ name value e. two_keys text _ 97 is (ap letter e) (λ w. omega arith))
    (λ path value e. ap (λ t. Some (in_folder (percent_decode t))) (read_text _ _ _ c.in-Some-value_of-2.is (c.value_of-3.ensures.only path e value)))
    (λ path value e. two_keys text _ 116 is (ap letter e) (λ w. omega arith))
    (λ e. two_keys text _ 114 is (ap letter e) (λ w. omega arith))

pub returns-in-Some-value_of-3-clause-only : goal.returns-in-Some-value_of-3-clause-only
returns-in-Some-value_of-3-clause-only c =
    let text = c.args.text.now in
    let is : letter text ≡ 116 = ap letter c.in-Some-value_of-3.ensures.found.0 in
    only_of _ _
    (λ host digits port value is_port e. two_keys text _ 111 is (ap letter e) (λ w. omega arith))
    (λ host digits port value is_port e. two_keys text _ 111 is (ap letter e) (λ w. omega arith))
    (λ path value e. two_keys text _ 112 is (ap letter e) (λ w. omega arith))
    (λ name value e. two_keys text _ 97 is (ap letter e) (λ w. omega arith))
    (λ path value e. two_keys text _ 100 is (ap letter e) (λ w. omega arith))
    (λ path value e. ap (λ t. Some (in_folder (percent_decode t))) (read_text _ _ _ c.in-Some-value_of-3.is (c.value_of-4.ensures.only path e value)))
    (λ e. two_keys text _ 114 is (ap letter e) (λ w. omega arith))

pub returns-clause-only : goal.returns-clause-only
returns-clause-only c =
    only_of _ _
    c.read_tcp.ensures.host_first
    c.read_tcp.ensures.port_first
    (λ path value e. not_text _ _ c.in_default.not-Some (c.value_of.ensures.only path e value))
    (λ name value e. not_text _ _ c.in_default-value_of.not-Some (c.value_of-2.ensures.only name e value))
    (λ path value e. not_text _ _ c.in_default-value_of-2.not-Some (c.value_of-3.ensures.only path e value))
    (λ path value e. not_text _ _ c.in_default-value_of-3.not-Some (c.value_of-4.ensures.only path e value))
    (λ e. true_and_false (sym c.if-eq.ensures) ((bytes_eq-Decides c.args.text.now runtime_text).1 e))
