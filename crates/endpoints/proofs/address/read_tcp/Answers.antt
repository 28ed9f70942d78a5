-- The parts that were read are the parts of the text, in their order.
use Rattle.std.proofs.Common.{◌≡◌, ◌++◌, ◌∷◌, ◌∙◌, ap, sym, subst}
use Rattle.std.specs.Prelude.{Some}
use Rattle.std.specs.Option.{option_map}
use Rattle.percent_encoding.specs.Percent.{percent_decode}
use Rattle.endpoints.specs.Address.{tcp_key, comma, tcp_port_key, host_key, over_tcp_escaped, over_tcp_turned, IsValue, IsPort, place_of, at_port}
use Rattle.endpoints.proofs.Spelled.{spelled, found_tcp, read_text, read_parts, no_text, no_parts}
use Rattle.endpoints.proofs.Values.{digits_end_nothing}
use Rattle.endpoints.proofs.address.read_tcp.Goals as goal

pub returns-in-Some-clause-found : goal.returns-in-Some-clause-found
returns-in-Some-clause-found c =
    found_tcp _ _ _ _ c.tcp_of.ensures.found (λ port value is_port.
    spelled _ _ _ (c.in-Some.ensures.found ∙ ap (λ r. tcp_key ++ r) (c.in_ok-host.ensures.found ∙ ap (λ b. c.in_ok-host.host.now ++ comma ∷ b) c.in_ok-value_after.ensures.found))
    (over_tcp_escaped _ _ value is_port))

pub returns-in_err-port-clause-port_first : goal.returns-in_err-port-clause-port_first
returns-in_err-port-clause-port_first c host digits port value is_port e =
    let pairs = read_text _ _ _ c.in_ok-value_after-2.was (c.value_after-2.ensures.only (digits ++ comma ∷ (host_key ++ host)) e) in
    let parts = c.at_comma-2.ensures.only digits (host_key ++ host) (digits_end_nothing digits is_port.0.1) pairs in
    no_parts _ _ c.in_err-port.was parts

pub returns-in_err-value_after-3-clause-port_first : goal.returns-in_err-value_after-3-clause-port_first
returns-in_err-value_after-3-clause-port_first c host digits port value is_port e =
    let pairs = read_text _ _ _ c.in_ok-value_after-2.was (c.value_after-2.ensures.only (digits ++ comma ∷ (host_key ++ host)) e) in
    let parts = read_parts _ _ _ _ c.in_ok-port.was (c.at_comma-2.ensures.only digits (host_key ++ host) (digits_end_nothing digits is_port.0.1) pairs) in
    no_text _ _ c.in_err-value_after-3.was (c.value_after-3.ensures.only host parts.1)

pub returns-clause-found : goal.returns-clause-found
returns-clause-found c =
    found_tcp _ _ _ _ c.tcp_of-2.ensures.found (λ port value is_port.
    spelled _ _ _ (c.in_ok-value_after-2.ensures.found ∙ ap (λ r. tcp_port_key ++ r) (c.in_ok-port.ensures.found ∙ ap (λ h. c.in_ok-port.port.now ++ comma ∷ h) c.in_ok-value_after-3.ensures.found))
    (over_tcp_turned _ _ value is_port))

pub returns-clause-port_first : goal.returns-clause-port_first
returns-clause-port_first c host digits port value is_port e =
    let pairs = read_text _ _ _ c.in_ok-value_after-2.was (c.value_after-2.ensures.only (digits ++ comma ∷ (host_key ++ host)) e) in
    let parts = read_parts _ _ _ _ c.in_ok-port.was (c.at_comma-2.ensures.only digits (host_key ++ host) (digits_end_nothing digits is_port.0.1) pairs) in
    let last = read_text _ _ _ c.in_ok-value_after-3.was (c.value_after-3.ensures.only host parts.1) in
    let found = c.tcp_of-2.ensures.only port (subst IsValue (sym last) value) (subst (λ d. IsPort d port) (sym parts.0) is_port) in
    subst (λ h. option_map place_of c.tcp_of-2.result ≡ Some (at_port (percent_decode h) port)) last found
