-- What a listener takes and gives for an address (D-Bus Specification, "Transports").
use Rattle.std.specs.Prelude.{◌≡◌, ⊤}
use Rattle.endpoints.specs.declared.listener.Listener.{Listener}
use Rattle.endpoints.specs.declared.listener.Listener.TheVariants as listeners
use Rattle.endpoints.specs.declared.link.Link.{Link}
use Rattle.endpoints.specs.declared.link.Link.TheVariants as links
use Rattle.endpoints.specs.Address.{Place, at_port, at_path, at_name, in_folder, in_runtime}

pub data Transport : Type 0 where
  over_tcp : Transport
  over_unix : Transport

abbrev pub transport_of_place : Place → Transport
transport_of_place (at_port host port) = over_tcp
transport_of_place (at_path path) = over_unix
transport_of_place (at_name name) = over_unix
transport_of_place (in_folder path) = over_unix
transport_of_place in_runtime = over_unix

abbrev pub transport_of_listener : Listener → Transport
transport_of_listener (listeners.Tcp listener) = over_tcp
transport_of_listener (listeners.Unix listener file) = over_unix

abbrev pub transport_of_link : Link → Transport
transport_of_link (links.Tcp stream) = over_tcp
transport_of_link (links.Unix stream) = over_unix

-- the place that was taken where this one was asked for: the same, but for the port
abbrev pub IsTakenFor : Place → Place → Type 0
IsTakenFor (at_port host port) (at_port taken other) = taken ≡ host
IsTakenFor (at_path path) (at_path taken) = taken ≡ path
IsTakenFor (at_name name) (at_name taken) = taken ≡ name
IsTakenFor (in_folder path) (in_folder taken) = taken ≡ path
IsTakenFor in_runtime in_runtime = ⊤
IsTakenFor _ _ = ⊥
