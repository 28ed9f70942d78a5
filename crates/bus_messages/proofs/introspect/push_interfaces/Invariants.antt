use Rattle.std.proofs.Common.{◌≡◌, ◌++◌, ℕ, List, Bor, drop, map, string_bytes}
use Rattle.std.specs.List.{flat_map}
use Rattle.bus_messages.specs.Introspection.{interface_text}
use Rattle.bus_messages.proofs.introspect.push_interfaces.Given as goal

abbrev pub invariant-loop-interface : goal.invariant-loop-interface
invariant-loop-interface l =
    string_bytes l.text ++ flat_map interface_text (map (λ (interface : Bor (List ℕ)). interface.now) (drop l.interface-index l.interfaces)) ≡ string_bytes l.fn.text ++ flat_map interface_text (map (λ (interface : Bor (List ℕ)). interface.now) l.interfaces)
