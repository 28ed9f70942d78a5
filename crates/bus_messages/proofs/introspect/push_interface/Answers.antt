use Rattle.std.proofs.Common.{◌≡◌, ◌++◌, ◌∙◌, ap, string_bytes}
use Rattle.std.specs.Prelude.{codes}
use Rattle.bus_messages.specs.Introspection.{interface_text, methods_text, signals_text}
use Rattle.bus_messages.specs.Methods.{methods}
use Rattle.bus_messages.proofs.Introspecting.{pushed, joined}
use Rattle.bus_messages.proofs.introspect.push_interface.Goals as goal

pub returns : goal.returns
returns c =
    let interface = c.args.interface.now in
    let last = codes "  </interface>\n" in
    let after_methods : string_bytes c.push_methods.new.text ≡ string_bytes c.push_between.new.text ++ methods_text interface methods =
    c.in_ok-push_methods.ensures ∙ ap (λ rows. string_bytes c.push_between.new.text ++ methods_text interface rows) c.rows.ensures in
    pushed c.push_str.result (string_bytes c.push_signals.new.text) (string_bytes c.push_str.new.self) last (string_bytes c.args.text.now ++ interface_text interface) c.push_str.ensures.bytes
    (joined (string_bytes c.args.text.now) (codes "  <interface name=\"" ++ interface ++ codes "\">\n") (methods_text interface methods) (signals_text interface) last (string_bytes c.push_between.new.text)
    (string_bytes c.push_methods.new.text) (string_bytes c.push_signals.new.text) c.in_ok-push_between.ensures after_methods c.in_ok-push_signals.ensures)
