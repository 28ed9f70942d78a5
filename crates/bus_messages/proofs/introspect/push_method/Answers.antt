use Rattle.std.proofs.Common.{string_bytes, ◌++◌}
use Rattle.std.specs.Prelude.{codes}
use Rattle.bus_messages.specs.Introspection.{arguments_text, method_text}
use Rattle.bus_messages.specs.Rows.{method_row_of}
use Rattle.bus_messages.proofs.Introspecting.{pushed, joined}
use Rattle.bus_messages.proofs.introspect.push_method.Goals as goal

pub returns : goal.returns
returns c =
    let row = method_row_of c.args.row.now in
    let last = codes "    </method>\n" in
    pushed c.push_str.result (string_bytes c.push_arguments-2.new.text) (string_bytes c.push_str.new.self) last (string_bytes c.args.text.now ++ method_text row) c.push_str.ensures.bytes
    (joined (string_bytes c.args.text.now) (codes "    <method name=\"" ++ row.member ++ codes "\">\n") (arguments_text (codes "      <arg direction=\"in\" type=\"") row.takes) (arguments_text (codes "      <arg direction=\"out\" type=\"") row.gives) last (string_bytes c.push_between.new.text)
    (string_bytes c.push_arguments.new.text) (string_bytes c.push_arguments-2.new.text) c.in_ok-push_between.ensures c.in_ok-push_arguments.ensures c.in_ok-push_arguments-2.ensures)
