use Rattle.std.proofs.Common.{◌≡◌, ◌++◌, Some, List, ℕ, string_bytes, sym, ap, subst, ◌∙◌}
use Rattle.std.specs.List.{flat_map}
use Rattle.signature.specs.DataType.{SigText, slices}
use Rattle.signature.specs.Trees.{types_of}
use Rattle.signature.proofs.TreesOfTexts.{types_of-SigText}
use Rattle.bus_messages.specs.Introspection.{argument_text, types_in}
use Rattle.bus_messages.proofs.introspect.push_arguments.Goals as goal

pub loop-one-init : goal.loop-one-init
loop-one-init c =
    let types = c.in-Ok.ensures.found.1.0 in
    let S : List ℕ → Type 0 = SigText types in
    let spelled : S c.as_bytes.result.now = c.in-Ok.ensures.found.1.1 in
    let items : c.into_iter-one-iterator.result ≡ slices types = c.into_iter-one-iterator.ensures.into_iter_gives ∙ c.types-one-items.ensures types (subst S (sym c.in-Ok.ensures.found.0) spelled) in
    let trees : types_of c.args.signature.now ≡ Some types = types_of-SigText types c.args.signature.now (subst S c.as_bytes.ensures.value spelled) in
    ap (λ (texts : List (List ℕ)). string_bytes c.args.text.now ++ flat_map (argument_text c.args.before.now) texts) (items ∙ sym (ap types_in trees))
