use Rattle.std.proofs.Common.{◌≡◌, ◌∙◌, List, ℕ, Option, Some, Result, Ok, Err, IsOk, IfOk, option_map, rules, ap, sym}
use Rattle.std.specs.Result.{result_ok}
use Rattle.message_view.specs.Message.{member_of}
use Rattle.sessions.proofs.Members.{member_is_short}
use Rattle.sessions.proofs.opening.member_of.Goals as goal

text_kept : {T E : Type 0} (bytes : T → List ℕ) (name : List ℕ) (read : Result T E) (told : Option T) → IsOk read → IfOk read (λ t. bytes t ≡ name) → told ≡ result_ok read → option_map bytes told ≡ Some name
text_kept bytes name (Ok t) told is same e = ap (option_map bytes) e ∙ ap Some same
text_kept bytes name (Err _) told is same e = absurd cc

pub returns : goal.returns
returns c = λ m valid.
    let name = c.in_ok-member.field-0.now in
    let is : Some name ≡ member_of m = search rules in
    let short = member_is_short _ m name valid (sym is) in
    text_kept (λ t. t.bytes) name c.from.result c.ok.result (c.from.ensures.variant.1 short) c.from.ensures.ok c.ok.ensures.value ∙ is
