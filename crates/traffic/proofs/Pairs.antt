-- The call that an answer is to, as it is looked up.
use Rattle.std.proofs.Common.{◌≡◌, ℕ, Bool, true, List, Option, Some, sym, ap, ◌∙◌, Bor}
use Rattle.std.specs.Prelude.{string_bytes, option_copied, ◌&&◌, ◌==◌}
use Rattle.std.specs.Str.{bytes_eq}
use Rattle.std.specs.Map.{lookup, remove_entry}
use Rattle.traffic.specs.declared.call_log.CallId.{CallId}
use Rattle.traffic.specs.declared.call_log.OpenCall.{OpenCall}
use Rattle.traffic.specs.Roles.{CallText}
use Rattle.traffic.specs.OpenCalls.{Calls, same_id, is_id, may_answer, call_of_answer, without_answered}

same_test : (answer : CallText) (id : CallId) → string_bytes id.caller ≡ answer.caller → id.serial ≡ answer.serial → same_id id ≡ is_id answer
same_test answer id caller serial =
    ap (λ (text : List ℕ). λ (other : CallId). bytes_eq text (string_bytes other.caller) && (id.serial == other.serial)) caller
    ∙ ap (λ (n : ℕ). λ (other : CallId). bytes_eq answer.caller (string_bytes other.caller) && (n == other.serial)) serial

there : (answer : CallText) (id : CallId) (calls : Calls) (peeked : Option (Bor OpenCall)) (call : Bor OpenCall) → string_bytes id.caller ≡ answer.caller → id.serial ≡ answer.serial → option_copied peeked ≡ lookup (same_id id) calls → peeked ≡ Some call → lookup (is_id answer) calls ≡ Some call.now
there answer id calls peeked call caller serial copied is =
    ap (λ (test : CallId → Bool). lookup test calls) (sym (same_test answer id caller serial)) ∙ sym copied ∙ ap (λ (o : Option (Bor OpenCall)). option_copied o) is

-- it is taken if the sender may answer it
pub pair_taken : (answer : CallText) (id : CallId) (calls : Calls) (peeked : Option (Bor OpenCall)) (call : Bor OpenCall) (taken : Option OpenCall) → string_bytes id.caller ≡ answer.caller → id.serial ≡ answer.serial → option_copied peeked ≡ lookup (same_id id) calls → peeked ≡ Some call → may_answer (string_bytes call.now.callee) answer.callee ≡ true → taken ≡ lookup (same_id id) calls → taken ≡ call_of_answer answer calls
pair_taken answer id calls peeked call taken caller serial copied is answers found =
    let here : lookup (is_id answer) calls ≡ Some call.now = there answer id calls peeked call caller serial copied is in
    rw (here, answers) (found ∙ sym copied ∙ ap (λ (o : Option (Bor OpenCall)). option_copied o) is)

-- and the others stay
pub pair_left : (answer : CallText) (id : CallId) (calls : Calls) (peeked : Option (Bor OpenCall)) (call : Bor OpenCall) → string_bytes id.caller ≡ answer.caller → id.serial ≡ answer.serial → option_copied peeked ≡ lookup (same_id id) calls → peeked ≡ Some call → may_answer (string_bytes call.now.callee) answer.callee ≡ true → remove_entry (same_id id) calls ≡ without_answered answer calls
pair_left answer id calls peeked call caller serial copied is answers =
    let here : lookup (is_id answer) calls ≡ Some call.now = there answer id calls peeked call caller serial copied is in
    rw (here, answers) (ap (λ (test : CallId → Bool). remove_entry test calls) (same_test answer id caller serial))
