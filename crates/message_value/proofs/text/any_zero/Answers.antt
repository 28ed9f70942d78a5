use Rattle.std.proofs.Common.{◌≡◌, ◌∙◌, ◌==◌, ◌||◌, ℕ, ◌+◌, ◌<◌, ◌≤◌, Bool, true, false, List, drop, get_or, length, refl, sym, ap}
use Rattle.std.specs.List.{list_any}
use Rattle.std.proofs.lemmas.List.{drop_more, drop_all}
use Rattle.message_value.proofs.text.any_zero.Goals as goal

either : (found zero rest : Bool) → ((found || zero) || rest) ≡ (found || (zero || rest))
either true zero rest = refl
either false zero rest = refl

one_more : (bytes : List ℕ) (i : ℕ) (found : Bool) → i < length bytes → ((found || (get_or bytes i 0 == 0)) || list_any (λ byte. byte == 0) (drop (i + 1) bytes)) ≡ (found || list_any (λ byte. byte == 0) (drop i bytes))
one_more bytes i found small =
    either found (get_or bytes i 0 == 0) (list_any (λ byte. byte == 0) (drop (i + 1) bytes)) ∙ ap (λ (l : List ℕ). found || list_any (λ byte. byte == 0) l) (sym (drop_more bytes i 0 small))

none_after : (bytes : List ℕ) (i : ℕ) (found : Bool) → length bytes ≤ i → (found || list_any (λ byte. byte == 0) (drop i bytes)) ≡ found
none_after bytes i true past = refl
none_after bytes i false past = rw (drop_all i bytes past) refl

pub loop-byte-init : goal.loop-byte-init
loop-byte-init c = refl

pub loop-byte-preserved : goal.loop-byte-preserved
loop-byte-preserved c = one_more c.args.bytes.now c.loop-byte.byte-index c.loop-byte.found c.loop-byte-test.true ∙ c.loop-byte.invariant

pub returns : goal.returns
returns c =
    sym (none_after c.args.bytes.now c.loop-byte.byte-index c.loop-byte.found c.loop-byte-test.false) ∙ c.loop-byte.invariant
