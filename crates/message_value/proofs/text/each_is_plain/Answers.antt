use Rattle.std.proofs.Common.{◌≡◌, ◌∙◌, ℕ, ◌+◌, ◌<◌, ◌≤◌, Bool, true, false, List, drop, get_or, length, refl, sym, ap}
use Rattle.std.specs.Prelude.{◌&&◌}
use Rattle.std.specs.List.{list_all}
use Rattle.std.proofs.lemmas.List.{drop_more, drop_all}
use Rattle.message_value.specs.Forms.{is_plain}
use Rattle.message_value.proofs.text.each_is_plain.Goals as goal

all_three : (plain next rest : Bool) → ((plain && next) && rest) ≡ (plain && (next && rest))
all_three true next rest = refl
all_three false next rest = refl

one_more : (bytes : List ℕ) (i : ℕ) (plain : Bool) → i < length bytes → ((plain && is_plain (get_or bytes i 0)) && list_all is_plain (drop (i + 1) bytes)) ≡ (plain && list_all is_plain (drop i bytes))
one_more bytes i plain small =
    all_three plain (is_plain (get_or bytes i 0)) (list_all is_plain (drop (i + 1) bytes)) ∙ ap (λ (l : List ℕ). plain && list_all is_plain l) (sym (drop_more bytes i 0 small))

after_all : (bytes : List ℕ) (i : ℕ) (plain : Bool) → length bytes ≤ i → (plain && list_all is_plain (drop i bytes)) ≡ plain
after_all bytes i true past = rw (drop_all i bytes past) refl
after_all bytes i false past = refl

pub loop-byte-init : goal.loop-byte-init
loop-byte-init c = refl

pub loop-byte-preserved : goal.loop-byte-preserved
loop-byte-preserved c = rw c.is_plain-plain.ensures (one_more c.args.bytes.now c.loop-byte.byte-index c.loop-byte.plain c.loop-byte-test.true ∙ c.loop-byte.invariant)

pub returns : goal.returns
returns c =
    sym (after_all c.args.bytes.now c.loop-byte.byte-index c.loop-byte.plain c.loop-byte-test.false) ∙ c.loop-byte.invariant
