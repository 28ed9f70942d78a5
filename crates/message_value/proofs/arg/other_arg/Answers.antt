use Rattle.std.proofs.Common.{ℕ, length, List, ap, subst, ◌∙◌, arith}
use Rattle.std.specs.Prelude.{slice_index}
use Rattle.signature.proofs.PartTexts.{not_empty}
use Rattle.message_value.specs.Reading.{At}
use Rattle.message_value.proofs.WordBytes.{IsBytes}
use Rattle.message_value.proofs.ReadShorter.{value_shorter}
use Rattle.message_value.proofs.ShownSteps.{no_text_argument, bare_len, spelled_code, shown_is}
use Rattle.message_value.proofs.arg.other_arg.Goals as goal

pub bounds-as_bytes-0 : goal.bounds-as_bytes-0
bounds-as_bytes-0 c =
    let some = not_empty c.requires.0 c.args.value_type.now c.requires.1 in
    let same = ap (λ (x : List ℕ). length x) c.as_bytes.ensures.text in
    omega arith

pub overflow_sub-result : goal.overflow_sub-result
overflow_sub-result c =
    let found = c.requires.2 in
    let end = ap (λ (x : At). length x.rest) (c.skip_value.ensures c.requires.0 c.requires.1 found.0 found.1) in
    let shorter = value_shorter c.args.levels c.args.order c.requires.0 c.args.cursor.now found.0 found.1 in
    let before = ap (λ (x : List ℕ). length x) c.rest-rest.ensures.rest in
    let after = ap (λ (x : List ℕ). length x) c.rest.ensures.rest in
    omega arith

pub returns : goal.returns
returns c = λ type is none here found e.
    let end = c.skip_value.ensures type is found e in
    let bytes : IsBytes c.args.cursor.now.rest = subst IsBytes c.rest-rest.ensures.rest c.rest-rest.ensures.bytes in
    let before = ap (λ (x : List ℕ). length x) c.rest-rest.ensures.rest in
    let after = ap (λ (x : List ℕ). length x) c.rest.ensures.rest ∙ ap (λ (x : At). length x.rest) end in
    let bare = bare_len c.args.levels c.args.order type c.args.cursor.now found bytes here e in
    (end, shown_is c.args.order type found.0 _ _ _ c.args.cursor.now.place c.place_word-place.ensures.place (ap (λ (x : List ℕ). slice_index x 0) c.as_bytes.ensures.text ∙ spelled_code type c.args.value_type.now is) (omega arith) (no_text_argument c.args.levels c.args.order type c.args.cursor.now found none here e))
