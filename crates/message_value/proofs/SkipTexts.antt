-- What the reading of a text says of each step, where it gives something.
use Rattle.std.proofs.Common.{◌≡◌, ℕ, ◌+◌, ◌≤◌, Bool, true, false, cond, List, length, take, Some, None, Option, Result, Ok, Err, refl, sym, ap, subst, ◌∙◌, arith}
use Rattle.std.specs.Prelude.{◌==◌, ◌&&◌, not, slice_index, is_some}
use Rattle.std.specs.List.{list_all, list_any}
use Rattle.std.specs.Str.{IsUtf8, is_utf8}
use Rattle.std.proofs.lemmas.Bool.{and_parts}
use Rattle.std.proofs.lemmas.Str.{IsUtf8-from_is_utf8, IsUtf8-from_ascii}
use Rattle.signature.specs.DataType.{DataTypes}
use Rattle.signature.specs.Name.{is_path}
use Rattle.signature.specs.Trees.{types_of}
use Rattle.signature.proofs.Ascii.{path_ascii}
use Rattle.message_value.specs.declared.order.Order.{Order}
use Rattle.message_value.specs.declared.error.MsgError.{MsgError}
use Rattle.message_value.specs.declared.error.MsgError.TheVariants as faults
use Rattle.message_value.specs.Spelling.{padding}
use Rattle.message_value.specs.Fits.{is_text_of}
use Rattle.message_value.specs.Reading.{At, ◌>>=◌, item_at, aligned_at, byte_at, word_at, text_fault, text_ended, text_at, long_text_at, short_text_at}
use Rattle.message_value.proofs.OkSteps.{bind_ok, ok_is, not_refused, passed_ok}
use Rattle.message_value.proofs.ReadShorter.{item_fits, byte_fits, word_fits}
use Rattle.message_value.proofs.SignatureTexts.{signature_utf8}

-- what follows a first step
pub after : {A B : Type 0} (r : Result A MsgError) (f : A → Result B MsgError) (x : A) (found : B) → (r >>= f) ≡ Ok found → r ≡ Ok x → f x ≡ Ok found
after r f x found e is = rw is at e

-- ---- padding

pub padding_fits : (alignment : ℕ) (at tail : At) → aligned_at alignment at ≡ Ok tail → padding alignment at.place ≤ length at.rest
unfolding aligned_at
padding_fits alignment at tail e =
    let s = bind_ok (item_at (padding alignment at.place) at) (λ skipped. cond (list_all (λ byte. byte == 0) skipped.0) (Ok skipped.1) (Err faults.Padding)) tail e in
    let h = item_fits (padding alignment at.place) at s.0 s.1 in
    omega arith

pub padding_gone : (alignment : ℕ) (at tail : At) (item : List ℕ × At) → aligned_at alignment at ≡ Ok tail → item_at (padding alignment at.place) at ≡ Ok item → aligned_at alignment at ≡ Ok item.1
unfolding aligned_at
padding_gone alignment at tail item e is =
    let h = after (item_at (padding alignment at.place) at) (λ skipped. cond (list_all (λ byte. byte == 0) skipped.0) (Ok skipped.1) (Err faults.Padding)) item tail e is in
    let same : item.1 ≡ tail = (passed_ok (list_all (λ byte. byte == 0) item.0) faults.Padding item.1 tail h).1 in
    e ∙ ap (λ (x : At). Ok x) (sym {a = item.1} same)

-- ---- one item

pub record TextParts (code len : ℕ) (at : At) (found : List ℕ × At) : Type 0 where
  pub item : List ℕ × At
  pub read : item_at (len + 1) at ≡ Ok item
  pub form : is_text_of code (take len item.0) ≡ true
  pub is : (take len item.0, item.1) ≡ found

not_false : (b : Bool) → not b ≡ false → b ≡ true
not_false true e = refl
not_false false e = absurd cc

pub text_parts : (code len : ℕ) (at : At) (found : List ℕ × At) → text_at code len at ≡ Ok found → TextParts code len at found
unfolding text_at
text_parts code len at found e =
    let s = bind_ok (item_at (len + 1) at) (λ bytes. text_ended code len bytes.0 bytes.1) found e in
    let made : List ℕ × At = (take len s.0.0, s.0.1) in
    let form = not_refused (not (is_text_of code (take len s.0.0))) (text_fault code) (cond (not (slice_index s.0.0 len == 0)) (Err faults.BadText) (Ok made)) found s.2 in
    let end = not_refused (not (slice_index s.0.0 len == 0)) faults.BadText (Ok made) found form.1 in
    record { item = s.0; read = s.1; form = not_false (is_text_of code (take len s.0.0)) form.0; is = ok_is made found end.1 }

pub text_fits : (code len : ℕ) (at : At) (found : List ℕ × At) → text_at code len at ≡ Ok found → len + 1 ≤ length at.rest
text_fits code len at found e = let t = text_parts code len at found e in let h = item_fits (len + 1) at t.item t.read in omega arith

same_item : (len : ℕ) (at : At) (x y : List ℕ × At) → item_at len at ≡ Ok x → item_at len at ≡ Ok y → x ≡ y
same_item len at x y a b = cc

pub text_again_at : (code len : ℕ) (at : At) (found item : List ℕ × At) → text_at code len at ≡ Ok found → item_at (len + 1) at ≡ Ok item → text_at code len at ≡ Ok (take len item.0, item.1)
text_again_at code len at found item e is =
    let t = text_parts code len at found e in
    let same = same_item (len + 1) at t.item item t.read is in
    e ∙ ap (λ (x : List ℕ × At). Ok x) (sym {b = found} t.is ∙ ap (λ (x : List ℕ × At). (take len x.0, x.1)) same)

-- a text is UTF-8
text_utf8 : (code : ℕ) (bytes : List ℕ) → is_text_of code bytes ≡ true → IsUtf8 bytes
text_utf8 code bytes form = go (code == 115) (code == 111) (code == 103) form
  where
    tree : (found : Option DataTypes) → types_of bytes ≡ found → is_some found ≡ true → IsUtf8 bytes
    tree None e h = absurd cc
    tree (Some types) e h = signature_utf8 types bytes e

    go : (s o g : Bool) → cond s (is_utf8 bytes && not (list_any (λ byte. byte == 0) bytes)) (cond o (is_path bytes) (cond g (is_some (types_of bytes)) false)) ≡ true → IsUtf8 bytes
    go true o g h = IsUtf8-from_is_utf8 bytes (and_parts (is_utf8 bytes) (not (list_any (λ byte. byte == 0) bytes)) h).0
    go false true g h = IsUtf8-from_ascii bytes (path_ascii bytes h)
    go false false true h = tree (types_of bytes) refl h
    go false false false h = absurd cc

pub item_utf8 : (code len : ℕ) (at : At) (found item : List ℕ × At) → text_at code len at ≡ Ok found → item_at (len + 1) at ≡ Ok item → IsUtf8 (take len item.0)
item_utf8 code len at found item e is =
    let t = text_parts code len at found e in
    let same = same_item (len + 1) at t.item item t.read is in
    text_utf8 code (take len item.0) (subst (λ (x : List ℕ × At). is_text_of code (take len x.0) ≡ true) same t.form)

-- ---- a length, and a text

pub long_fits : (order : Order) (code : ℕ) (at : At) (found : List ℕ × At) → long_text_at order code at ≡ Ok found → 4 ≤ length at.rest
unfolding long_text_at
long_fits order code at found e = let s = bind_ok (word_at order at) (λ len. text_at code len.0 len.1) found e in word_fits order at s.0 s.1

pub short_fits : (at : At) (found : List ℕ × At) → short_text_at at ≡ Ok found → 1 ≤ length at.rest
unfolding short_text_at
short_fits at found e = let s = bind_ok (byte_at at) (λ len. text_at 103 len.0 len.1) found e in byte_fits at s.0 s.1
