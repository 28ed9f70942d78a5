-- The loop over the fields that are copied: what is written so far, and what is left.
use Rattle.std.proofs.Common.{◌≡◌, ℕ, ◌+◌, ◌<◌, Bool, true, false, cond, List, [], ◌∷◌, ◌++◌, length, drop, filter, Option, Some, None, refl, sym, ap, subst, ◌∙◌, append_assoc, arith}
use Rattle.std.proofs.lemmas.List.{length-append, append-nil, drop-drop, drop_at}
use Rattle.message_value.specs.declared.order.Order.{Order}
use Rattle.message_value.specs.declared.error.MsgError.{MsgError}
use Rattle.message_value.specs.Reading.{At}
use Rattle.message_value.specs.Spelling.{padding, zeros}
use Rattle.message_value.proofs.ReadItems.{at}
use Rattle.message_view.specs.Message.{Field}
use Rattle.message_view.specs.Spelling.{field_bytes, fields_bytes}
use Rattle.message_view.specs.Valid.{AreFields}
use Rattle.message_build.specs.declared.kept_fields.Found.{Found}
use Rattle.message_build.specs.Stamped.{is_kept}
use Rattle.message_build.specs.StampedFields.{IsFound, IsAfter, LiesAt, is_kept_code, kept_bytes}
use Rattle.message_build.proofs.MovedFields.{field_spelled}

-- the fields that are left lie in the array, and what is written with those of them that are kept is the whole
pub record Left (order : Order) (array : List ℕ) (at : At) (bytes whole : List ℕ) : Type 0 where
  pub fields : List Field
  pub are : AreFields order at.place fields
  pub rest : at.rest ≡ fields_bytes order at.place fields
  pub within : drop at.place array ≡ at.rest
  pub written : bytes ++ fields_bytes order (length bytes) (filter is_kept fields) ≡ whole

pub at_start : (order : Order) (array : List ℕ) (outside : MsgError) (bytes : List ℕ) (fields : List Field) → AreFields order 0 fields → array ≡ fields_bytes order 0 fields
    → Left order array (at 0 array outside) bytes (bytes ++ fields_bytes order (length bytes) (filter is_kept fields))
at_start order array outside bytes fields are is = record { fields = fields; are = are; rest = is; within = refl; written = refl }

-- a field that is kept, or not
written_more : (order : Order) (bytes : List ℕ) (f : Field) (fs : List Field) (found : Found) → IsFound (Some found) order f
    → (bytes ++ kept_bytes (length bytes) found) ++ fields_bytes order (length (bytes ++ kept_bytes (length bytes) found)) (filter is_kept fs) ≡ bytes ++ fields_bytes order (length bytes) (filter is_kept (f ∷ fs))
written_more order bytes f fs found is = go (is_kept_code found.code) (ap is_kept_code is.0)
  where
    go : (b : Bool) → b ≡ is_kept f → (bytes ++ cond b (zeros (padding 8 (length bytes)) ++ found.bytes.now) []) ++ fields_bytes order (length (bytes ++ cond b (zeros (padding 8 (length bytes)) ++ found.bytes.now) [])) (filter is_kept fs) ≡ bytes ++ fields_bytes order (length bytes) (cond (is_kept f) (f ∷ filter is_kept fs) (filter is_kept fs))
    go true e =
        let pad = zeros (padding 8 (length bytes)) in
        let first = field_bytes order (length bytes) f in
        let same : pad ++ found.bytes.now ≡ first = ap (λ (x : List ℕ). pad ++ x) is.1 ∙ sym (field_spelled order (length bytes) f) in
        let kept = filter is_kept fs in
        ap (λ (x : List ℕ). (bytes ++ x) ++ fields_bytes order (length (bytes ++ x)) kept) same
        ∙ ap (λ (k : ℕ). (bytes ++ first) ++ fields_bytes order k kept) (length-append bytes first)
        ∙ append_assoc bytes first (fields_bytes order (length bytes + length first) kept)
        ∙ ap (λ (c : Bool). bytes ++ fields_bytes order (length bytes) (cond c (f ∷ kept) kept)) e
    go false e =
        let kept = filter is_kept fs in
        ap (λ (x : List ℕ). x ++ fields_bytes order (length x) kept) (append-nil bytes)
        ∙ ap (λ (c : Bool). bytes ++ fields_bytes order (length bytes) (cond c (f ∷ kept) kept)) e

-- what a search for the next field says
pub record Says (order : Order) (array : List ℕ) (a b : At) (answer : Option Found) : Type 0 where
  pub found : (field : Field) (more : List ℕ) → LiesAt order array a field more → IsFound answer order field
  pub tail : (field : Field) (more : List ℕ) → LiesAt order array a field more → IsAfter order a field more b

lies : (order : Order) (array : List ℕ) (a : At) (f : Field) (fs : List Field) → AreFields order a.place (f ∷ fs) → a.rest ≡ fields_bytes order a.place (f ∷ fs) → drop a.place array ≡ a.rest
    → LiesAt order array a f (fields_bytes order (a.place + length (field_bytes order a.place f)) fs)
lies order array a f fs are rest within = record { is = are.0; rest = rest; within = within }

pub goes_on : (order : Order) (array : List ℕ) (a b : At) (bytes added whole : List ℕ) (found : Found) → Left order array a bytes whole → length b.rest < length a.rest → Says order array a b (Some found)
    → added ≡ bytes ++ kept_bytes (length bytes) found → Left order array b added whole
goes_on order array a b bytes added whole found left fewer says is = go left.fields left.are left.rest left.written
  where
    go : (fs : List Field) → AreFields order a.place fs → a.rest ≡ fields_bytes order a.place fs → bytes ++ fields_bytes order (length bytes) (filter is_kept fs) ≡ whole → Left order array b added whole
    go [] are rest written = absurd (let none : length a.rest ≡ 0 = ap (λ (x : List ℕ). length x) rest in omega arith)
    go (f ∷ fs) are rest written =
        let first = field_bytes order a.place f in
        let place = a.place + length first in
        let l = lies order array a f fs are rest left.within in
        let tail = says.tail f (fields_bytes order place fs) l in
        let dropped : drop place array ≡ fields_bytes order place fs = sym (twice array a.place (length first)) ∙ ap (drop (length first)) (left.within ∙ rest) ∙ drop_at first (fields_bytes order place fs) (length first) refl in
        record {
          fields = fs;
          are = subst (λ (k : ℕ). AreFields order k fs) (sym tail.place) are.2;
          rest = tail.rest ∙ ap (λ (k : ℕ). fields_bytes order k fs) (sym tail.place);
          within = ap (λ (k : ℕ). drop k array) tail.place ∙ dropped ∙ sym tail.rest;
          written = ap (λ (x : List ℕ). x ++ fields_bytes order (length x) (filter is_kept fs)) is ∙ written_more order bytes f fs found (says.found f (fields_bytes order place fs) l) ∙ written;
        }
      where
        twice : (xs : List ℕ) (m n : ℕ) → drop n (drop m xs) ≡ drop (m + n) xs
        twice xs m n = simp drop-drop

pub at_end : (order : Order) (array : List ℕ) (a b : At) (bytes whole : List ℕ) → Left order array a bytes whole → Says order array a b None → bytes ≡ whole
at_end order array a b bytes whole left says = go left.fields left.are left.rest left.written
  where
    go : (fs : List Field) → AreFields order a.place fs → a.rest ≡ fields_bytes order a.place fs → bytes ++ fields_bytes order (length bytes) (filter is_kept fs) ≡ whole → bytes ≡ whole
    go [] are rest written = sym (append-nil bytes) ∙ written
    go (f ∷ fs) are rest written = absurd (says.found f _ (lies order array a f fs are rest left.within))
