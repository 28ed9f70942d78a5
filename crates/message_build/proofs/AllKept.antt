-- The search for a field that isn't copied.
use Rattle.std.proofs.Common.{◌≡◌, ℕ, ◌+◌, ◌<◌, Bool, true, false, cond, List, [], ◌∷◌, ◌++◌, length, take, filter, Some, None, Result, Ok, Err, refl, sym, ap, ◌∙◌, arith}
use Rattle.std.specs.Prelude.{◌==◌, ◌&&◌, is_ok, IfOk}
use Rattle.std.specs.List.{list_all}
use Rattle.std.proofs.lemmas.Bool.{eq-eqb, eqb-true}
use Rattle.std.proofs.lemmas.List.{append-nil}
use Rattle.std.proofs.Math.Seq.{take-append_seam}
use Rattle.message_value.specs.declared.order.Order.{Order}
use Rattle.message_value.specs.declared.error.MsgError.{MsgError}
use Rattle.message_value.specs.Reading.{At}
use Rattle.message_value.proofs.MovedValues.{Alike}
use Rattle.message_value.proofs.ReadItems.{at}
use Rattle.message_view.specs.Header.{code_of}
use Rattle.message_view.specs.Message.{Field}
use Rattle.message_view.specs.Reading.{field_at}
use Rattle.message_view.specs.Spelling.{field_bytes, fields_bytes}
use Rattle.message_view.specs.Valid.{IsOnce, AreFields}
use Rattle.message_view.proofs.ReadFields.{field_again}
use Rattle.message_view.proofs.FieldTurns.{field_shorter}
use Rattle.message_build.specs.Stamped.{is_kept}
use Rattle.message_build.proofs.MovedFields.{fields_moved}

-- the fields that are left, all of which are copied where those of the whole array are
pub record Rest (order : Order) (a : At) (whole : Bool) : Type 0 where
  pub fields : List Field
  pub are : AreFields order a.place fields
  pub rest : a.rest ≡ fields_bytes order a.place fields
  pub same : list_all is_kept fields ≡ whole

pub at_start : (order : Order) (array : List ℕ) (outside : MsgError) (fields : List Field) → AreFields order 0 fields → array ≡ fields_bytes order 0 fields → Rest order (at 0 array outside) (list_all is_kept fields)
at_start order array outside fields are is = record { fields = fields; are = are; rest = is; same = refl }

-- the next field, and what is left after it
pub record Turn (order : Order) (a : At) (whole : Bool) : Type 0 where
  pub field : Field
  pub tail : At
  pub read : field_at order [] a ≡ Ok (field, tail)
  pub shorter : length tail.rest < length a.rest
  pub kept : is_kept field ≡ true → Rest order tail whole
  pub other : is_kept field ≡ false → false ≡ whole

once_first : (o : _) (code : ℕ) → IsOnce o code []
once_first (Some known) code = refl
once_first None code = tt

read_first : (order : Order) (a : At) (f : Field) (fs : List Field) → AreFields order a.place (f ∷ fs) → a.rest ≡ fields_bytes order a.place (f ∷ fs)
    → field_at order [] a ≡ Ok (f, at (a.place + length (field_bytes order a.place f)) (fields_bytes order (a.place + length (field_bytes order a.place f)) fs) a.outside)
read_first order a f fs are rest =
    ap (λ (x : List ℕ). field_at order [] (at a.place x a.outside)) rest
    ∙ field_again order [] f a.place a.outside (fields_bytes order (a.place + length (field_bytes order a.place f)) fs) are.0 (once_first (code_of f.code) f.code)

pub turn : (order : Order) (a : At) (whole : Bool) → Rest order a whole → (length a.rest == 0) ≡ false → Turn order a whole
turn order a whole left some = go left.fields left.are left.rest left.same
  where
    go : (fs : List Field) → AreFields order a.place fs → a.rest ≡ fields_bytes order a.place fs → list_all is_kept fs ≡ whole → Turn order a whole
    go [] are rest same = absurd (let none : (length a.rest == 0) ≡ true = eq-eqb _ _ (ap (λ (x : List ℕ). length x) rest) in cc)
    go (f ∷ fs) are rest same =
        let place = a.place + length (field_bytes order a.place f) in
        let tail : At = at place (fields_bytes order place fs) a.outside in
        let read = read_first order a f fs are rest in
        record {
          field = f;
          tail = tail;
          read = read;
          shorter = field_shorter order [] a (f, tail) read;
          kept = λ e. record { fields = fs; are = are.2; rest = refl; same = ap (λ (b : Bool). b && list_all is_kept fs) (sym e) ∙ same };
          other = λ e. ap (λ (b : Bool). b && list_all is_kept fs) (sym e) ∙ same;
        }

-- no field is left
pub at_end : (order : Order) (a : At) (whole : Bool) → Rest order a whole → (length a.rest == 0) ≡ true → true ≡ whole
at_end order a whole left none = go left.fields left.are left.rest left.same
  where
    go : (fs : List Field) → AreFields order a.place fs → a.rest ≡ fields_bytes order a.place fs → list_all is_kept fs ≡ whole → true ≡ whole
    go [] are rest same = same
    go (f ∷ fs) are rest same =
        let place = a.place + length (field_bytes order a.place f) in
        let tail : At = at place (fields_bytes order place fs) a.outside in
        let fewer = field_shorter order [] a (f, tail) (read_first order a f fs are rest) in
        let nothing : length a.rest ≡ 0 = eqb-true _ _ none in
        absurd (omega (arith, fewer, nothing))

-- ---- an array that is copied whole

all_kept : (fields : List Field) → true ≡ list_all is_kept fields → filter is_kept fields ≡ fields
all_kept [] e = refl
all_kept (f ∷ fs) e = go (λ h. all_kept fs h) (is_kept f) e
  where
    go : (true ≡ list_all is_kept fs → filter is_kept fs ≡ fs) → (b : Bool) → true ≡ (b && list_all is_kept fs) → cond b (f ∷ filter is_kept fs) (filter is_kept fs) ≡ f ∷ fs
    go others true e = ap (λ (x : List Field). f ∷ x) (others e)
    go others false e = absurd cc

pub copied : {X E : Type 0} (r : Result X E) (order : Order) (old new array : List ℕ) (fields : List Field) → length old ≡ 16 → array ≡ fields_bytes order 0 fields → true ≡ list_all is_kept fields
    → new ≡ cond (is_ok r) (old ++ array) old → IfOk r (λ _. new ≡ old ++ fields_bytes order (length old) (filter is_kept fields))
copied (Ok x) order old new array fields sixteen is all has =
    let alike : Alike 0 (length old) = record { is = omega (arith, sixteen) } in
    has ∙ ap (λ (l : List ℕ). old ++ l) (is ∙ fields_moved order 0 (length old) alike fields ∙ ap (fields_bytes order (length old)) (sym (all_kept fields all)))
copied (Err e) order old new array fields sixteen is all has = tt

pub front_stays : {X E : Type 0} (r : Result X E) (old new added : List ℕ) → new ≡ cond (is_ok r) (old ++ added) old → take (length old) new ≡ old
front_stays (Ok x) old new added has = ap (take (length old)) has ∙ take-append_seam old added
front_stays (Err e) old new added has = ap (take (length old)) (has ∙ sym (append-nil old)) ∙ take-append_seam old []
