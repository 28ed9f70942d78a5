-- The fixed part of a header: its checks all pass exactly where a whole length is said.
use Rattle.std.proofs.Common.{◌≡◌, ℕ, zero, suc, ◌<◌, ◌≤◌, Bool, true, false, not, cond, eqb, leb, ltb, List, [], ◌∷◌, length, get_or, is_none, Option, Some, None, Ok, Err, refl, sym, ap, ◌∙◌, arith}
use Rattle.std.specs.Prelude.{◌&&◌}
use Rattle.std.proofs.lemmas.Bool.{eqb-true, eq-eqb, ne_eqb, ltb-false, le-ltb, le-leb, not-false}
use Rattle.message_value.specs.declared.order.Order.{Order}
use Rattle.message_value.specs.declared.order.Order.TheVariants.{Little, Big}
use Rattle.message_view.specs.declared.kind.Kind.{Kind}
use Rattle.message_view.specs.declared.kind.Kind.TheVariants as kinds
use Rattle.message_value.specs.declared.error.MsgError.{MsgError}
use Rattle.message_value.specs.declared.error.MsgError.TheVariants as faults
use Rattle.message_value.specs.Order.{order_byte, order_of}
use Rattle.message_view.specs.Header.{kind_byte, kind_of}
use Rattle.message_view.specs.Spelling.{fixed_len}
use Rattle.message_value.specs.Fits.{max_array_len}
use Rattle.message_view.specs.Valid.{max_message_len}
use Rattle.message_view.specs.Fixed.{order_in, serial_in, fields_len, whole_len, Check, checks, first_failing, framing}
use Rattle.message_value.proofs.OkSteps.{found_none, ok_is, some_is}

-- ---- the order and the kind

pub order_of-order_byte : (order : Order) → order_of (order_byte order) ≡ Some order
order_of-order_byte Little = refl
order_of-order_byte Big = refl

pub order_byte-order_of : (byte : ℕ) (order : Order) → order_of byte ≡ Some order → order_byte order ≡ byte
order_byte-order_of byte order e = go (eqb byte 108) (eqb byte 66) refl refl e
  where
    go : (l b : Bool) → eqb byte 108 ≡ l → eqb byte 66 ≡ b → cond l (Some Little) (cond b (Some Big) None) ≡ Some order → order_byte order ≡ byte
    go true b l-is b-is e = ap order_byte (sym (some_is Little order e)) ∙ sym (eqb-true byte 108 l-is)
    go false true l-is b-is e = ap order_byte (sym (some_is Big order e)) ∙ sym (eqb-true byte 66 b-is)
    go false false l-is b-is e = absurd cc

-- the order that is looked at is the one that the byte names
order_of_in : (bytes : List ℕ) → is_none (order_of (get_or bytes 0 0)) ≡ false → order_of (get_or bytes 0 0) ≡ Some (order_in bytes)
order_of_in bytes e = go (eqb (get_or bytes 0 0) 108) (eqb (get_or bytes 0 0) 66) e
  where
    go : (l b : Bool) → is_none (cond l (Some Little) (cond b (Some Big) None)) ≡ false → cond l (Some Little) (cond b (Some Big) None) ≡ Some (cond l Little Big)
    go true b e = refl
    go false true e = refl
    go false false e = absurd cc

pub order_in_of : (bytes : List ℕ) (order : Order) → get_or bytes 0 0 ≡ order_byte order → order_in bytes ≡ order
order_in_of bytes Little e = rw e refl
order_in_of bytes Big e = rw e refl

row : (byte n : ℕ) (named : Kind) (others : Option Kind) → kind_byte named ≡ n → ((kind : Kind) → others ≡ Some kind → kind_byte kind ≡ byte) → (kind : Kind) → cond (eqb byte n) (Some named) others ≡ Some kind → kind_byte kind ≡ byte
row byte n named others is later kind e = go (eqb byte n) refl e
  where
    go : (b : Bool) → eqb byte n ≡ b → cond b (Some named) others ≡ Some kind → kind_byte kind ≡ byte
    go true h e = ap kind_byte (sym (some_is named kind e)) ∙ is ∙ sym (eqb-true byte n h)
    go false h e = later kind e

pub kind_byte-kind_of : (byte : ℕ) (kind : Kind) → kind_of byte ≡ Some kind → kind_byte kind ≡ byte
kind_byte-kind_of byte kind e = go (eqb byte 0) e
  where
    named : (k : Kind) → cond (eqb byte 1) (Some kinds.MethodCall) (cond (eqb byte 2) (Some kinds.MethodReturn) (cond (eqb byte 3) (Some kinds.Error) (cond (eqb byte 4) (Some kinds.Signal) (Some (kinds.Other byte))))) ≡ Some k → kind_byte k ≡ byte
    named = row byte 1 kinds.MethodCall _ refl (row byte 2 kinds.MethodReturn _ refl (row byte 3 kinds.Error _ refl (row byte 4 kinds.Signal _ refl (λ k h. ap kind_byte (sym (some_is (kinds.Other byte) k h))))))

    go : (b : Bool) → cond b None (cond (eqb byte 1) (Some kinds.MethodCall) (cond (eqb byte 2) (Some kinds.MethodReturn) (cond (eqb byte 3) (Some kinds.Error) (cond (eqb byte 4) (Some kinds.Signal) (Some (kinds.Other byte)))))) ≡ Some kind → kind_byte kind ≡ byte
    go true e = absurd cc
    go false e = named kind e

pub kind_again : (byte : ℕ) (kind : Kind) → kind_of byte ≡ Some kind → kind_of (kind_byte kind) ≡ Some kind
kind_again byte kind e = ap kind_of (kind_byte-kind_of byte kind e) ∙ e

-- ---- the checks

-- a fixed part without a fault
pub record IsFixed (bytes : List ℕ) : Type 0 where
  pub long : fixed_len ≤ length bytes
  pub order : order_of (get_or bytes 0 0) ≡ Some (order_in bytes)
  pub kind : is_none (kind_of (get_or bytes 1 0)) ≡ false
  pub version : get_or bytes 3 0 ≡ 1
  pub serial : 0 < serial_in bytes
  pub fields : fields_len bytes ≤ max_array_len
  pub whole : whole_len bytes ≤ max_message_len

-- a check that has its bytes
passes : (need have : ℕ) (fails : Bool) → need ≤ have → (leb need have && fails) ≡ false → fails ≡ false
passes need have true le e = absurd (let has : leb need have ≡ true = le-leb need have le in let no : true ≡ false = rw has at e in cc)
passes need have false le e = refl

check_passes : (have : ℕ) (check : Check) (later : List Check) → check.need ≤ have → first_failing have (check ∷ later) ≡ None → (check.fails ≡ false) × (first_failing have later ≡ None)
check_passes have check later le e =
    let n = found_none (leb check.need have && check.fails) check.fault (first_failing have later) e in
    (passes check.need have check.fails le n.0, n.1)

abbrev check : ℕ → Bool → MsgError → Check
check need fails fault = record { need = need; fails = fails; fault = fault }

no_check_fails : (bytes : List ℕ) → fixed_len ≤ length bytes → first_failing (length bytes) (checks bytes) ≡ None → IsFixed bytes
no_check_fails bytes long e =
    let too_large = check 16 (ltb max_message_len (whole_len bytes)) faults.TooLarge in
    let array_length = check 16 (ltb max_array_len (fields_len bytes)) faults.ArrayLength in
    let no_serial = check 12 (eqb (serial_in bytes) 0) faults.Serial in
    let version = check 4 (not (eqb (get_or bytes 3 0) 1)) faults.Version in
    let kind = check 2 (is_none (kind_of (get_or bytes 1 0))) faults.Kind in
    let order = check 1 (is_none (order_of (get_or bytes 0 0))) faults.Order in
    let c1 = check_passes (length bytes) order (kind ∷ version ∷ no_serial ∷ array_length ∷ too_large ∷ []) (omega arith) e in
    let c2 = check_passes (length bytes) kind (version ∷ no_serial ∷ array_length ∷ too_large ∷ []) (omega arith) c1.1 in
    let c3 = check_passes (length bytes) version (no_serial ∷ array_length ∷ too_large ∷ []) (omega arith) c2.1 in
    let c4 = check_passes (length bytes) no_serial (array_length ∷ too_large ∷ []) (omega arith) c3.1 in
    let c5 = check_passes (length bytes) array_length (too_large ∷ []) (omega arith) c4.1 in
    let c6 = check_passes (length bytes) too_large [] (omega arith) c5.1 in
    record {
      long = long;
      order = order_of_in bytes c1.0;
      kind = c2.0;
      version = eqb-true _ _ (not-false _ c3.0);
      serial = above (serial_in bytes) c4.0;
      fields = ltb-false _ _ c5.0;
      whole = ltb-false _ _ c6.0;
    }
  where
    above : (n : ℕ) → eqb n 0 ≡ false → 0 < n
    above zero e = absurd cc
    above (suc n) e = omega arith

no_check_again : (bytes : List ℕ) → IsFixed bytes → first_failing (length bytes) (checks bytes) ≡ None
no_check_again bytes f =
    by_fails (length bytes) _ _ _ _ _ _ (rw f.order refl) f.kind (rw (eq-eqb _ _ f.version) refl) (ne_eqb _ _ (λ e. omega (arith, f.serial, e))) (le-ltb _ _ f.fields) (le-ltb _ _ f.whole)
  where
    skip : (a : Bool) (fails : Bool) (fault : MsgError) (o : Option MsgError) → fails ≡ false → cond (a && fails) (Some fault) o ≡ o
    skip true fails fault o e = rw e refl
    skip false fails fault o e = refl

    by_fails : (have : ℕ) (a b c d e f : Bool) → a ≡ false → b ≡ false → c ≡ false → d ≡ false → e ≡ false → f ≡ false
        → first_failing have (check 1 a faults.Order ∷ check 2 b faults.Kind ∷ check 4 c faults.Version ∷ check 12 d faults.Serial ∷ check 16 e faults.ArrayLength ∷ check 16 f faults.TooLarge ∷ []) ≡ None
    by_fails have a b c d e f pa pb pc pd pe pf =
        skip (leb 1 have) a faults.Order _ pa ∙ skip (leb 2 have) b faults.Kind _ pb ∙ skip (leb 4 have) c faults.Version _ pc ∙ skip (leb 12 have) d faults.Serial _ pd ∙ skip (leb 16 have) e faults.ArrayLength _ pe ∙ skip (leb 16 have) f faults.TooLarge None pf

-- ---- the whole length

-- the length that the first bytes of a message say, once there are enough of them
abbrev front_len : List ℕ → Option ℕ
front_len bytes = cond (ltb (length bytes) fixed_len) None (Some (whole_len bytes))

framing_by : (bytes : List ℕ) (o : Option MsgError) (x : Option ℕ) → first_failing (length bytes) (checks bytes) ≡ o → framing bytes ≡ Ok x → (o ≡ None) × (front_len bytes ≡ x)
framing_by bytes (Some fault) x is e = absurd (let no : Err fault ≡ Ok x = rw is at e in cc)
framing_by bytes None x is e =
    let same : framing bytes ≡ Ok (front_len bytes) = rw is refl in
    (refl, ok_is (front_len bytes) x (sym same ∙ e))

-- a length is said only of a fixed part that is whole and has no fault
pub framing_takes : (bytes : List ℕ) (len : ℕ) → framing bytes ≡ Ok (Some len) → IsFixed bytes × (len ≡ whole_len bytes)
framing_takes bytes len e =
    let f = framing_by bytes (first_failing (length bytes) (checks bytes)) (Some len) refl e in
    go (ltb (length bytes) fixed_len) refl f.0 f.1
  where
    go : (b : Bool) → ltb (length bytes) fixed_len ≡ b → first_failing (length bytes) (checks bytes) ≡ None → cond b None (Some (whole_len bytes)) ≡ Some len → IsFixed bytes × (len ≡ whole_len bytes)
    go true h none e = absurd cc
    go false h none e = (no_check_fails bytes (ltb-false _ _ h) none, sym (some_is (whole_len bytes) len e))

-- and of each such
pub framing_again : (bytes : List ℕ) → IsFixed bytes → framing bytes ≡ Ok (Some (whole_len bytes))
framing_again bytes f =
    let long : ltb (length bytes) fixed_len ≡ false = le-ltb _ _ f.long in
    rw (no_check_again bytes f, long) refl
