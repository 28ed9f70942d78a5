-- The loop over the array of fields: what is kept so far, and what is left to read.
use Rattle.std.proofs.Common.{◌≡◌, ℕ, zero, suc, ◌<◌, ◌≤◌, true, false, List, [], ◌∷◌, ◌++◌, length, Result, Ok, Err, refl, sym, ap, subst, ◌∙◌, arith}
use Rattle.std.specs.Prelude.{◌==◌}
use Rattle.std.proofs.lemmas.Bool.{eq-eqb}
use Rattle.message_value.specs.declared.order.Order.{Order}
use Rattle.message_value.specs.declared.error.MsgError.{MsgError}
use Rattle.message_view.specs.declared.fields.Fields.{Fields}
use Rattle.message_view.specs.Message.{Field}
use Rattle.message_view.specs.Slots.{no_slots, no_extents, slots_of, AreExtents}
use Rattle.message_value.specs.Reading.{At, ◌>>=◌, IsRead}
use Rattle.message_value.specs.Steps.{Gives}
use Rattle.message_value.specs.Bytes.{AreBytes}
use Rattle.message_view.specs.Reading.{field_at, fields_from}
use Rattle.message_view.specs.FieldAnswers.{slots_shown, lying, IsFront}
use Rattle.message_value.proofs.OkSteps.{bind_ok, ok_is}
use Rattle.message_view.proofs.FieldTurns.{field_shorter}
use Rattle.message_view.proofs.KeptExtents.{front_none}

-- What is kept is that of the fields in front, and reading goes on after them to what the whole array reads as.
pub record SoFar (order : Order) (start : ℕ) (fields : Fields) (at : At) (whole : Result (List Field) MsgError) : Type 0 where
  pub front : List Field
  pub turns : ℕ
  pub enough : length at.rest ≤ turns
  pub is : IsFront order start front fields at
  pub same : fields_from turns order front at ≡ whole

pub at_start : (order : Order) (fields : Fields) (at : At) → slots_shown fields ≡ no_slots → lying fields ≡ no_extents → AreBytes at.rest → SoFar order at.place fields at (fields_from (length at.rest) order [] at)
at_start order fields at shows lie fits = record { front = []; turns = length at.rest; enough = omega arith; is = front_none order at.place fields at shows lie fits refl; same = refl }

-- one turn, where bytes are left
turn : (turns : ℕ) (order : Order) (front : List Field) (at : At) → length at.rest ≤ turns → (length at.rest == 0) ≡ false
    → (before : ℕ) × (turns ≡ suc before) × (fields_from turns order front at ≡ (field_at order front at >>= λ field. fields_from before order (front ++ field.0 ∷ []) field.1))
turn zero order front at enough some = absurd (let none : (length at.rest == 0) ≡ true = eq-eqb _ _ (omega arith) in cc)
turn (suc before) order front at enough some = (before, refl, rw some refl)

pub goes_on : (order : Order) (start : ℕ) (fields after : Fields) (at tail : At) (whole : Result (List Field) MsgError) (so_far : SoFar order start fields at whole) → (length at.rest == 0) ≡ false
    → (field : Field) × (field_at order so_far.front at ≡ Ok (field, tail)) × IsFront order start (so_far.front ++ field ∷ []) after tail → SoFar order start after tail whole × (length tail.rest < length at.rest)
goes_on order start fields after at tail whole so_far some next =
    let t = turn so_far.turns order so_far.front at so_far.enough some in
    let fewer = field_shorter order so_far.front at (next.0, tail) next.1 in
    let same : fields_from t.0 order (so_far.front ++ next.0 ∷ []) tail ≡ whole = sym (t.2 ∙ rw next.1 refl) ∙ so_far.same in
    (record { front = so_far.front ++ next.0 ∷ []; turns = t.0; enough = omega arith; is = next.2; same = same }, fewer)

-- the next field of an array that is known to be read
pub next_read : (order : Order) (start : ℕ) (fields : Fields) (at : At) (whole : Result (List Field) MsgError) (front : List Field) (so_far : SoFar order start fields at whole) → (length at.rest == 0) ≡ false
    → whole ≡ Ok front → IsRead (field_at order so_far.front at)
next_read order start fields at whole front so_far some is =
    let t = turn so_far.turns order so_far.front at so_far.enough some in
    let b = bind_ok (field_at order so_far.front at) (λ field. fields_from t.0 order (so_far.front ++ field.0 ∷ []) field.1) front (sym t.2 ∙ so_far.same ∙ is) in
    (b.0, b.1)

pub stops : (order : Order) (start : ℕ) (fields : Fields) (at : At) (whole : Result (List Field) MsgError) (fault : MsgError) (so_far : SoFar order start fields at whole) → (length at.rest == 0) ≡ false
    → field_at order so_far.front at ≡ Err fault → whole ≡ Err fault
stops order start fields at whole fault so_far some failed =
    let t = turn so_far.turns order so_far.front at so_far.enough some in
    sym so_far.same ∙ t.2 ∙ rw failed refl

empty_front : (turns : ℕ) (order : Order) (front : List Field) (at : At) → (length at.rest == 0) ≡ true → fields_from turns order front at ≡ Ok front
empty_front zero order front at none = refl
empty_front (suc turns) order front at none = rw none refl

all_front : (order : Order) (start : ℕ) (fields : Fields) (at : At) (whole : Result (List Field) MsgError) (so_far : SoFar order start fields at whole) → (length at.rest == 0) ≡ true → whole ≡ Ok so_far.front
all_front order start fields at whole so_far none = sym so_far.same ∙ empty_front so_far.turns order so_far.front at none

pub at_end : (order : Order) (start : ℕ) (fields : Fields) (at : At) (whole : Result (List Field) MsgError) → SoFar order start fields at whole → (length at.rest == 0) ≡ true → Gives {X = Fields} slots_shown slots_of (Ok fields) whole
at_end order start fields at whole so_far none = rw (all_front order start fields at whole so_far none) so_far.is.shows

pub extents_end : (order : Order) (start : ℕ) (fields : Fields) (at : At) (whole : Result (List Field) MsgError) (front : List Field) → SoFar order start fields at whole → (length at.rest == 0) ≡ true → whole ≡ Ok front → AreExtents order start front (lying fields)
extents_end order start fields at whole front so_far none is =
    let same : so_far.front ≡ front = ok_is so_far.front front (sym (all_front order start fields at whole so_far none) ∙ is) in
    subst (λ (x : List Field). AreExtents order start x (lying fields)) same so_far.is.lie

pub shows_end : (order : Order) (start : ℕ) (fields : Fields) (at : At) (whole : Result (List Field) MsgError) (front : List Field) → SoFar order start fields at whole → (length at.rest == 0) ≡ true → whole ≡ Ok front → slots_shown fields ≡ slots_of front
shows_end order start fields at whole front so_far none is =
    let same : so_far.front ≡ front = ok_is so_far.front front (sym (all_front order start fields at whole so_far none) ∙ is) in
    so_far.is.shows ∙ ap slots_of same
