-- Texts among bytes of which the first has a place.
use Rattle.std.proofs.Common.{◌≡◌, ℕ, ◌+◌, ◌≤◌, List, ◌++◌, length, take, refl, sym, ap, ◌∙◌, append_assoc, arith}
use Rattle.std.proofs.lemmas.List.{length-append, take_at, drop_at}
use Rattle.message_value.specs.Bytes.{AreBytes}
use Rattle.message_view.specs.Places.{slice_at}

-- The text, which is made of bytes, stands at a place among bytes that begin at another.
pub record Stands (bytes : List ℕ) (start place : ℕ) (text : List ℕ) : Type 0 where
  pub made : AreBytes text
  pub front : List ℕ
  pub tail : List ℕ
  pub parts : bytes ≡ front ++ (text ++ tail)
  pub here : start + length front ≡ place

pub stands_here : (front text tail : List ℕ) (start place : ℕ) → AreBytes text → start + length front ≡ place → Stands (front ++ (text ++ tail)) start place text
stands_here front text tail start place are here = record { made = are; front = front; tail = tail; parts = refl; here = here }

-- before other bytes
pub stands_before : (bytes text more : List ℕ) (start place : ℕ) → Stands bytes start place text → Stands (bytes ++ more) start place text
stands_before bytes text more start place s = record {
  made = s.made;
  front = s.front;
  tail = s.tail ++ more;
  parts = ap (λ (x : List ℕ). x ++ more) s.parts ∙ append_assoc s.front (text ++ s.tail) more ∙ ap (λ (x : List ℕ). s.front ++ x) (append_assoc text s.tail more);
  here = s.here;
}

-- after n other bytes
pub stands_after : (first bytes text : List ℕ) (n start place : ℕ) → length first ≡ n → Stands bytes (start + n) place text → Stands (first ++ bytes) start place text
stands_after first bytes text n start place is s = record {
  made = s.made;
  front = first ++ s.front;
  tail = s.tail;
  parts = ap (λ (x : List ℕ). first ++ x) s.parts ∙ sym (append_assoc first s.front (text ++ s.tail));
  here = omega (arith, s.here, length-append first s.front);
}

-- the bytes stand elsewhere
pub stands_moved : (bytes text : List ℕ) (n start place : ℕ) → Stands bytes start place text → Stands bytes (start + n) (n + place) text
stands_moved bytes text n start place s = record { made = s.made; front = s.front; tail = s.tail; parts = s.parts; here = omega (arith, s.here) }

-- it ends where the bytes do, or before
pub stands_within : (bytes text : List ℕ) (start place : ℕ) → Stands bytes start place text → place + length text ≤ start + length bytes
stands_within bytes text start place s =
    omega (arith, s.here, ap (λ (x : List ℕ). length x) s.parts, length-append s.front (text ++ s.tail), length-append text s.tail)

-- it is the slice of the bytes there
pub stands_slice : (bytes text : List ℕ) (place len : ℕ) → Stands bytes 0 place text → len ≡ length text → slice_at bytes place len ≡ text
stands_slice bytes text place len s is =
    let front : length s.front ≡ place = omega (arith, s.here) in
    ap (λ (b : List ℕ). slice_at b place len) s.parts
    ∙ ap (λ (b : List ℕ). take len b) (drop_at s.front (text ++ s.tail) place front)
    ∙ take_at text s.tail len (sym is)
