-- The loop over the members of a struct or a body: reading goes on after each to what all read as.
use Rattle.std.proofs.Common.{◌≡◌, ℕ, List, [], ◌∷◌, Result, Ok, Err, refl, sym, ◌∙◌}
use Rattle.signature.specs.DataType.{DataType, DataTypes, no_types, one_more, slices, AllFit, TypeText}
use Rattle.message_value.specs.declared.error.MsgError.{MsgError}
use Rattle.message_value.specs.Value.{Value, Values, one_value}
use Rattle.message_value.specs.Reading.{At, ◌>>=◌, Reader, members_at}

-- The whole is Ok and ends where what is left does, and else its fault.
abbrev pub Ends : Result (Values × At) MsgError → Result (Values × At) MsgError → Type 0
Ends (Ok found) whole = (all : Values) × (whole ≡ Ok (all, found.1))
Ends (Err fault) whole = whole ≡ Err fault

pub record MembersLeft (texts : List (List ℕ)) (reader : Reader) (at : At) (whole : Result (Values × At) MsgError) : Type 0 where
  pub types : DataTypes
  pub spelled : texts ≡ slices types
  pub fit : AllFit 0 0 types
  pub same : Ends (members_at reader types at) whole

itself : (r : Result (Values × At) MsgError) → Ends r r
itself (Ok found) = (found.0, refl)
itself (Err fault) = refl

pub all_members : (texts : List (List ℕ)) (reader : Reader) (at : At) (types : DataTypes) → texts ≡ slices types → AllFit 0 0 types → MembersLeft texts reader at (members_at reader types at)
all_members texts reader at types is fit = record { types = types; spelled = is; fit = fit; same = itself (members_at reader types at) }

-- the next member, and what is after it
pub record NextMember (text : List ℕ) (after : List (List ℕ)) (reader : Reader) (at : At) (whole : Result (Values × At) MsgError) : Type 0 where
  pub type : DataType
  pub spelled : TypeText type text
  pub on : (tail : At) → (value : Value) × (reader type at ≡ Ok (value, tail)) → MembersLeft after reader tail whole
  pub fails : (fault : MsgError) → reader type at ≡ Err fault → whole ≡ Err fault

after_first : (first : Value) (r whole : Result (Values × At) MsgError) → Ends (r >>= λ more. Ok (one_value first more.0, more.1)) whole → Ends r whole
after_first first (Ok more) whole h = h
after_first first (Err fault) whole h = h

pub next_member : (texts : List (List ℕ)) (text : List ℕ) (after : List (List ℕ)) (reader : Reader) (at : At) (whole : Result (Values × At) MsgError) → MembersLeft texts reader at whole → texts ≡ text ∷ after
    → NextMember text after reader at whole
next_member texts text after reader at whole left is = go left.types (sym is ∙ left.spelled) left.fit left.same
  where
    go : (types : DataTypes) → text ∷ after ≡ slices types → AllFit 0 0 types → Ends (members_at reader types at) whole → NextMember text after reader at whole
    go no_types e fit same = absurd cc
    go (one_more t ts) e fit same = record {
      type = t;
      spelled = record { spelled = cc; fits = fit.0 };
      on = λ tail value.
          let one : members_at reader (one_more t ts) at ≡ (members_at reader ts tail >>= λ more. Ok (one_value value.0 more.0, more.1)) = rw value.1 refl in
          record { types = ts; spelled = cc; fit = fit.1; same = after_first value.0 (members_at reader ts tail) whole (rw one at same) };
      fails = λ fault failed.
          let one : members_at reader (one_more t ts) at ≡ Err fault = rw failed refl in
          rw one at same;
    }

pub no_more : (texts : List (List ℕ)) (reader : Reader) (at : At) (whole : Result (Values × At) MsgError) → MembersLeft texts reader at whole → texts ≡ [] → (all : Values) × (whole ≡ Ok (all, at))
no_more texts reader at whole left is = go left.types (sym is ∙ left.spelled) left.same
  where
    go : (types : DataTypes) → [] ≡ slices types → Ends (members_at reader types at) whole → (all : Values) × (whole ≡ Ok (all, at))
    go no_types e same = same
    go (one_more t ts) e same = absurd cc
