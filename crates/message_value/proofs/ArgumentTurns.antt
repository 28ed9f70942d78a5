-- The arguments that are left, one after another.
use Rattle.std.proofs.Common.{◌≡◌, ℕ, ◌≤◌, List, [], ◌∷◌, length, Ok, refl, sym, ap, subst, ◌∙◌, arith}
use Rattle.std.specs.List.{All}
use Rattle.std.proofs.lemmas.List.{length-append}
use Rattle.std.proofs.lemmas.List.Elements.{All-head, All-tail, All-cons, All-nil}
use Rattle.signature.specs.DataType.{DataType, DataTypes, no_types, one_more, spelling, spellings, slices, AllFit, SigText, TypeText}
use Rattle.signature.specs.Alignment.{alignment_of}
use Rattle.signature.proofs.TreesOfTexts.{type_of-TypeText}
use Rattle.message_value.specs.declared.order.Order.{Order}
use Rattle.message_value.specs.Value.{Value, Values, one_value}
use Rattle.message_value.specs.Spelling.{align_up}
use Rattle.message_value.specs.Fits.{max_levels}
use Rattle.message_value.specs.Reading.{At, ◌>>=◌, value_at, members_at}
use Rattle.message_value.specs.Arguments.{Argument, argument_of, arguments_from}
use Rattle.message_value.specs.ArgumentsLeft.{trees_in, arguments_read, arguments_left, AreLeft}
use Rattle.message_value.proofs.OkSteps.{bind_ok, ok_is}
use Rattle.message_value.proofs.WordBytes.{IsBytes}
use Rattle.message_value.proofs.ReadValues.{value_takes}

abbrev Short : List ℕ → Type 0
Short text = length text ≤ 255

-- the trees of the texts of types
trees_are : (types : DataTypes) → AllFit 0 0 types → All Short (slices types) → trees_in (slices types) ≡ types
trees_are no_types fit short = refl
trees_are (one_more t ts) fit short =
    let tree = type_of-TypeText t (spelling t) (record { spelled = refl; fits = fit.0 }) (All-head Short (spelling t) (slices ts) short) in
    rw (tree, trees_are ts fit.1 (All-tail Short (spelling t) (slices ts) short)) refl

pub short_slices : (types : DataTypes) → length (spellings types) ≤ 255 → All Short (slices types)
short_slices no_types le = All-nil Short
short_slices (one_more t ts) le =
    let whole = length-append (spelling t) (spellings ts) in
    All-cons Short (spelling t) (slices ts) (omega arith) (short_slices ts (omega arith))

pub left_is : (order : Order) (texts : List (List ℕ)) (at : At) (types : DataTypes) (found : Values × At) → texts ≡ slices types → AllFit 0 0 types → All Short texts → members_at (value_at max_levels order) types at ≡ Ok found
    → arguments_left order texts at ≡ arguments_from order at.place types found.0
left_is order texts at types found is fit short e =
    let trees : trees_in texts ≡ types = ap trees_in is ∙ trees_are types fit (subst (All Short) is short) in
    ap (λ (ts : DataTypes). arguments_read order at.place ts (members_at (value_at max_levels order) ts at)) trees ∙ ap (arguments_read order at.place types) e

pub new_left : (order : Order) (texts : List (List ℕ)) (at : At) (types : DataTypes) (text : List ℕ) (found : Values × At) → texts ≡ slices types → SigText types text → members_at (value_at max_levels order) types at ≡ Ok found
    → AreLeft order texts at
new_left order texts at types text found is spelled e =
    let same = ap (λ (x : List ℕ). length x) spelled.spelled in
    let le = spelled.short in
    record { types = types; spelled = is; fit = spelled.fits; short = subst (All Short) (sym is) (short_slices types (omega arith)); found = found; read = e }

pub new_is : (order : Order) (texts : List (List ℕ)) (at : At) (types : DataTypes) (text : List ℕ) (found : Values × At) → texts ≡ slices types → SigText types text → members_at (value_at max_levels order) types at ≡ Ok found
    → arguments_left order texts at ≡ arguments_from order at.place types found.0
new_is order texts at types text found is spelled e = left_is order texts at types found is spelled.fits (new_left order texts at types text found is spelled e).short e

-- the next argument, and what is left after it
pub record NextLeft (order : Order) (front : List ℕ) (more : List (List ℕ)) (at : At) (whole : List Argument) : Type 0 where
  pub type : DataType
  pub spelled : TypeText type front
  pub found : Value × At
  pub read : value_at max_levels order type at ≡ Ok found
  pub left : AreLeft order more found.1
  pub is : IsBytes at.rest → whole ≡ argument_of order (align_up (alignment_of type) at.place) type found.0 ∷ arguments_left order more found.1

pub next_left : (order : Order) (texts : List (List ℕ)) (front : List ℕ) (more : List (List ℕ)) (at : At) → AreLeft order texts at → texts ≡ front ∷ more → NextLeft order front more at (arguments_left order texts at)
next_left order texts front more at left is = go left.types left.spelled left.fit left.found left.read
  where
    go : (types : DataTypes) → texts ≡ slices types → AllFit 0 0 types → (found : Values × At) → members_at (value_at max_levels order) types at ≡ Ok found → NextLeft order front more at (arguments_left order texts at)
    go no_types e fit found read = absurd (let here : front ∷ more ≡ [] = sym is ∙ e in cc)
    go (one_more t ts) e fit found read =
        let both : front ∷ more ≡ spelling t ∷ slices ts = sym is ∙ e in
        let first : front ≡ spelling t = cc in
        let others : more ≡ slices ts = cc in
        let short : All Short (front ∷ more) = subst (All Short) is left.short in
        let s = bind_ok (value_at max_levels order t at) (λ value. members_at (value_at max_levels order) ts value.1 >>= λ more. Ok (one_value value.0 more.0, more.1)) found read in
        let m = bind_ok (members_at (value_at max_levels order) ts s.0.1) (λ more. Ok (one_value s.0.0 more.0, more.1)) found s.2 in
        let made : Values × At = (one_value s.0.0 m.0.0, m.0.1) in
        let values : one_value s.0.0 m.0.0 ≡ found.0 = ap (λ (x : Values × At). x.0) {x = made} (ok_is made found m.2) in
        let rest : All Short more = All-tail Short front more short in
        record {
          type = t;
          spelled = record { spelled = first; fits = fit.0 };
          found = s.0;
          read = s.1;
          left = record { types = ts; spelled = others; fit = fit.1; short = rest; found = m.0; read = m.1 };
          is = λ bytes.
              let place = (value_takes max_levels order t at s.0 bytes s.1).0.place in
              left_is order texts at (one_more t ts) found e fit left.short read
              ∙ ap (arguments_from order at.place (one_more t ts)) (sym {a = one_value s.0.0 m.0.0} values)
              ∙ ap (λ (p : ℕ). argument_of order (align_up (alignment_of t) at.place) t s.0.0 ∷ arguments_from order p ts m.0.0) (sym place)
              ∙ ap (λ (x : List Argument). argument_of order (align_up (alignment_of t) at.place) t s.0.0 ∷ x) (sym (left_is order more s.0.1 ts m.0 others fit.1 rest m.1));
        }
