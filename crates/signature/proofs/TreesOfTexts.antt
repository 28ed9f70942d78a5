-- The trees that are read of a text are those that it spells.
use Rattle.std.proofs.Common.{◌≡◌, ℕ, ◌+◌, ◌≤◌, List, [], ◌∷◌, ◌++◌, length, refl, sym, ap, ◌∙◌, append_assoc, subst}
use Rattle.std.specs.Prelude.{Option, Some, None, IsSome}
use Rattle.std.specs.Iterator.{YieldsFirst}
use Rattle.std.proofs.lemmas.List.{append-nil}
use Rattle.signature.specs.declared.error.SigError.{SigError}
use Rattle.signature.specs.declared.code.Code.TheVariants.{CloseStruct, CloseEntry}
use Rattle.signature.specs.Code.{code_of}
use Rattle.signature.specs.DataType.{DataType, DataTypes, basic, variant, array, dict, struct, no_types, one_more, spelling, spellings, slices, Fits, AllFit, SigText, TypeText}
use Rattle.signature.specs.Reading.{fault_of}
use Rattle.signature.specs.Trees.{Ahead, After, types_then, entry_then, text_end, struct_end, with_type, with_array, with_struct, with_entry, with_code, and_then, ahead_of, whole, only_type, types_of, type_of}
use Rattle.signature.proofs.Spelled.{basic_code}
use Rattle.signature.proofs.Signatures.{some_types, fault_of-SigText}

-- ---- the codes of one type, one after another

array_then : (r : Option Ahead) (t : DataType) → and_then (and_then r (with_type t)) with_array ≡ and_then r (with_type (array t))
array_then None t = refl
array_then (Some (types_then ts past)) t = refl
array_then (Some (entry_then k v ahead)) t = refl

dict_then : (r : Option Ahead) (k : ℕ) (v : DataType) → and_then (and_then (and_then (and_then (and_then r (with_code CloseEntry 125)) (with_type v)) (with_type (basic k))) with_entry) with_array ≡ and_then r (with_type (dict k v))
dict_then None k v = refl
dict_then (Some ahead) k v = refl

abbrev with_types : DataTypes → Ahead → Option Ahead
with_types no_types ahead = Some ahead
with_types (one_more t ts) ahead = and_then (with_types ts ahead) (with_type t)

with_types-none : (ts : DataTypes) (past : After) → with_types ts (types_then no_types past) ≡ Some (types_then ts past)
with_types-none no_types past = refl
with_types-none (one_more t ts) past = ap (λ r. and_then r (with_type t)) (with_types-none ts past)

struct_then : (r : Option Ahead) (t : DataType) (ts : DataTypes) → and_then (and_then (and_then (and_then r (with_code CloseStruct 41)) (with_types ts)) (with_type t)) with_struct ≡ and_then r (with_type (struct t ts))
struct_then None t ts = refl
struct_then (Some ahead) t ts = ap (λ r. and_then (and_then r (with_type t)) with_struct) (with_types-none ts (struct_end ahead))

no_more_then : (r : Option Ahead) → r ≡ and_then r (with_types no_types)
no_more_then None = refl
no_more_then (Some ahead) = refl

one_more_then : (r : Option Ahead) (t : DataType) (ts : DataTypes) → and_then (and_then r (with_types ts)) (with_type t) ≡ and_then r (with_types (one_more t ts))
one_more_then None t ts = refl
one_more_then (Some ahead) t ts = refl

mutual
  type_ahead : (t : DataType) (a s : ℕ) (rest : List ℕ) → Fits a s t → ahead_of (spelling t ++ rest) ≡ and_then (ahead_of rest) (with_type t)
  type_ahead (basic c) a s rest fits = ap (λ k. and_then (ahead_of rest) (with_code k c)) (basic_code c fits)
  type_ahead variant a s rest fits = refl
  type_ahead (array t) a s rest fits =
      ap (λ r. and_then r with_array) (type_ahead t (a + 1) s rest fits.1)
      ∙ array_then (ahead_of rest) t
  type_ahead (dict k v) a s rest fits =
      ap (λ (l : List ℕ). ahead_of (97 ∷ 123 ∷ k ∷ l)) (append_assoc (spelling v) (125 ∷ []) rest)
      ∙ ap (λ r. and_then (and_then (and_then r (with_code (code_of k) k)) with_entry) with_array) (type_ahead v (a + 1) s (125 ∷ rest) fits.2)
      ∙ ap (λ code. and_then (and_then (and_then (and_then (ahead_of (125 ∷ rest)) (with_type v)) (with_code code k)) with_entry) with_array) (basic_code k fits.1)
      ∙ dict_then (ahead_of rest) k v
  type_ahead (struct t ts) a s rest fits =
      ap (λ (l : List ℕ). ahead_of (40 ∷ l)) (append_assoc (spelling t) (spellings ts ++ 41 ∷ []) rest ∙ ap (λ (l : List ℕ). spelling t ++ l) (append_assoc (spellings ts) (41 ∷ []) rest))
      ∙ ap (λ r. and_then r with_struct) (type_ahead t a (s + 1) (spellings ts ++ 41 ∷ rest) fits.1)
      ∙ ap (λ r. and_then (and_then r (with_type t)) with_struct) (types_ahead ts a (s + 1) (41 ∷ rest) fits.2)
      ∙ struct_then (ahead_of rest) t ts

  types_ahead : (ts : DataTypes) (a s : ℕ) (rest : List ℕ) → AllFit a s ts → ahead_of (spellings ts ++ rest) ≡ and_then (ahead_of rest) (with_types ts)
  types_ahead no_types a s rest fits = no_more_then (ahead_of rest)
  types_ahead (one_more t ts) a s rest fits =
      ap ahead_of (append_assoc (spelling t) (spellings ts) rest)
      ∙ type_ahead t a s (spellings ts ++ rest) fits.0
      ∙ ap (λ r. and_then r (with_type t)) (types_ahead ts a s rest fits.1)
      ∙ one_more_then (ahead_of rest) t ts

-- ---- whole texts

whole-spellings : (ts : DataTypes) → AllFit 0 0 ts → whole (ahead_of (spellings ts)) ≡ Some ts
whole-spellings ts fits = ap whole (ap ahead_of (sym (append-nil (spellings ts))) ∙ types_ahead ts 0 0 [] fits ∙ with_types-none ts text_end)

-- the trees of the text of types are these types
pub types_of-SigText : (types : DataTypes) (text : List ℕ) → SigText types text → types_of text ≡ Some types
types_of-SigText types text is =
    let none = fault_of-SigText types text is in
    rw none (ap (λ (l : List ℕ). whole (ahead_of l)) is.spelled ∙ whole-spellings types is.fits)

-- a text that has trees spells them
pub trees_spelled : (types : DataTypes) (text : List ℕ) → types_of text ≡ Some types → SigText types text
trees_spelled types text some = go (fault_of text) refl
  where
    go : (fault : Option SigError) → fault_of text ≡ fault → SigText types text
    go None none =
        let found = some_types text none in
        let was = types_of-SigText found.0 text found.1 in
        let same : found.0 ≡ types = cc in
        subst (λ ts. SigText ts text) same found.1
    go (Some fault) faulty = let no : types_of text ≡ None = rw faulty refl in absurd cc

-- ---- one type

-- the text of a type is that of a signature
pub SigText-TypeText : (type : DataType) (text : List ℕ) → TypeText type text → length text ≤ 255 → SigText (one_more type no_types) text
SigText-TypeText type text is short = record { spelled = is.spelled ∙ sym (append-nil (spelling type)); fits = (is.fits, tt); short = short }

pub TypeText-SigText : (type : DataType) (text : List ℕ) → SigText (one_more type no_types) text → TypeText type text
TypeText-SigText type text is = record { spelled = is.spelled ∙ append-nil (spelling type); fits = is.fits.0 }

pub type_of-TypeText : (type : DataType) (text : List ℕ) → TypeText type text → length text ≤ 255 → type_of text ≡ Some type
type_of-TypeText type text is short = ap only_type (types_of-SigText (one_more type no_types) text (SigText-TypeText type text is short))

pub tree_spelled : (type : DataType) (text : List ℕ) → type_of text ≡ Some type → TypeText type text × (length text ≤ 255)
tree_spelled type text some = go (types_of text) refl some
  where
    go : (found : Option DataTypes) → types_of text ≡ found → only_type found ≡ Some type → TypeText type text × (length text ≤ 255)
    go None e is = absurd cc
    go (Some no_types) e is = absurd cc
    go (Some (one_more t no_types)) e is =
        let same : t ≡ type = cc in
        let text_is = trees_spelled (one_more t no_types) text e in
        (subst (λ u. TypeText u text) same (TypeText-SigText t text text_is), text_is.short)
    go (Some (one_more t (one_more u us))) e is = absurd cc

-- a text of no type has no tree
pub no_tree : (text : List ℕ) → ((type : DataType) → TypeText type text → length text ≤ 255 → ⊥) → type_of text ≡ None
no_tree text none = go (type_of text) refl
  where
    go : (found : Option DataType) → type_of text ≡ found → found ≡ None
    go None e = refl
    go (Some t) e = let is = tree_spelled t text e in absurd (none t is.0 is.1)

pub some_tree : (type : DataType) (text : List ℕ) → TypeText type text → length text ≤ 255 → IsSome (type_of text)
some_tree type text is short = rw (type_of-TypeText type text is short) refl

pub some_trees : (types : DataTypes) (text : List ℕ) → SigText types text → IsSome (types_of text)
some_trees types text is = rw (types_of-SigText types text is) refl

-- ---- what a signature of one type lends

pub record IsOnly (text only : List ℕ) : Type 0 where
  pub same : only ≡ text
  pub short : length text ≤ 255
  pub type : DataType
  pub is : TypeText type text

pub only_lent : (types : DataTypes) (text only : List ℕ) → SigText types text → slices types ≡ only ∷ [] → IsOnly text only
only_lent no_types text only is lent = absurd cc
only_lent (one_more t no_types) text only is lent =
    let here = TypeText-SigText t text is in
    let one : spelling t ≡ only = cc in
    record { same = sym one ∙ sym here.spelled; short = is.short; type = t; is = here }
only_lent (one_more t (one_more u us)) text only is lent = absurd cc

pub one_lent : (texts after last : List (List ℕ)) (only : List ℕ) (first second : Option (List ℕ)) → texts ≡ only ∷ [] → YieldsFirst (λ s. s) texts first after → YieldsFirst (λ s. s) after second last → (first ≡ Some only) × (second ≡ None)
one_lent texts after last only None second one lent then = let none = lent.0 in absurd cc
one_lent texts after last only (Some x) None one lent then = (cc, refl)
one_lent texts after last only (Some x) (Some y) one lent then = absurd cc
