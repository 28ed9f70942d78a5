-- Inner: the lookups of a message. One of a shape that has no namespace is looked up once, one of a namespace once for
-- each front of the message's text.
use Rattle.std.specs.Prelude.{ℕ, ◌/◌, ◌%◌, List, [], ◌∷◌, ◌++◌, map, Option, ◌==◌}
use Rattle.match_rule.specs.FixedTexts.{FixedTexts}
use Rattle.entry_table.specs.Fronts.{fronts_after}
use Rattle.entry_table.specs.TextKeys.{LookupTexts}

-- the entries of a shape that are looked up by these texts
pub record Lookup : Type 0 where
  pub shape : ℕ
  pub texts : LookupTexts

-- the texts of the first lookup of each shape: the namespaces are the whole path and the whole argument 0
abbrev pub first_texts : FixedTexts → LookupTexts
first_texts texts = record { texts = texts; path_namespace = texts.path; arg0_namespace = texts.arg0 }

-- the lookups of a shape with this namespace of the path, and with these of argument 0
abbrev pub with_path : ℕ → FixedTexts → Option (List ℕ) → List (Option (List ℕ)) → List Lookup
with_path shape texts path arg0s =
    map (λ (arg0 : Option (List ℕ)). record { shape = shape; texts = record { texts = texts; path_namespace = path; arg0_namespace = arg0 } }) arg0s

-- the fronts of a path and of an argument 0 that come after these
abbrev pub paths_after : ℕ → Option (List ℕ) → List (Option (List ℕ))
paths_after shape path = fronts_after (shape / 8 % 2 == 1) 47 path

abbrev pub arg0s_after : ℕ → Option (List ℕ) → List (Option (List ℕ))
arg0s_after shape arg0 = fronts_after (shape / 64 % 2 == 1) 46 arg0

-- the lookups of a shape with each of these namespaces of the path
abbrev pub with_paths : ℕ → FixedTexts → List (Option (List ℕ)) → List Lookup
with_paths shape texts [] = []
with_paths shape texts (path ∷ paths) =
    with_path shape texts path (texts.arg0 ∷ arg0s_after shape texts.arg0) ++ with_paths shape texts paths

-- the lookups of a shape, and those that come after the one with these texts
abbrev pub of_shape : ℕ → FixedTexts → List Lookup
of_shape shape texts = with_paths shape texts (texts.path ∷ paths_after shape texts.path)

abbrev pub of_shape_after : ℕ → LookupTexts → List Lookup
of_shape_after shape t =
    with_path shape t.texts t.path_namespace (arg0s_after shape t.arg0_namespace) ++ with_paths shape t.texts (paths_after shape t.path_namespace)

abbrev pub of_shapes : FixedTexts → List ℕ → List Lookup
of_shapes texts [] = []
of_shapes texts (shape ∷ shapes) = of_shape shape texts ++ of_shapes texts shapes

-- the lookups that come after one, where these shapes come after its shape
abbrev pub lookups_after : ℕ → LookupTexts → List ℕ → List Lookup
lookups_after shape t shapes = of_shape_after shape t ++ of_shapes t.texts shapes
