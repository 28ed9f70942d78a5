-- Inner: which entries a message is offered to, as a test.
use Rattle.std.specs.Prelude.{◌≡◌, ℕ, ◌<◌, Bool, true, false, ◌&&◌, List, [], ◌∷◌, ◌++◌, filter, Option, Some, None, ◌==◌}
use Rattle.std.specs.Str.{bytes_eq}
use Rattle.std.specs.List.{filter_map}
use Rattle.message_view.specs.Message.{Message}
use Rattle.match_rule.specs.FixedTexts.{FixedTexts, texts_from}
use Rattle.entry_table.specs.PlaceLists.{PlaceLists, places_in, has_place, AreOnce}
use Rattle.entry_table.specs.declared.entry.Entry.{Entry}
use Rattle.entry_table.specs.declared.index.Index.{Index}
use Rattle.entry_table.specs.declared.offers.Cursor.{Cursor}
use Rattle.entry_table.specs.declared.text_points.TextPoints.{TextPoints}
use Rattle.entry_table.specs.PlacedEntries.{Placed, entry_at}
use Rattle.entry_table.specs.ShapeCounts.{is_in_use}
use Rattle.entry_table.specs.Lookups.{Lookup, first_texts, lookups_after}
use Rattle.entry_table.specs.TextKeys.{KeyedTexts, LookupTexts, joined_hash, shape_of, in_shape, list_of, hash_lists}
use Rattle.entry_table.specs.EntryTexts.{lookup_texts}

-- a text that is asked for is the one that is found
abbrev pub is_text_found : Option (List ℕ) → Option (List ℕ) → Bool
is_text_found None found = true
is_text_found (Some text) None = false
is_text_found (Some text) (Some other) = bytes_eq other text

-- each text that an entry is looked up by is the one that is found
abbrev pub are_texts_found : FixedTexts → FixedTexts → Bool
are_texts_found asked found =
    is_text_found asked.member found.member && is_text_found asked.interface found.interface && is_text_found asked.path found.path && is_text_found asked.sender found.sender && is_text_found asked.arg0 found.arg0

abbrev pub are_namespaces_found : LookupTexts → LookupTexts → Bool
are_namespaces_found asked found =
    is_text_found asked.path_namespace found.path_namespace && is_text_found asked.arg0_namespace found.arg0_namespace

abbrev pub are_found : LookupTexts → LookupTexts → Bool
are_found asked found = are_texts_found asked.texts found.texts && are_namespaces_found asked found

-- the entry has the shape, and these are the texts that it is looked up by
abbrev pub is_offered : ℕ → LookupTexts → Entry → Bool
is_offered shape found e = shape_of (lookup_texts e.filter) == shape && are_found (lookup_texts e.filter) found

-- the entries of a shape at these places that are looked up by these texts
abbrev pub offered_at : List Placed → LookupTexts → ℕ → List ℕ → List Entry
offered_at held found shape places = filter (is_offered shape found) (filter_map (λ (place : ℕ). entry_at place held) places)

-- those of each lookup, in the lookup's list
abbrev pub offered_by : List Placed → PlaceLists → TextPoints → List Lookup → List Entry
offered_by held all points [] = []
offered_by held all points (l ∷ ls) =
    offered_at held l.texts l.shape (places_in all (list_of l.shape (joined_hash points (in_shape l.shape l.texts)))) ++ offered_by held all points ls

-- what is still to come: the entries of a shape at these places, and those of the lookups after it
abbrev pub coming : List Placed → PlaceLists → KeyedTexts → Cursor → List Entry
coming held all found at = offered_at held found.texts at.shape at.places ++ offered_by held all found.points (lookups_after at.shape found.texts at.shapes)

-- the next lookup: its texts and its shape, where the places stay those of the lookup before
pub record IsNextLookup (old : KeyedTexts) (from : Cursor) (new : KeyedTexts) (to : Cursor) : Type 0 where
  pub next : lookups_after from.shape old.texts from.shapes ≡ record { shape = to.shape; texts = new.texts } ∷ lookups_after to.shape new.texts to.shapes
  pub points : new.points ≡ old.points

-- no lookup is left, and all is as it was
pub record IsLastLookup (old : KeyedTexts) (from : Cursor) (new : KeyedTexts) (to : Cursor) : Type 0 where
  pub none : lookups_after from.shape old.texts from.shapes ≡ []
  pub same_texts : new ≡ old
  pub same_cursor : to ≡ from

-- the texts of a message from this sender that are read, argument 0 among them or not
abbrev pub texts_read : Bool → Option (List ℕ) → Message → FixedTexts
texts_read true sender m = texts_from sender m
texts_read false sender m = record (texts_from sender m) { arg0 = None }

-- what is still to come at the start: those of shape 0, and those of each shape in use
pub record IsLookedUp (index : Index) (held : List Placed) (sender : Option (List ℕ)) (m : Message) (offers : List Entry) : Type 0 where
  pub used : List ℕ
  pub once : AreOnce used
  pub same : (shape : ℕ) → has_place shape used ≡ is_in_use shape index.shapes
  -- argument 0 is read, or no shape in use has it
  pub has_arg0 : Bool
  pub without : has_arg0 ≡ false → (shape : ℕ) → is_in_use shape index.shapes ≡ true → shape < 32
  pub is : offers ≡ coming held index.by_texts (record { points = index.points; texts = first_texts (texts_read has_arg0 sender m) }) (record { shape = 0; places = places_in index.by_texts hash_lists; shapes = used })
