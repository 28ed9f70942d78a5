-- Which texts a message has of those that an entry fixes, and what stands in the list of an entry's texts.
use Rattle.std.proofs.Common.{◌≡◌, ℕ, ◌<◌, ◌≤◌, ◌/◌, ◌%◌, Bool, true, false, ◌&&◌, cond, List, [], ◌∷◌, map, refl, sym, ap, ◌∙◌, subst, ◌⊎◌, inl, inr, arith}
use Rattle.std.proofs.lemmas.Bool.{and_parts, and_from, cases_Bool, cases_eq, cond-true, cond-false, false≢true}
use Rattle.std.proofs.lemmas.List.Elements.{Contains-append_cases, Contains-append_left, Contains-append_right, Contains-push, Contains-push_cases}
use Rattle.std.specs.Prelude.{Option, Some, None, IfSome, filter, Contains}
use Rattle.std.specs.List.{filter_map}
use Rattle.std.proofs.lemmas.Slice.Eq.{bytes_eq-Decides}
use Rattle.match_rule.specs.FixedTexts.{FixedTexts, AreFound}
use Rattle.entry_table.specs.declared.entry.Entry.{Entry}
use Rattle.entry_table.specs.FoundTexts.{is_text_found, are_texts_found, are_namespaces_found, are_found}
use Rattle.entry_table.specs.IndexLists.{places_with_key}
use Rattle.entry_table.specs.TextKeys.{LookupTexts, bit_of, shape_of, where_bit, in_shape}
use Rattle.entry_table.specs.PlacedEntries.{Placed, entry_at}
use Rattle.entry_table.specs.Searching.{entries_of}
use Rattle.entry_table.proofs.Finding.{AreKept, entries_of-cons}
use Rattle.entry_table.proofs.Keying.{keyed-here, keyed-other}

abbrev put_in_front : Option Entry → List Entry → List Entry
put_in_front None es = es
put_in_front (Some e) es = e ∷ es

-- the entries in a list by a key that pass a test, where the test decides the key
pub in_list : (key : Entry → ℕ) (k : ℕ) (q : Entry → Bool) → ((e : Entry) → q e ≡ true → key e ≡ k) → (all xs : List Placed) → AreKept all xs → filter q (filter_map (λ (place : ℕ). entry_at place all) (places_with_key key k xs)) ≡ filter q (map (λ (x : Placed). x.1) xs)
in_list key k q only all [] kept = refl
in_list key k q only all (x ∷ xs) kept =
    let seen : List ℕ → List Entry = λ places. filter_map (λ (place : ℕ). entry_at place all) places in
    let rest = in_list key k q only all xs kept.1 in
    elim (cases_eq (key x.1) k) [
      | inl is ↦ ap (λ (places : List ℕ). filter q (seen places)) (keyed-here key k x xs is)
          ∙ ap (λ (o : Option Entry). filter q (put_in_front o (seen (places_with_key key k xs)))) kept.0
          ∙ ap (λ (es : List Entry). cond (q x.1) (x.1 ∷ es) es) rest
      | inr other ↦ ap (λ (places : List ℕ). filter q (seen places)) (keyed-other key k x xs other) ∙ rest
          ∙ sym (skipped x.1 (filter q (map (λ (y : Placed). y.1) xs)) (q x.1) (λ passes. other (only x.1 passes)))
    ]
  where
    skipped : (e : Entry) (es : List Entry) (b : Bool) → (b ≡ true → ⊥) → cond b (e ∷ es) es ≡ es
    skipped e es true never = absurd (never refl)
    skipped e es false never = refl

pub contains-cons : (y : Entry) (ys : List Entry) (e : Entry) → Contains (y ∷ ys) e → (y ≡ e) ⊎ Contains ys e
contains-cons y ys e h =
    elim (Contains-append_cases (y ∷ []) ys e h) [
      | inl first ↦ (elim (Contains-push_cases [] y e first) [ inl none ↦ absurd (omega (arith, none.1)) | inr same ↦ inl same ])
      | inr later ↦ inr later
    ]

pub contains-first : (y : Entry) (ys : List Entry) (e : Entry) → y ≡ e → Contains (y ∷ ys) e
contains-first y ys e same = subst (λ (f : Entry). Contains (y ∷ ys) f) same (Contains-append_left (y ∷ []) ys y (Contains-push [] y))

pub contains-later : (y : Entry) (ys : List Entry) (e : Entry) → Contains ys e → Contains (y ∷ ys) e
contains-later y ys e h = Contains-append_right (y ∷ []) ys e h

pub filter-contains : (q : Entry → Bool) (ys : List Entry) (e : Entry) → Contains (filter q ys) e → Contains ys e × (q e ≡ true)
filter-contains q [] e h = absurd (omega (arith, h.1))
filter-contains q (y ∷ ys) e h =
    elim (cases_Bool (q y)) [
      | inl passes ↦ (elim (contains-cons y (filter q ys) e (subst (λ (es : List Entry). Contains es e) (cond-true (q y) (y ∷ filter q ys) (filter q ys) passes) h)) [
        | inl same ↦ (contains-first y ys e same, ap q (sym same) ∙ passes)
        | inr later ↦ (let found = filter-contains q ys e later in (contains-later y ys e found.0, found.1))
      ])
      | inr fails ↦ (let found = filter-contains q ys e (subst (λ (es : List Entry). Contains es e) (cond-false (q y) (y ∷ filter q ys) (filter q ys) fails) h) in (contains-later y ys e found.0, found.1))
    ]

pub contains-filter : (q : Entry → Bool) (ys : List Entry) (e : Entry) → Contains ys e → q e ≡ true → Contains (filter q ys) e
contains-filter q [] e h passes = absurd (omega (arith, h.1))
contains-filter q (y ∷ ys) e h passes =
    elim (contains-cons y ys e h) [
      | inl same ↦ subst (λ (es : List Entry). Contains es e) (sym (cond-true (q y) (y ∷ filter q ys) (filter q ys) (ap q same ∙ passes))) (contains-first y (filter q ys) e same)
      | inr later ↦ (elim (cases_Bool (q y)) [
        | inl also ↦ subst (λ (es : List Entry). Contains es e) (sym (cond-true (q y) (y ∷ filter q ys) (filter q ys) also)) (contains-later y (filter q ys) e (contains-filter q ys e later passes))
        | inr fails ↦ subst (λ (es : List Entry). Contains es e) (sym (cond-false (q y) (y ∷ filter q ys) (filter q ys) fails)) (contains-filter q ys e later passes)
      ])
    ]

pub reversed : (held : List Placed) (e : Entry) → Contains (map (λ (x : Placed). x.1) held) e → Contains (entries_of held) e
reversed [] e h = absurd (omega (arith, h.1))
reversed (x ∷ xs) e h =
    subst (λ (es : List Entry). Contains es e) (sym (entries_of-cons x xs)) (elim (contains-cons x.1 (map (λ (x : Placed). x.1) xs) e h) [
      | inl same ↦ Contains-append_right (entries_of xs) (x.1 ∷ []) e (contains-first x.1 [] e same)
      | inr later ↦ Contains-append_left (entries_of xs) (x.1 ∷ []) e (reversed xs e later)
    ])

pub turned_back : (held : List Placed) (e : Entry) → Contains (entries_of held) e → Contains (map (λ (x : Placed). x.1) held) e
turned_back [] e h = absurd (omega (arith, h.1))
turned_back (x ∷ xs) e h =
    elim (Contains-append_cases (entries_of xs) (x.1 ∷ []) e (subst (λ (es : List Entry). Contains es e) (entries_of-cons x xs) h)) [
      | inl later ↦ contains-later x.1 (map (λ (x : Placed). x.1) xs) e (turned_back xs e later)
      | inr first ↦ (elim (contains-cons x.1 [] e first) [ inl same ↦ contains-first x.1 (map (λ (x : Placed). x.1) xs) e same | inr none ↦ absurd (omega (arith, none.1)) ])
    ]

pub bit-small : (text : Option (List ℕ)) → bit_of text ≤ 1
bit-small None = omega arith
bit-small (Some text) = omega arith

module _ (t : LookupTexts) where
  shape-member : shape_of t % 2 ≡ bit_of t.texts.member
  shape-member = omega (arith, bit-small t.texts.member, bit-small t.texts.interface, bit-small t.texts.path, bit-small t.path_namespace, bit-small t.texts.sender, bit-small t.texts.arg0, bit-small t.arg0_namespace)

  shape-interface : shape_of t / 2 % 2 ≡ bit_of t.texts.interface
  shape-interface = omega (arith, bit-small t.texts.member, bit-small t.texts.interface, bit-small t.texts.path, bit-small t.path_namespace, bit-small t.texts.sender, bit-small t.texts.arg0, bit-small t.arg0_namespace)

  shape-path : shape_of t / 4 % 2 ≡ bit_of t.texts.path
  shape-path = omega (arith, bit-small t.texts.member, bit-small t.texts.interface, bit-small t.texts.path, bit-small t.path_namespace, bit-small t.texts.sender, bit-small t.texts.arg0, bit-small t.arg0_namespace)

  pub shape-path_namespace : shape_of t / 8 % 2 ≡ bit_of t.path_namespace
  shape-path_namespace = omega (arith, bit-small t.texts.member, bit-small t.texts.interface, bit-small t.texts.path, bit-small t.path_namespace, bit-small t.texts.sender, bit-small t.texts.arg0, bit-small t.arg0_namespace)

  shape-sender : shape_of t / 16 % 2 ≡ bit_of t.texts.sender
  shape-sender = omega (arith, bit-small t.texts.member, bit-small t.texts.interface, bit-small t.texts.path, bit-small t.path_namespace, bit-small t.texts.sender, bit-small t.texts.arg0, bit-small t.arg0_namespace)

  shape-arg0 : shape_of t / 32 % 2 ≡ bit_of t.texts.arg0
  shape-arg0 = omega (arith, bit-small t.texts.member, bit-small t.texts.interface, bit-small t.texts.path, bit-small t.path_namespace, bit-small t.texts.sender, bit-small t.texts.arg0, bit-small t.arg0_namespace)

  pub shape-arg0_namespace : shape_of t / 64 % 2 ≡ bit_of t.arg0_namespace
  shape-arg0_namespace = omega (arith, bit-small t.texts.member, bit-small t.texts.interface, bit-small t.texts.path, bit-small t.path_namespace, bit-small t.texts.sender, bit-small t.texts.arg0, bit-small t.arg0_namespace)

  pub shape-below : shape_of t < 128
  shape-below = omega (arith, bit-small t.texts.member, bit-small t.texts.interface, bit-small t.texts.path, bit-small t.path_namespace, bit-small t.texts.sender, bit-small t.texts.arg0, bit-small t.arg0_namespace)

same_texts : (s t : FixedTexts) → s.member ≡ t.member → s.interface ≡ t.interface → s.path ≡ t.path → s.sender ≡ t.sender → s.arg0 ≡ t.arg0 → s ≡ t
same_texts s t member interface path sender arg0 =
    ap (λ (x : Option (List ℕ)). record s { member = x }) member
    ∙ ap (λ (x : Option (List ℕ)). record s { member = t.member; interface = x }) interface
    ∙ ap (λ (x : Option (List ℕ)). record s { member = t.member; interface = t.interface; path = x }) path
    ∙ ap (λ (x : Option (List ℕ)). record s { member = t.member; interface = t.interface; path = t.path; sender = x }) sender
    ∙ ap (λ (x : Option (List ℕ)). record s { member = t.member; interface = t.interface; path = t.path; sender = t.sender; arg0 = x }) arg0

same_lookup : (s t : LookupTexts) → s.texts ≡ t.texts → s.path_namespace ≡ t.path_namespace → s.arg0_namespace ≡ t.arg0_namespace → s ≡ t
same_lookup s t texts path arg0 =
    ap (λ (x : FixedTexts). record s { texts = x }) texts
    ∙ ap (λ (x : Option (List ℕ)). record s { texts = t.texts; path_namespace = x }) path
    ∙ ap (λ (x : Option (List ℕ)). record s { texts = t.texts; path_namespace = t.path_namespace; arg0_namespace = x }) arg0

text_found : (a f : Option (List ℕ)) → is_text_found a f ≡ true → IfSome a (λ text. f ≡ Some text)
text_found None f h = tt
text_found (Some text) None h = absurd (false≢true h)
text_found (Some text) (Some other) h = ap (λ (t : List ℕ). Some t) ((bytes_eq-Decides other text).0 h)

found_text : (a f : Option (List ℕ)) → IfSome a (λ text. f ≡ Some text) → is_text_found a f ≡ true
found_text None f h = refl
found_text (Some text) None h = absurd cc
found_text (Some text) (Some other) h = let same : other ≡ text = cc in (bytes_eq-Decides other text).1 same

where_found : (a f : Option (List ℕ)) → is_text_found a f ≡ true → where_bit (bit_of a) f ≡ a
where_found None f h = refl
where_found (Some text) None h = absurd (false≢true h)
where_found (Some text) (Some other) h = ap (λ (t : List ℕ). Some t) ((bytes_eq-Decides other text).0 h)

module _ (asked found : FixedTexts) where
  -- the five tests
  each_found : are_texts_found asked found ≡ true → (is_text_found asked.member found.member ≡ true) × (is_text_found asked.interface found.interface ≡ true) × (is_text_found asked.path found.path ≡ true) × (is_text_found asked.sender found.sender ≡ true) × (is_text_found asked.arg0 found.arg0 ≡ true)
  each_found h =
      let last = and_parts (is_text_found asked.member found.member && is_text_found asked.interface found.interface && is_text_found asked.path found.path && is_text_found asked.sender found.sender) (is_text_found asked.arg0 found.arg0) h in
      let fourth = and_parts (is_text_found asked.member found.member && is_text_found asked.interface found.interface && is_text_found asked.path found.path) (is_text_found asked.sender found.sender) last.0 in
      let third = and_parts (is_text_found asked.member found.member && is_text_found asked.interface found.interface) (is_text_found asked.path found.path) fourth.0 in
      let second = and_parts (is_text_found asked.member found.member) (is_text_found asked.interface found.interface) third.0 in
      (second.0, second.1, third.1, fourth.1, last.1)

  pub AreFound-test : are_texts_found asked found ≡ true → AreFound asked found
  AreFound-test h =
      let each = each_found h in
      record {
        member = text_found asked.member found.member each.0;
        interface = text_found asked.interface found.interface each.1;
        path = text_found asked.path found.path each.2;
        sender = text_found asked.sender found.sender each.3;
        arg0 = text_found asked.arg0 found.arg0 each.4;
      }

  pub test-AreFound : AreFound asked found → are_texts_found asked found ≡ true
  test-AreFound h =
      and_from (is_text_found asked.member found.member && is_text_found asked.interface found.interface && is_text_found asked.path found.path && is_text_found asked.sender found.sender) (is_text_found asked.arg0 found.arg0)
      (and_from (is_text_found asked.member found.member && is_text_found asked.interface found.interface && is_text_found asked.path found.path) (is_text_found asked.sender found.sender)
      (and_from (is_text_found asked.member found.member && is_text_found asked.interface found.interface) (is_text_found asked.path found.path)
      (and_from (is_text_found asked.member found.member) (is_text_found asked.interface found.interface) (found_text asked.member found.member h.member) (found_text asked.interface found.interface h.interface))
      (found_text asked.path found.path h.path))
      (found_text asked.sender found.sender h.sender))
      (found_text asked.arg0 found.arg0 h.arg0)

module _ (asked found : LookupTexts) where
  -- the test of the texts, and those of the namespaces
  pub all_found : are_found asked found ≡ true → (are_texts_found asked.texts found.texts ≡ true) × (is_text_found asked.path_namespace found.path_namespace ≡ true) × (is_text_found asked.arg0_namespace found.arg0_namespace ≡ true)
  all_found h =
      let both = and_parts (are_texts_found asked.texts found.texts) (are_namespaces_found asked found) h in
      let inside = and_parts (is_text_found asked.path_namespace found.path_namespace) (is_text_found asked.arg0_namespace found.arg0_namespace) both.1 in
      (both.0, inside.0, inside.1)

  pub found_all : are_texts_found asked.texts found.texts ≡ true → is_text_found asked.path_namespace found.path_namespace ≡ true → is_text_found asked.arg0_namespace found.arg0_namespace ≡ true → are_found asked found ≡ true
  found_all texts path arg0 =
      and_from (are_texts_found asked.texts found.texts) (are_namespaces_found asked found) texts
      (and_from (is_text_found asked.path_namespace found.path_namespace) (is_text_found asked.arg0_namespace found.arg0_namespace) path arg0)

  -- of the texts that are found, those of the asked shape are just those that are asked for
  pub in_own_shape : are_found asked found ≡ true → in_shape (shape_of asked) found ≡ asked
  in_own_shape h =
      let all = all_found h in
      let each = each_found asked.texts found.texts all.0 in
      let member = ap (λ (n : ℕ). where_bit n found.texts.member) (shape-member asked) ∙ where_found asked.texts.member found.texts.member each.0 in
      let interface = ap (λ (n : ℕ). where_bit n found.texts.interface) (shape-interface asked) ∙ where_found asked.texts.interface found.texts.interface each.1 in
      let path = ap (λ (n : ℕ). where_bit n found.texts.path) (shape-path asked) ∙ where_found asked.texts.path found.texts.path each.2 in
      let sender = ap (λ (n : ℕ). where_bit n found.texts.sender) (shape-sender asked) ∙ where_found asked.texts.sender found.texts.sender each.3 in
      let arg0 = ap (λ (n : ℕ). where_bit n found.texts.arg0) (shape-arg0 asked) ∙ where_found asked.texts.arg0 found.texts.arg0 each.4 in
      let path_namespace = ap (λ (n : ℕ). where_bit n found.path_namespace) (shape-path_namespace asked) ∙ where_found asked.path_namespace found.path_namespace all.1 in
      let arg0_namespace = ap (λ (n : ℕ). where_bit n found.arg0_namespace) (shape-arg0_namespace asked) ∙ where_found asked.arg0_namespace found.arg0_namespace all.2 in
      same_lookup (in_shape (shape_of asked) found) asked (same_texts (in_shape (shape_of asked) found).texts asked.texts member interface path sender arg0) path_namespace arg0_namespace
