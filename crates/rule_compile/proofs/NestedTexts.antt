-- Texts compared along the parts of a value.
use Rattle.std.proofs.Common.{◌≡◌, ℕ, ◌+◌, ◌≤◌, Bool, true, false, List, [], ◌∷◌, ◌++◌, drop, length, refl, sym, ap, ◌∙◌, ◌⊎◌, inl, inr, subst, arith}
use Rattle.std.specs.Prelude.{◌==◌, ◌↔◌, MatchBool, if◌then◌else◌}
use Rattle.std.proofs.lemmas.List.{append-nil, length-append, length-drop, drop-drop, drop_at, nil_from_length}
use Rattle.match_rule.specs.Bytes.{ends_with}
use Rattle.match_rule.specs.Holds.{Begins, AreNested}
use Rattle.rule_compile.specs.Folders.{with_front, parts_of}
use Rattle.rule_compile.proofs.Bytes.{Stands}

-- the text goes on at a place with the parts of a value, or ends after one of them
abbrev pub AlongParts : List ℕ → ℕ → List (List ℕ) → Type 0
AlongParts text place [] = Unit {0}
AlongParts text place (part ∷ []) = MatchBool (ends_with 47 part) ((place + length part ≤ length text) × Stands text place part) ((length text ≡ place + length part) × Stands text place part)
AlongParts text place (part ∷ next ∷ more) = (place + length part ≤ length text) × Stands text place part × ((length text ≡ place + length part) ⊎ AlongParts text (place + length part) (next ∷ more))

-- ---- of what is left of a text

-- the same of what is left of the text from the place on
abbrev Meets : List ℕ → List (List ℕ) → Type 0
Meets text [] = Unit {0}
Meets text (part ∷ []) = MatchBool (ends_with 47 part) (Begins text part) (text ≡ part)
Meets text (part ∷ next ∷ more) = (remainder : List ℕ) × (text ≡ part ++ remainder) × ((remainder ≡ []) ⊎ Meets remainder (next ∷ more))

-- the first part of a text that isn't empty has a byte
abbrev IsParted : List (List ℕ) → Type 0
IsParted ((q ∷ qs) ∷ more) = Unit {0}
IsParted _ = ⊥

parted : (b : ℕ) (bs : List ℕ) → IsParted (parts_of (b ∷ bs))
parted b bs = go (b == 47) (parts_of bs)
  where
    go : (slash : Bool) (parts : List (List ℕ)) → IsParted (if slash then (b ∷ []) ∷ parts else with_front b parts)
    go true parts = tt
    go false [] = tt
    go false (part ∷ more) = tt

-- the text begins with the value's first byte, and ends after it where that is a `/`, or goes on nested
abbrev Follows : List ℕ → ℕ → List ℕ → Type 0
Follows text b bs = (remainder : List ℕ) × (text ≡ b ∷ remainder) × (((b == 47) ≡ true) × (remainder ≡ []) ⊎ AreNested remainder bs)

nested_follows : (text : List ℕ) (b c : ℕ) (cs : List ℕ) → AreNested text (b ∷ c ∷ cs) → Follows text b (c ∷ cs)
nested_follows text b c cs (inl same) = (c ∷ cs, same, inr (inl refl))
nested_follows [] b c cs (inr (inl folder)) = absurd (let h : false ≡ true = folder.0 in cc)
nested_follows (t ∷ []) b c cs (inr (inl folder)) =
    let e : b ∷ c ∷ cs ≡ t ∷ folder.1.0 = folder.1.1 in
    let head : t ≡ b = cc in
    ([], ap (λ (x : ℕ). x ∷ []) head, inl (ap (λ (x : ℕ). x == 47) (sym head) ∙ folder.0, refl))
nested_follows (t ∷ u ∷ us) b c cs (inr (inl folder)) =
    let e : b ∷ c ∷ cs ≡ t ∷ u ∷ (us ++ folder.1.0) = folder.1.1 in
    let head : t ≡ b = cc in
    let tail : c ∷ cs ≡ u ∷ (us ++ folder.1.0) = cc in
    (u ∷ us, ap (λ (x : ℕ). x ∷ u ∷ us) head, inr (inr (inl (folder.0, (folder.1.0, tail)))))
nested_follows text b c cs (inr (inr folder)) = (c ∷ cs ++ folder.1.0, folder.1.1, inr (inr (inr (folder.0, (folder.1.0, refl)))))

follows_nested : (text : List ℕ) (b c : ℕ) (cs : List ℕ) → Follows text b (c ∷ cs) → AreNested text (b ∷ c ∷ cs)
follows_nested text b c cs (remainder, is, inl ends) =
    let one : text ≡ b ∷ [] = is ∙ ap (λ (x : List ℕ). b ∷ x) ends.1 in
    inr (inl (ap (ends_with 47) one ∙ ends.0, (c ∷ cs, ap (λ (x : List ℕ). x ++ (c ∷ cs)) (sym one))))
follows_nested text b c cs (remainder, is, inr (inl same)) = inl (is ∙ ap (λ (x : List ℕ). b ∷ x) same)
follows_nested text b c cs ([], is, inr (inr (inl folder))) = absurd (let h : false ≡ true = folder.0 in cc)
follows_nested text b c cs (u ∷ us, is, inr (inr (inl folder))) = inr (inl (ap (ends_with 47) is ∙ folder.0, (folder.1.0, ap (λ (x : List ℕ). b ∷ x) folder.1.1 ∙ ap (λ (x : List ℕ). x ++ folder.1.0) (sym is))))
follows_nested text b c cs (remainder, is, inr (inr (inr folder))) = inr (inr (folder.0, (folder.1.0, is ∙ ap (λ (x : List ℕ). b ∷ x) folder.1.1)))

-- a value of one byte
nested_one : (text : List ℕ) (b : ℕ) (slash : Bool) → (b == 47) ≡ slash → AreNested text (b ∷ []) ↔ MatchBool slash (Begins text (b ∷ [])) (text ≡ b ∷ [])
nested_one text b true is = (forth text, λ w. inr (inr (is, w)))
  where
    forth : (text : List ℕ) → AreNested text (b ∷ []) → Begins text (b ∷ [])
    forth text (inl same) = ([], same)
    forth [] (inr (inl folder)) = absurd (let h : false ≡ true = folder.0 in cc)
    forth (t ∷ ts) (inr (inl folder)) = (ts, let e : b ∷ [] ≡ t ∷ (ts ++ folder.1.0) = folder.1.1 in let head : t ≡ b = cc in ap (λ (x : ℕ). x ∷ ts) head)
    forth text (inr (inr folder)) = folder.1
nested_one text b false is = (forth text, λ same. inl same)
  where
    forth : (text : List ℕ) → AreNested text (b ∷ []) → text ≡ b ∷ []
    forth text (inl same) = same
    forth [] (inr (inl folder)) = absurd (let h : false ≡ true = folder.0 in cc)
    forth (t ∷ []) (inr (inl folder)) = let e : b ∷ [] ≡ t ∷ folder.1.0 = folder.1.1 in let head : t ≡ b = cc in ap (λ (x : ℕ). x ∷ []) head
    forth (t ∷ u ∷ us) (inr (inl folder)) = absurd (let e : b ∷ [] ≡ t ∷ u ∷ (us ++ folder.1.0) = folder.1.1 in cc)
    forth text (inr (inr folder)) = absurd (let e : true ≡ false = sym folder.0 ∙ is in cc)

-- a byte in front of the first part, which isn't empty
meets_front : (text : List ℕ) (b q : ℕ) (qs : List ℕ) (more : List (List ℕ)) → Meets text ((b ∷ q ∷ qs) ∷ more) ↔ ((remainder : List ℕ) × (text ≡ b ∷ remainder) × Meets remainder ((q ∷ qs) ∷ more))
meets_front text b q qs [] = go (ends_with 47 (q ∷ qs))
  where
    go : (slash : Bool) → MatchBool slash (Begins text (b ∷ q ∷ qs)) (text ≡ b ∷ q ∷ qs) ↔ ((remainder : List ℕ) × (text ≡ b ∷ remainder) × MatchBool slash (Begins remainder (q ∷ qs)) (remainder ≡ q ∷ qs))
    go true = (λ w. (q ∷ qs ++ w.0, w.1, (w.0, refl)), λ w. (w.2.0, w.1 ∙ ap (λ (x : List ℕ). b ∷ x) w.2.1))
    go false = (λ e. (q ∷ qs, e, refl), λ w. w.1 ∙ ap (λ (x : List ℕ). b ∷ x) w.2)
meets_front text b q qs (next ∷ more) = (λ w. (q ∷ qs ++ w.0, w.1, (w.0, refl, w.2)), λ w. (w.2.0, w.1 ∙ ap (λ (x : List ℕ). b ∷ x) w.2.1, w.2.2))

-- one byte of the value, and the rest
meets_more : (text : List ℕ) (b c : ℕ) (cs : List ℕ) (slash : Bool) (q : ℕ) (qs : List ℕ) (more : List (List ℕ)) → (b == 47) ≡ slash → ((t : List ℕ) → AreNested t (c ∷ cs) ↔ Meets t ((q ∷ qs) ∷ more)) → AreNested text (b ∷ c ∷ cs) ↔ Meets text (if slash then (b ∷ []) ∷ (q ∷ qs) ∷ more else (b ∷ q ∷ qs) ∷ more)
meets_more text b c cs true q qs more is rest = (λ n. forth (nested_follows text b c cs n), λ m. follows_nested text b c cs (back m))
  where
    forth : Follows text b (c ∷ cs) → Meets text ((b ∷ []) ∷ (q ∷ qs) ∷ more)
    forth (remainder, is_front, inl ends) = (remainder, is_front, inl ends.1)
    forth (remainder, is_front, inr nested) = (remainder, is_front, inr ((rest remainder).0 nested))

    back : Meets text ((b ∷ []) ∷ (q ∷ qs) ∷ more) → Follows text b (c ∷ cs)
    back (remainder, is_front, inl ends) = (remainder, is_front, inl (is, ends))
    back (remainder, is_front, inr meets) = (remainder, is_front, inr ((rest remainder).1 meets))
meets_more text b c cs false q qs more is rest = (λ n. (meets_front text b q qs more).1 (forth (nested_follows text b c cs n)), λ m. let w = (meets_front text b q qs more).0 m in follows_nested text b c cs (w.0, w.1, inr ((rest w.0).1 w.2)))
  where
    forth : Follows text b (c ∷ cs) → (remainder : List ℕ) × (text ≡ b ∷ remainder) × Meets remainder ((q ∷ qs) ∷ more)
    forth (remainder, is_front, inl ends) = absurd (let e : true ≡ false = sym ends.0 ∙ is in cc)
    forth (remainder, is_front, inr nested) = (remainder, is_front, (rest remainder).0 nested)

-- what is nested in a value that isn't empty meets its parts
nested_meets : (b : ℕ) (bs text : List ℕ) → AreNested text (b ∷ bs) ↔ Meets text (parts_of (b ∷ bs))
nested_meets b [] text = go (b == 47)
  where
    go : (slash : Bool) → AreNested text (b ∷ []) ↔ Meets text (if slash then (b ∷ []) ∷ [] else (b ∷ []) ∷ [])
    go true = nested_one text b (b == 47) refl
    go false = nested_one text b (b == 47) refl
nested_meets b (c ∷ cs) text = go (parts_of (c ∷ cs)) (parted c cs) (λ t. nested_meets c cs t)
  where
    go : (parts : List (List ℕ)) → IsParted parts → ((t : List ℕ) → AreNested t (c ∷ cs) ↔ Meets t parts) → AreNested text (b ∷ c ∷ cs) ↔ Meets text (if b == 47 then (b ∷ []) ∷ parts else with_front b parts)
    go ((q ∷ qs) ∷ more) filled rest = meets_more text b c cs (b == 47) q qs more refl rest
    go _ none rest = absurd none

-- ---- from a place on

-- the lengths of what a place divides
left_len : (text : List ℕ) (place : ℕ) (part remainder : List ℕ) → place ≤ length text → drop place text ≡ part ++ remainder → length text ≡ place + length part + length remainder
left_len text place part remainder fits goes = omega (arith, length-drop place text, length-append part remainder, ap length goes)

-- what is left after a part
left_after : (text : List ℕ) (place : ℕ) (part remainder : List ℕ) → drop place text ≡ part ++ remainder → drop (place + length part) text ≡ remainder
left_after text place part remainder goes = sym (drop-drop (length part) place text) ∙ ap (drop (length part)) goes ∙ drop_at part remainder (length part) refl

follow_parts_meets : (parts : List (List ℕ)) (text : List ℕ) (place : ℕ) → place ≤ length text → AlongParts text place parts ↔ Meets (drop place text) parts
follow_parts_meets [] text place fits = (λ w. w, λ w. w)
follow_parts_meets (part ∷ []) text place fits = go (ends_with 47 part)
  where
    go : (slash : Bool) → MatchBool slash ((place + length part ≤ length text) × Stands text place part) ((length text ≡ place + length part) × Stands text place part) ↔ MatchBool slash (Begins (drop place text) part) (drop place text ≡ part)
    go true = (λ w. w.1, λ w. (let h = left_len text place part w.0 fits w.1 in omega arith, w))
    go false = (λ w. forth w.0 w.1.0 w.1.1, λ e. (let h = left_len text place part [] fits (e ∙ sym (append-nil part)) in omega arith, ([], e ∙ sym (append-nil part))))
      where
        forth : length text ≡ place + length part → (remainder : List ℕ) → drop place text ≡ part ++ remainder → drop place text ≡ part
        forth ends remainder goes =
            let h = left_len text place part remainder fits goes in
            let none : remainder ≡ [] = nil_from_length remainder (omega arith) in
            goes ∙ ap (λ (x : List ℕ). part ++ x) none ∙ append-nil part
follow_parts_meets (part ∷ next ∷ more) text place fits = (λ w. (w.1.0, w.1.1, forth w.0 w.1.0 w.1.1 (λ h. follow_parts_meets (next ∷ more) text (place + length part) h) w.2), λ w. (let h = left_len text place part w.0 fits w.1 in omega arith, (w.0, w.1), back w.0 w.1 (λ h. follow_parts_meets (next ∷ more) text (place + length part) h) w.2))
  where
    P : List ℕ → Type 0
    P x = Meets x (next ∷ more)

    -- of the parts that come next
    Rest : Type 0
    Rest = place + length part ≤ length text → AlongParts text (place + length part) (next ∷ more) ↔ Meets (drop (place + length part) text) (next ∷ more)

    forth : place + length part ≤ length text → (remainder : List ℕ) → drop place text ≡ part ++ remainder → Rest → (length text ≡ place + length part) ⊎ AlongParts text (place + length part) (next ∷ more) → (remainder ≡ []) ⊎ Meets remainder (next ∷ more)
    forth fits_part remainder goes rest (inl ends) = inl (let h = left_len text place part remainder fits goes in nil_from_length remainder (omega arith))
    forth fits_part remainder goes rest (inr follow_parts) = inr (subst P (left_after text place part remainder goes) ((rest fits_part).0 follow_parts))

    back : (remainder : List ℕ) → drop place text ≡ part ++ remainder → Rest → (remainder ≡ []) ⊎ Meets remainder (next ∷ more) → (length text ≡ place + length part) ⊎ AlongParts text (place + length part) (next ∷ more)
    back remainder goes rest (inl none) = inl (let h = left_len text place part remainder fits goes in let n : length remainder ≡ 0 = ap length none in omega arith)
    back remainder goes rest (inr meets) =
        let h = left_len text place part remainder fits goes in
        inr ((rest (omega arith)).1 (subst P (sym (left_after text place part remainder goes)) meets))

-- ---- both

-- a value that isn't empty
pub nested_follow_parts : (text : List ℕ) (b : ℕ) (bs : List ℕ) → AreNested text (b ∷ bs) ↔ AlongParts text 0 (parts_of (b ∷ bs))
nested_follow_parts text b bs =
    let h = nested_meets b bs text in
    let g = follow_parts_meets (parts_of (b ∷ bs)) text 0 (omega arith) in
    (λ n. g.1 (h.0 n), λ w. h.1 (g.0 w))

-- the empty value
pub nested_empty : (text : List ℕ) → AreNested text [] ↔ (length text ≡ 0)
nested_empty text = (forth text, λ e. inl (nil_from_length text e))
  where
    forth : (text : List ℕ) → AreNested text [] → length text ≡ 0
    forth text (inl same) = ap length same
    forth [] (inr (inl folder)) = refl
    forth (t ∷ ts) (inr (inl folder)) = absurd (let e : [] ≡ t ∷ (ts ++ folder.1.0) = folder.1.1 in cc)
    forth text (inr (inr folder)) = absurd (let e : false ≡ true = folder.0 in cc)
