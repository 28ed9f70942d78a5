-- Claims of which no two are the same connection's on the same name.
use Rattle.std.specs.Prelude.{◌≡◌, ◌<◌, ◌+◌, ℕ, zero, suc, Bool, true, false, not, cond, List, [], ◌∷◌, ◌++◌, Some, filter, length, take, get_or, slice_get, remove, insert, ◌||◌, if◌then◌else◌}
use Rattle.std.specs.List.{list_any, IsDistinct, AllByRecursion, position_or_len}
use Rattle.std.specs.Option.{option_map_or}
use Rattle.std.proofs.Common.{refl, sym, ap, ◌∙◌, arith}
use Rattle.std.proofs.lemmas.Bool.{false≢true}
use Rattle.indexmap.specs.IndexMap.{move_index}
use Rattle.indexmap.specs.IndexSet.{insert_key}
use Rattle.owners.specs.declared.claim.SlotClaim.{SlotClaim}
use Rattle.owners.specs.Kept.{is_slot_claim, slot_with_flags, claim_put}
use Rattle.owners.specs.SameClaim.{same_claim, same_claim_equiv}
use Rattle.owners.proofs.Lists.{Each-always, any-map}

holds_at : {X : Type 0} (P : X → Type 0) (xs : List X) (i : ℕ) (d : X) → i < length xs → AllByRecursion P xs → P (get_or xs i d)
holds_at P [] i d h a = absurd (omega arith)
holds_at P (x ∷ xs) zero d h a = a.0
holds_at P (x ∷ xs) (suc i) d h a = holds_at P xs i d (omega arith) a.1

-- a claim isn't among those before it
before : (xs : List SlotClaim) (i : ℕ) (d : SlotClaim) → i < length xs → IsDistinct same_claim xs → list_any (same_claim (get_or xs i d)) (take i xs) ≡ false
unfolding IsDistinct
before [] i d h a = absurd (omega arith)
before (x ∷ xs) zero d h a = refl
before (x ∷ xs) (suc i) d h a =
    let y = get_or xs i d in
    let other : same_claim y x ≡ false = same_claim_equiv.symm y x ∙ holds_at (λ (z : SlotClaim). same_claim x z ≡ false) xs i d (omega arith) a.0 in
    ap (λ b. b || list_any (same_claim y) (take i xs)) other ∙ before xs i d (omega arith) a.1

none_kept : {X : Type 0} (p r : X → Bool) (xs : List X) → list_any p xs ≡ false → list_any p (filter r xs) ≡ false
none_kept p r [] h = refl
none_kept p r (x ∷ xs) h = by (p x) (r x) refl (none_kept p r xs) h
  where
    by : (b c : Bool) → p x ≡ b → (list_any p xs ≡ false → list_any p (filter r xs) ≡ false) → (b || list_any p xs) ≡ false → list_any p (cond c (x ∷ filter r xs) (filter r xs)) ≡ false
    by true c e ih k = absurd (false≢true (sym k))
    by false true e ih k = rw e (ih k)
    by false false e ih k = ih k

-- nor among those of them that stay
pub not_staying : (r : SlotClaim → Bool) (xs : List SlotClaim) (i : ℕ) (d : SlotClaim) → i < length xs → IsDistinct same_claim xs → list_any (same_claim (get_or xs i d)) (filter r (take i xs)) ≡ false
not_staying r xs i d h a = none_kept (same_claim (get_or xs i d)) r (take i xs) (before xs i d h a)

-- nor is it with flags of its own
abbrev flagged_claim : ℕ → ℕ → ℕ → SlotClaim → SlotClaim
flagged_claim slot connection flags c = if is_slot_claim slot connection c then record c { flags = flags } else c

same_flagged : (slot connection flags : ℕ) (x y : SlotClaim) (b c : Bool) → is_slot_claim (if b then record x { flags = flags } else x).slot (if b then record x { flags = flags } else x).connection (if c then record y { flags = flags } else y) ≡ same_claim x y
same_flagged slot connection flags x y true true = refl
same_flagged slot connection flags x y true false = refl
same_flagged slot connection flags x y false true = refl
same_flagged slot connection flags x y false false = refl

pub not_flagged : (slot connection flags : ℕ) (xs : List SlotClaim) (i : ℕ) (d : SlotClaim) → i < length xs → IsDistinct same_claim xs → list_any (same_claim (flagged_claim slot connection flags (get_or xs i d))) (slot_with_flags slot connection flags (take i xs)) ≡ false
not_flagged slot connection flags xs i d h a =
    let x = get_or xs i d in
    any-map (same_claim (flagged_claim slot connection flags x)) (same_claim x) (flagged_claim slot connection flags) (take i xs)
    (Each-always (λ (y : SlotClaim). same_claim (flagged_claim slot connection flags x) (flagged_claim slot connection flags y) ≡ same_claim x y) (λ y. same_flagged slot connection flags x y (is_slot_claim slot connection x) (is_slot_claim slot connection y)) (take i xs))
    ∙ before xs i d h a

-- ---- a claim that is put last or first

pub put_new : (claim : SlotClaim) (claims : List SlotClaim) → list_any (same_claim claim) claims ≡ false → claim_put claim claims ≡ claims ++ claim ∷ []
put_new claim claims h = rw h refl

last_place : {X : Type 0} (p : X → Bool) (xs : List X) → list_any p xs ≡ false → position_or_len p xs ≡ length xs
last_place p [] h = refl
last_place p (x ∷ xs) h = by (p x) (last_place p xs) h
  where
    by : (b : Bool) → (list_any p xs ≡ false → position_or_len p xs ≡ length xs) → (b || list_any p xs) ≡ false → cond (not b) (1 + position_or_len p xs) 0 ≡ suc (length xs)
    by true ih k = absurd (false≢true (sym k))
    by false ih k = let more : 1 + length xs ≡ suc (length xs) = omega arith in ap (λ n. 1 + n) (ih k) ∙ more

get_last : {X : Type 0} (xs : List X) (x : X) → slice_get (xs ++ x ∷ []) (length xs) ≡ Some x
get_last [] x = refl
get_last (y ∷ xs) x = get_last xs x

without_last : {X : Type 0} (xs : List X) (x : X) → remove (xs ++ x ∷ []) (length xs) ≡ xs
without_last [] x = refl
without_last (y ∷ xs) x = ap (λ l. y ∷ l) (without_last xs x)

pub put_first : (claim : SlotClaim) (claims : List SlotClaim) → list_any (same_claim claim) claims ≡ false → move_index (insert_key same_claim claims claim) (position_or_len (same_claim claim) claims) 0 ≡ claim ∷ claims
put_first claim claims h =
    let put = claims ++ claim ∷ [] in
    ap (λ b. move_index (if b then claims else put) (position_or_len (same_claim claim) claims) 0) h
    ∙ ap (λ n. move_index put n 0) (last_place (same_claim claim) claims h)
    ∙ ap (λ o. option_map_or (λ x. insert (remove put (length claims)) 0 x) o put) (get_last claims claim)
    ∙ ap (λ l. claim ∷ l) (without_last claims claim)
