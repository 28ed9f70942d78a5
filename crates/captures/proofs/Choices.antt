-- What a choice is, once its test is known, and what it keeps where its test stays.
use Rattle.std.proofs.Common.{◌≡◌, Bool, true, false, cond, refl}
use Rattle.std.specs.Prelude.{◌&&◌}

pub holds : {X : Type 0} (test : Bool) (x y : X) → test ≡ true → cond test x y ≡ x
holds true x y e = refl
holds false x y e = absurd cc

pub fails : {X : Type 0} (test : Bool) (x y : X) → test ≡ false → cond test x y ≡ y
fails true x y e = absurd cc
fails false x y e = refl

pub both_true : (a b : Bool) → a && b ≡ true → (a ≡ true) × (b ≡ true)
both_true true true e = (refl, refl)
both_true true false e = absurd cc
both_true false true e = absurd cc
both_true false false e = absurd cc

-- what both sides have
pub either_has : {X : Type 0} (P : X → Type 0) (test : Bool) (x y : X) → (test ≡ true → P x) → (test ≡ false → P y) → P (cond test x y)
either_has P true x y left right = left refl
either_has P false x y left right = right refl

-- An answer that was done stays.
abbrev pub Stays : {X : Type 0} → (X → Bool) → X → X → Type 0
Stays done x y = done x ≡ true → y ≡ x

pub stays_where_same : {X : Type 0} (done : X → Bool) (test other : Bool) (x y u v : X) → other ≡ test → (test ≡ true → Stays done x u) → (test ≡ false → Stays done y v) → Stays done (cond test x y) (cond other u v)
stays_where_same done true true x y u v same left right settled = left refl settled
stays_where_same done true false x y u v same left right settled = absurd cc
stays_where_same done false true x y u v same left right settled = absurd cc
stays_where_same done false false x y u v same left right settled = right refl settled

-- past an answer that isn't done
pub stays_past : {X : Type 0} (done : X → Bool) (test other : Bool) (wait x y : X) → done wait ≡ false → (test ≡ false → other ≡ false) → (test ≡ false → Stays done x y) → Stays done (cond test wait x) (cond other wait y)
stays_past done true other wait x y never grows inner settled = absurd cc
stays_past done false true wait x y never grows inner settled = absurd (let e : true ≡ false = grows refl in cc)
stays_past done false false wait x y never grows inner settled = inner refl settled
