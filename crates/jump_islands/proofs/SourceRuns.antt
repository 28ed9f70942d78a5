-- A lowered program runs as its source does.
use Rattle.std.proofs.Common.{◌≡◌, ℕ, zero, suc, ◌+◌, ◌-◌, Bool, true, false, List, [], ◌∷◌, length, reverse, Option, Some, None, ◌⊎◌, inl, inr, refl, arith, subst}
use Rattle.std.proofs.lemmas.Option.{slice_get_past, slice_get_cases}
use Rattle.std.proofs.Math.ListN.{length-reverse}
use Rattle.std.specs.Option.{IsSomeAnd, option_map}
use Rattle.std.specs.List.{slice_get}
use Rattle.bpf_code.specs.declared.instruction.Ins.{Ins}
use Rattle.bpf_code.specs.declared.operation.Op.{Op}
use Rattle.bpf_code.specs.declared.operation.Op.TheVariants.{LoadImage, LoadIndexed, LoadScratch, IndexScratch, IndexHeader, Compute, Jump, Branch}
use Rattle.bpf_code.specs.declared.operation.Width.TheVariants.{Byte}
use Rattle.bpf_code.specs.declared.operation.Operand.TheVariants.{Constant, Index}
use Rattle.bpf_code.specs.Table.{op_of}
use Rattle.bpf_code.specs.Loads.{load}
use Rattle.bpf_code.specs.Effects.{Effect, SetA, SetX, Skip, Finish, or_finish, result_of, index_operand, passes, branch, effect_of}
use Rattle.bpf_code.specs.Steps.{State, Next, Goes, Stops, after, step_at, step_of, Arrives, EndsFrom}
use Rattle.jump_islands.specs.Source.{is_plain_op, jump_over}
use Rattle.jump_islands.specs.Tails.{TailTree, len, height}
use Rattle.jump_islands.proofs.ListPlaces.{slice_get-reverse}
use Rattle.jump_islands.proofs.TailFacts.{Reached, LeadsTo, PutAt, IsPut, AreLowered}

-- ---- places

-- what the runs of a tail need
pub record Lowers (source : List Ins) (t : TailTree) : Type 0 where
  pub last : height t 0 ≡ 0
  pub lowered : AreLowered t source
  pub top : height t (length source) ≡ len t

abbrev pub program_of : TailTree → List Ins
program_of t = reverse t.program

-- a place of a source of n instructions, and its place in the program
abbrev pub Tied : ℕ → TailTree → ℕ → ℕ → Type 0
Tied n t p q = q + height t (n - p) ≡ len t

-- the place itself, or an island that leads to it
abbrev pub Near : ℕ → TailTree → ℕ → ℕ → Type 0
Near n t p q = Tied n t p q ⊎ ((k : ℕ) × (slice_get (program_of t) q ≡ Some (jump_over k)) × Tied n t p (q + 1 + k))

pub near : (n : ℕ) (t : TailTree) (p q i from : ℕ) → n - p ≡ i → q + from ≡ len t → Reached t i from → Near n t p q
near n t p q i from e here (inl h) = inl (rw e (omega arith))
near n t p q i from e here (inr (k, is, h)) =
    inr (k, slice_get-reverse t.program (height t i + k) q (jump_over k) is (omega arith), rw e (omega arith))

pub tied_start : (source : List Ins) (t : TailTree) → Lowers source t → Tied (length source) t 0 0
tied_start source t low =
    let e : length source - 0 ≡ length source = omega arith in
    let top = low.top in
    rw e (omega arith)

-- ---- the instructions at a place of the source and at its place in the program

-- the program's for the source's
abbrev pub There : ℕ → TailTree → Option Op → Ins → ℕ → ℕ → Type 0
There n t (Some Jump) ins p q =
    (over : ℕ) × (slice_get (program_of t) q ≡ Some (jump_over over)) × Tied n t (p + 1 + ins.k) (q + 1 + over)
There n t (Some (Branch test operand)) ins p q =
    (jt : ℕ) × (jf : ℕ) × (slice_get (program_of t) q ≡ Some (record { code = ins.code; jt = jt; jf = jf; k = ins.k }))
    × Near n t (p + 1 + ins.jt) (q + 1 + jt) × Near n t (p + 1 + ins.jf) (q + 1 + jf)
There n t _ ins p q = (slice_get (program_of t) q ≡ Some ins) × Tied n t (p + 1) (q + 1)

pub put_at : (t : TailTree) (source : List Ins) (p : ℕ) (ins : Ins) → AreLowered t source → slice_get source p ≡ Some ins → (i : ℕ) × (p + i + 1 ≡ length source) × IsPut t ins i
put_at t [] p ins h at = cc
put_at t (x ∷ more) zero ins h at =
    let e : x ≡ ins = cc in
    (length more, omega arith, subst (λ (y : Ins). IsPut t y (length more)) e h.0)
put_at t (x ∷ more) (suc p) ins h at = let r = put_at t more p ins h.1 at in (r.0, omega arith, r.2)

side : (n : ℕ) (t : TailTree) (p q i at d over : ℕ) → p + i + 1 ≡ n → q + at + 1 ≡ len t → LeadsTo t (i - d) at over → Near n t (p + 1 + d) (q + 1 + over)
side n t p q i at d over e here (from, leads, is) =
    near n t (p + 1 + d) (q + 1 + over) (i - d) from (omega arith) (omega arith) leads

there_op : (n : ℕ) (t : TailTree) (p q i at : ℕ) (ins : Ins) (o : Option Op) → p + i + 1 ≡ n → q + at + 1 ≡ len t → PutAt t o ins i at → There n t o ins p q
there_op n t p q i at ins (Some Jump) e here (over, is, to) =
    let f : n - (p + 1 + ins.k) ≡ i - ins.k = omega arith in
    (over, slice_get-reverse t.program at q (jump_over over) is here, rw f (omega arith))
there_op n t p q i at ins (Some (Branch test operand)) e here (jt, jf, is, hit, miss) =
    (jt, jf, slice_get-reverse t.program at q _ is here, side n t p q i at ins.jt jt e here hit, side n t p q i at ins.jf jf e here miss)
there_op n t p q i at ins _ e here put =
    let f : n - (p + 1) ≡ i = omega arith in
    let to = put.1 in
    (slice_get-reverse t.program at q ins put.0 here, rw f (omega arith))

pub there : (source : List Ins) (t : TailTree) (p q : ℕ) → Lowers source t → Tied (length source) t p q → ((slice_get source p ≡ None) × (slice_get (program_of t) q ≡ None)) ⊎ ((ins : Ins) × (slice_get source p ≡ Some ins) × There (length source) t (op_of ins.code) ins p q)
there source t p q low tied = elim ((slice_get_cases source p).1) [
  | inl (ins, inside, is, same) ↦ (
      let put = put_at t source p ins low.lowered is in
      let f : length source - p ≡ put.0 + 1 = omega (arith, put.1) in
      let here : q + height t (put.0 + 1) ≡ len t = rw f at tied in
      let above = put.2.above in
      inr (ins, is, there_op (length source) t p q put.0 put.2.at ins (op_of ins.code) put.1 (omega arith) put.2.is))
  | inr (past, none) ↦ (
      let f : length source - p ≡ 0 = omega arith in
      let here : q + height t 0 ≡ len t = rw f at tied in
      let last = low.last in
      inl (none, slice_get_past (program_of t) q (omega (arith, length-reverse t.program))))
]

-- ---- what an instruction that is no jump does

abbrev PlainEffect : Option Effect → Type 0
PlainEffect (Some (Skip d)) = ⊥
PlainEffect _ = Unit {0}

plain_or_finish : (effect : ℕ → Effect) (o : Option ℕ) → ((v : ℕ) → PlainEffect (Some (effect v))) → PlainEffect (Some (or_finish effect o))
plain_or_finish effect None h = tt
plain_or_finish effect (Some v) h = h v

plain_map : (effect : ℕ → Effect) (o : Option ℕ) → ((v : ℕ) → PlainEffect (Some (effect v))) → PlainEffect (option_map effect o)
plain_map effect None h = tt
plain_map effect (Some v) h = h v

plain_effect : (op : Op) (ins : Ins) (image : List ℕ) (a x : ℕ) (word : Option ℕ) → is_plain_op (Some op) ≡ true → PlainEffect (effect_of op ins image a x word)
plain_effect (LoadImage width) ins image a x word h = plain_or_finish SetA (load width image ins.k) (λ v. tt)
plain_effect (LoadIndexed width) ins image a x word h = plain_or_finish SetA (load width image (x + ins.k)) (λ v. tt)
plain_effect LoadScratch ins image a x word h = plain_map SetA word (λ v. tt)
plain_effect IndexScratch ins image a x word h = plain_map SetX word (λ v. tt)
plain_effect IndexHeader ins image a x word h = plain_or_finish _ (load Byte image ins.k) (λ v. tt)
plain_effect (Compute f Constant) ins image a x word h = plain_map SetA (result_of f a ins.k) (λ v. tt)
plain_effect (Compute f Index) ins image a x word h = plain_or_finish SetA (result_of f a (index_operand f x)) (λ v. tt)
plain_effect Jump ins image a x word h = cc
plain_effect (Branch test operand) ins image a x word h = cc
plain_effect _ ins image a x word h = tt

-- ---- one step of the source, in the program

-- the configuration at another place
abbrev pub state_at : State → ℕ → State
state_at s q = record { place = q; a = s.a; x = s.x; words = s.words }

-- the program's step for the source's
abbrev Led : ℕ → TailTree → Option Next → Option Next → Type 0
Led n t None other = other ≡ None
Led n t (Some (Stops v)) other = other ≡ Some (Stops v)
Led n t (Some (Goes u)) other = (r : ℕ) × Near n t u.place r × (other ≡ Some (Goes (state_at u r)))

plain_led : (n : ℕ) (t : TailTree) (s : State) (q k : ℕ) (effect : Option Effect) → PlainEffect effect → Tied n t (s.place + 1) (q + 1) → Led n t (option_map (after s k) effect) (option_map (after (state_at s q) k) effect)
plain_led n t s q k None plain next = refl
plain_led n t s q k (Some (Skip d)) plain next = absurd plain
plain_led n t s q k (Some (Finish v)) plain next = refl
plain_led n t s q k (Some _) plain next = (q + 1, inl next, refl)

branch_led : (n : ℕ) (t : TailTree) (s : State) (q jt jf : ℕ) (ins : Ins) (b : Bool) → Near n t (s.place + 1 + ins.jt) (q + 1 + jt) → Near n t (s.place + 1 + ins.jf) (q + 1 + jf) → Led n t (Some (after s ins.k (branch b ins))) (Some (after (state_at s q) ins.k (branch b (record { code = ins.code; jt = jt; jf = jf; k = ins.k }))))
branch_led n t s q jt jf ins true hit miss = (q + 1 + jt, hit, refl)
branch_led n t s q jt jf ins false hit miss = (q + 1 + jf, miss, refl)

led_op : (n : ℕ) (t : TailTree) (image : List ℕ) (s : State) (q : ℕ) (ins : Ins) (o : Option Op) → op_of ins.code ≡ o → There n t o ins s.place q → Led n t (step_at ins image s) (step_of (program_of t) image (state_at s q))
led_op n t image s q ins None row put = rw (put.0, row) refl
led_op n t image s q ins (Some Jump) row (over, is, to) = rw (is, row) (q + 1 + over, inl to, refl)
led_op n t image s q ins (Some (Branch test Constant)) row (jt, jf, is, hit, miss) =
    rw (is, row) (branch_led n t s q jt jf ins (passes test s.a ins.k) hit miss)
led_op n t image s q ins (Some (Branch test Index)) row (jt, jf, is, hit, miss) =
    rw (is, row) (branch_led n t s q jt jf ins (passes test s.a s.x) hit miss)
led_op n t image s q ins (Some op) row put =
    let plain = plain_effect op ins image s.a s.x (s.words ins.k) refl in
    rw (put.0, row) (plain_led n t s q ins.k (effect_of op ins image s.a s.x (s.words ins.k)) plain put.1)

led : (source : List Ins) (t : TailTree) (image : List ℕ) (s : State) (q : ℕ) → Lowers source t → Tied (length source) t s.place q → Led (length source) t (step_of source image s) (step_of (program_of t) image (state_at s q))
led source t image s q low tied = elim (there source t s.place q low tied) [
  | inl (none, past) ↦ rw (none, past) refl
  | inr (ins, at, is) ↦ rw at (led_op (length source) t image s q ins (op_of ins.code) refl is)
]

-- ---- runs

ends_next : (N : ℕ) (t : TailTree) (v n : ℕ) (E : State → Type 0) (F : ℕ → State → Type 0) (next other : Option Next) → Led N t next other → IsSomeAnd next (λ u. Arrives u v n E) → ((u : State) (r : ℕ) → Near N t u.place r → E u → (m : ℕ) × F m (state_at u r)) → (m : ℕ) × IsSomeAnd other (λ u. Arrives u v m (F m))
ends_next N t v n E F None other led h later = absurd h
ends_next N t v n E F (Some (Stops w)) other led h later = (0, rw led (refl, h.1))
ends_next N t v n E F (Some (Goes u)) other (r, near, is) h later = let g = later u r near h in (g.0, rw is g.1)

pub ends_on : (source : List Ins) (t : TailTree) (image : List ℕ) (v n : ℕ) (s : State) (q : ℕ) → Lowers source t → Near (length source) t s.place q → EndsFrom source image v n s → (m : ℕ) × EndsFrom (program_of t) image v m (state_at s q)
ends_on source t image v zero s q low near h = absurd h
ends_on source t image v (suc n) s q low (inl tied) h =
    let g = ends_next (length source) t v n (EndsFrom source image v n) (EndsFrom (program_of t) image v) _ _ (led source t image s q low tied) h (λ u r near later. ends_on source t image v n u r low near later) in
    (suc g.0, g.1)
ends_on source t image v (suc n) s q low (inr (k, is, tied)) h =
    let g = ends_next (length source) t v n (EndsFrom source image v n) (EndsFrom (program_of t) image v) _ _ (led source t image s (q + 1 + k) low tied) h (λ u r near later. ends_on source t image v n u r low near later) in
    (suc (suc g.0), rw is g.1)

only_next : (N : ℕ) (t : TailTree) (v m : ℕ) (E : ℕ → State → Type 0) (F : State → Type 0) (next other : Option Next) → Led N t next other → IsSomeAnd other (λ u. Arrives u v m F) → ((u : State) (r : ℕ) → Near N t u.place r → F (state_at u r) → (n : ℕ) × E n u) → (n : ℕ) × IsSomeAnd next (λ u. Arrives u v n (E n))
only_next N t v m E F None other led h later = absurd (rw led at h)
only_next N t v m E F (Some (Stops w)) other led h later = let g = rw led at h in (0, (refl, g.1))
only_next N t v m E F (Some (Goes u)) other (r, near, is) h later = later u r near (rw is at h)

pub only_on : (source : List Ins) (t : TailTree) (image : List ℕ) (v m : ℕ) (s : State) (q : ℕ) → Lowers source t → Near (length source) t s.place q → EndsFrom (program_of t) image v m (state_at s q) → (n : ℕ) × EndsFrom source image v n s
only_on source t image v zero s q low near h = absurd h
only_on source t image v (suc m) s q low (inl tied) h =
    let g = only_next (length source) t v m (EndsFrom source image v) (EndsFrom (program_of t) image v m) _ _ (led source t image s q low tied) h (λ u r near later. only_on source t image v m u r low near later) in
    (suc g.0, g.1)
only_on source t image v (suc m) s q low (inr (k, is, tied)) h =
    only_on source t image v m s (q + 1 + k) low (inl tied) (rw is at h)
