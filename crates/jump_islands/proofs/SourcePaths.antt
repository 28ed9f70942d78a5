-- A lowered program is accepted where its source is well made.
use Rattle.std.proofs.Common.{◌≡◌, ℕ, ◌+◌, ◌-◌, ◌<◌, ◌≤◌, true, List, [], ◌∷◌, length, Option, Some, None, ◌⊎◌, inl, inr, refl, sym, ap, ◌∙◌, arith}
use Rattle.std.proofs.lemmas.Bool.{or_cases, or_left, or_right}
use Rattle.std.proofs.lemmas.Option.{slice_get_cases, slice_get_within}
use Rattle.std.proofs.Math.ListN.{length-reverse}
use Rattle.std.specs.Option.{IsSomeAnd}
use Rattle.std.specs.List.{slice_get}
use Rattle.bpf_code.specs.declared.instruction.Ins.{Ins}
use Rattle.bpf_code.specs.declared.operation.Op.{Op}
use Rattle.bpf_code.specs.declared.operation.Op.TheVariants.{Jump, Branch, ReturnConstant, ReturnA}
use Rattle.bpf_code.specs.Table.{op_of}
use Rattle.bpf_code.specs.Flow.{At, Leads, Follows, IsPath, Reads, stores_at, stored_on}
use Rattle.bpf_code.specs.Program.{IsFine, IsReturn, WellFormed}
use Rattle.jump_islands.specs.Source.{is_plain_op, AreWellMade}
use Rattle.jump_islands.specs.Tails.{TailTree, len, height}
use Rattle.jump_islands.proofs.ListPlaces.{slice_get-reverse}
use Rattle.jump_islands.proofs.TailFacts.{PutAt, AreLowered, IsTail, positive}
use Rattle.jump_islands.proofs.SourceRuns.{Lowers, program_of, Near, near, tied_start, There, put_at, there}

-- ---- instructions that are no jumps

plain_leads : (o : Option Op) (ins : Ins) (b q p : ℕ) → is_plain_op o ≡ true → IsSomeAnd o (λ op. Leads b q op ins) → (q ≡ b + 1) × IsSomeAnd o (λ op. Leads p (p + 1) op ins)
plain_leads None ins b q p plain h = absurd h
plain_leads (Some Jump) ins b q p plain h = cc
plain_leads (Some (Branch test operand)) ins b q p plain h = cc
plain_leads (Some ReturnConstant) ins b q p plain h = absurd h
plain_leads (Some ReturnA) ins b q p plain h = absurd h
plain_leads (Some _) ins b q p plain h = (h, refl)

plain_fine : (o : Option Op) (ins : Ins) (len place other at : ℕ) → is_plain_op o ≡ true → IsSomeAnd o (λ op. IsFine len place op ins) → IsSomeAnd o (λ op. IsFine other at op ins)
plain_fine None ins len place other at plain fine = absurd fine
plain_fine (Some Jump) ins len place other at plain fine = cc
plain_fine (Some (Branch test operand)) ins len place other at plain fine = cc
plain_fine (Some _) ins len place other at plain fine =
    record { constant = fine.constant; scratch = fine.scratch; jump = tt; load = fine.load }

-- ---- a path of the program, in the source

-- a path of the source for one of the program: what the source's stores on its path is stored on the program's
record Way (source : List Ins) (t : TailTree) (q : ℕ) (earlier : List ℕ) : Type 0 where
  place : ℕ
  before : List ℕ
  path : IsPath source place before
  kept : (k : ℕ) → stored_on source k before ≡ true → stored_on (program_of t) k earlier ≡ true
  near : Near (length source) t place q

-- one more place
way_to : (source : List Ins) (t : TailTree) (b q p : ℕ) (earlier : List ℕ) → (w : Way source t b earlier) → ((k : ℕ) → stores_at source k w.place ≡ stores_at (program_of t) k b) → Follows source w.place p → Near (length source) t p q → Way source t q (b ∷ earlier)
way_to source t b q p earlier w same follows near = record {
  place = p;
  before = w.place ∷ w.before;
  path = (follows, w.path);
  kept = λ k h. elim (or_cases (stores_at source k w.place) (stored_on source k w.before) h) [
    | inl here ↦ or_left _ _ (sym (same k) ∙ here)
    | inr later ↦ or_right _ _ (w.kept k later)
  ];
  near = near;
}

way_op : (source : List Ins) (t : TailTree) (b q : ℕ) (earlier : List ℕ) (ins : Ins) (o : Option Op) → (w : Way source t b earlier) → slice_get source w.place ≡ Some ins → op_of ins.code ≡ o → There (length source) t o ins w.place b → Follows (program_of t) b q → Way source t q (b ∷ earlier)
way_op source t b q earlier ins (Some Jump) w at row (over, is, to) follows =
    let e : q ≡ b + 1 + over = rw is at follows in
    way_to source t b q (w.place + 1 + ins.k) earlier w (λ k. rw (at, row, is) refl) (rw (at, row) refl) (inl (rw e to))
way_op source t b q earlier ins (Some (Branch test operand)) w at row (jt, jf, is, hit, miss) follows =
    let to : (q ≡ b + 1 + jt) ⊎ (q ≡ b + 1 + jf) = rw (is, row) at follows in
    elim to [
      | inl e ↦ way_to source t b q (w.place + 1 + ins.jt) earlier w (λ k. rw (at, is, row) refl) (rw (at, row) (inl refl)) (rw e hit)
      | inr e ↦ way_to source t b q (w.place + 1 + ins.jf) earlier w (λ k. rw (at, is, row) refl) (rw (at, row) (inr refl)) (rw e miss)
    ]
way_op source t b q earlier ins o w at row put follows =
    let is : slice_get (program_of t) b ≡ Some ins = put.0 in
    let to = plain_leads (op_of ins.code) ins b q w.place (rw row refl) (rw is at follows) in
    way_to source t b q (w.place + 1) earlier w (λ k. rw (at, is) refl) (rw at to.1) (inl (rw to.0 put.1))

way_on : (source : List Ins) (t : TailTree) (b q : ℕ) (earlier : List ℕ) → Lowers source t → (w : Way source t b earlier) → Near (length source) t w.place b → Follows (program_of t) b q → Way source t q (b ∷ earlier)
way_on source t b q earlier low w (inl tied) follows = elim (there source t w.place b low tied) [
  | inl (none, past) ↦ absurd (rw past at follows)
  | inr (ins, at, is) ↦ way_op source t b q earlier ins (op_of ins.code) w at refl is follows
]
way_on source t b q earlier low w (inr (k, is, tied)) follows =
    let to : q ≡ b + 1 + k = rw is at follows in
    record {
      place = w.place;
      before = w.before;
      path = w.path;
      kept = λ j h. or_right _ _ (w.kept j h);
      near = inl (rw to tied);
    }

way : (source : List Ins) (t : TailTree) → Lowers source t → (q : ℕ) (earlier : List ℕ) → IsPath (program_of t) q earlier → Way source t q earlier
way source t low q [] path = record {
  place = 0;
  before = [];
  path = refl;
  kept = λ k h. h;
  near = inl (rw path (tied_start source t low));
}
way source t low q (b ∷ earlier) path =
    let w = way source t low b earlier path.1 in way_on source t b q earlier low w w.near path.0

-- ---- reads

reads_op : (source : List Ins) (t : TailTree) (p q k : ℕ) (ins : Ins) (o : Option Op) → slice_get source p ≡ Some ins → op_of ins.code ≡ o → There (length source) t o ins p q → At (program_of t) q (Reads k) → At source p (Reads k)
reads_op source t p q k ins (Some Jump) at row (over, is, to) reads = absurd (rw is at reads)
reads_op source t p q k ins (Some (Branch test operand)) at row (jt, jf, is, hit, miss) reads = absurd (rw (is, row) at reads)
reads_op source t p q k ins o at row put reads = rw at (rw put.0 at reads)

stored_way : (source : List Ins) (t : TailTree) (q k : ℕ) (earlier : List ℕ) → AreWellMade source → Lowers source t → (w : Way source t q earlier) → Near (length source) t w.place q → At (program_of t) q (Reads k) → stored_on (program_of t) k earlier ≡ true
stored_way source t q k earlier well low w (inl tied) reads = elim (there source t w.place q low tied) [
  | inl (none, past) ↦ absurd (rw past at reads)
  | inr (ins, at, is) ↦ (
      let here = reads_op source t w.place q k ins (op_of ins.code) at refl is reads in
      w.kept k (well.stored w.place w.before k w.path here))
]
stored_way source t q k earlier well low w (inr (over, is, tied)) reads = absurd (rw is at reads)

-- ---- each instruction by itself

near_inside : (source : List Ins) (t : TailTree) (p q : ℕ) → AreLowered t source → p < length source → Near (length source) t p q → q < len t
near_inside source t p q low inside near =
    let some = positive t source (length source - p) low (omega arith) (omega arith) in
    elim near [ inl tied ↦ omega arith | inr (k, is, tied) ↦ omega arith ]

fine_op : (source : List Ins) (t : TailTree) (p q : ℕ) (ins : Ins) (o : Option Op) → AreLowered t source → slice_get source p ≡ Some ins → op_of ins.code ≡ o → There (length source) t o ins p q → At source p (IsFine (length source) p) → At (program_of t) q (IsFine (len t) q)
fine_op source t p q ins (Some Jump) low at row (over, is, to) fine =
    let f : IsFine (length source) p Jump ins = rw (at, row) at fine in
    rw is (record { constant = tt; scratch = tt; jump = near_inside source t _ _ low f.jump (inl to); load = tt })
fine_op source t p q ins (Some (Branch test operand)) low at row (jt, jf, is, hit, miss) fine =
    let f : IsFine (length source) p (Branch test operand) ins = rw (at, row) at fine in
    rw (is, row) (record {
      constant = tt;
      scratch = tt;
      jump = (near_inside source t _ _ low f.jump.0 hit, near_inside source t _ _ low f.jump.1 miss);
      load = tt;
    })
fine_op source t p q ins o low at row put fine =
    rw put.0 (plain_fine (op_of ins.code) ins (length source) p (len t) q (rw row refl) (rw at at fine))

fine_near : (source : List Ins) (t : TailTree) (p q : ℕ) → AreWellMade source → Lowers source t → p < length source → Near (length source) t p q → At (program_of t) q (IsFine (len t) q)
fine_near source t p q well low inside (inl tied) = elim (there source t p q low tied) [
  | inl (none, past) ↦ absurd (rw none at (well.fine p inside))
  | inr (ins, at, is) ↦ fine_op source t p q ins (op_of ins.code) low.lowered at refl is (well.fine p inside)
]
fine_near source t p q well low inside (inr (k, is, tied)) =
    rw is (record { constant = tt; scratch = tt; jump = near_inside source t p (q + 1 + k) low.lowered inside (inl tied); load = tt })

return_put : (t : TailTree) (o : Option Op) (ins : Ins) (i at : ℕ) → IsSomeAnd o (λ op. IsReturn op ins) → PutAt t o ins i at → (slice_get t.program at ≡ Some ins) × (height t i ≡ at)
return_put t (Some Jump) ins i at returns put = absurd returns
return_put t (Some (Branch test operand)) ins i at returns put = absurd returns
return_put t _ ins i at returns put = put

last_at : (source : List Ins) (t : TailTree) → AreWellMade source → Lowers source t → At (program_of t) (len t - 1) IsReturn
last_at source t well low = elim ((slice_get_cases source (length source - 1)).1) [
  | inl (ins, inside, is, same) ↦ (
      let put = put_at t source (length source - 1) ins low.lowered is in
      let returns : IsSomeAnd (op_of ins.code) (λ op. IsReturn op ins) = rw is at well.last in
      let here = return_put t (op_of ins.code) ins put.0 put.2.at returns put.2.is in
      let none : put.0 ≡ 0 = omega (arith, put.1) in
      let first : put.2.at ≡ 0 = sym here.1 ∙ ap (height t) none ∙ low.last in
      let some = slice_get_within t.program put.2.at ins here.0 in
      rw (slice_get-reverse t.program put.2.at (len t - 1) ins here.0 (omega arith)) returns)
  | inr (past, none) ↦ absurd (rw none at well.last)
]

-- ---- together

pub well_formed : (source : List Ins) (t : TailTree) → IsTail (AreWellMade source) source t → Lowers source t → len t ≤ 4096 → AreWellMade source → WellFormed (program_of t)
well_formed source t tail low few well = record {
  some = rw same (let s = positive t source (length source) low.lowered well.some (omega arith) in let top = low.top in omega arith);
  few = rw same few;
  fine = λ place inside. rw same (fine_at place (len t - (place + 1)) (omega (arith, same)));
  last = rw same (last_at source t well low);
  stored = λ place earlier k path reads. let w = way source t low place earlier path in stored_way source t place k earlier well low w w.near reads;
}
  where
    same : length (program_of t) ≡ len t
    same = length-reverse t.program

    fine_at : (q j : ℕ) → q + j + 1 ≡ len t → At (program_of t) q (IsFine (len t) q)
    fine_at q j e =
        let from = tail.holds.each j (omega arith) in
        let some : 0 < from.0 = from.2 well in
        let inside : from.0 ≤ length source = from.1 in
        let p = length source - from.0 in
        fine_near source t p q well low (omega arith) (near (length source) t p q from.0 (j + 1) (omega arith) (omega arith) from.3)
