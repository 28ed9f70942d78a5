-- Marks of pieces, joined.
use Rattle.std.proofs.Common.{◌≡◌, ◌↔◌, ◌⊎◌, inl, inr, ℕ, ◌+◌, ◌-◌, ◌%◌, ◌<◌, ◌≤◌, ◌==◌, Bool, true, false, cond, List, [], length, set, Option, Some, refl, sym, ap, subst, ◌∙◌, arith}
use Rattle.std.specs.Prelude.{slice_get, replicate}
use Rattle.std.proofs.lemmas.Bool.{eqb-true, eq-eqb}
use Rattle.std.proofs.lemmas.Bool.Decides.{nat_tests}
use Rattle.std.proofs.lemmas.Option.{slice_get-get_or, slice_get_within}
use Rattle.message_view.specs.Message.{Message}
use Rattle.message_view.specs.Valid.{Valid}
use Rattle.program_table.specs.State.{State}
use Rattle.program_table.specs.IsState.{IsState}
use Rattle.fan_out.specs.Marking.{AreMarkedRecipients}
use Rattle.fan_out.specs.Joining.{AreBoth, AreJoined, FindsRecipients}
use Rattle.fan_out.proofs.Places.{none_marked, set_here, set_kept, set_cases}

split_last : (k n : ℕ) → k < n + 1 → (k < n) ⊎ (k ≡ n)
split_last k n less = go (k == n) refl
  where
    go : (b : Bool) → (k == n) ≡ b → (k < n) ⊎ (k ≡ n)
    go true e = inr (eqb-true k n e)
    go false e = inl (grind (arith, nat_tests))

-- the marks before a place are joined
abbrev pub AreJoinedBelow : ℕ → List Bool → List Bool → List Bool → Type 0
AreJoinedBelow place start other marks =
    (k : ℕ) → (slice_get marks k ≡ Some true) ↔ ((slice_get start k ≡ Some true) ⊎ ((k < place) × (slice_get other k ≡ Some true)))

no_mark : (b : Bool) (o : Option Bool) → o ≡ Some false → o ≡ Some true → ⊥
no_mark b o e f = cc

pub marks_joined : (place : ℕ) (start other marks after : List Bool) → place < length marks → slice_get other place ≡ Some true → after ≡ set marks place true → AreJoinedBelow place start other marks → AreJoinedBelow (place + 1) start other after
marks_joined place start other marks after less here e below k = rw e (
  (λ marked. elim (set_cases marks place k marked) [
    | inl same ↦ inr (omega arith, ap (slice_get other) same ∙ here)
    | inr before ↦ elim ((below k).0 before) [ inl first ↦ inl first | inr second ↦ inr (omega (arith, second.0), second.1) ]
  ]),
  (λ either. elim either [
    | inl first ↦ set_kept marks place k ((below k).1 (inl first))
    | inr second ↦ elim (split_last k place second.0) [
      | inl before ↦ set_kept marks place k ((below k).1 (inr (before, second.1)))
      | inr same ↦ rw same (set_here marks place _ (slice_get-get_or marks place false less))
    ]
  ]),
)

pub marks_kept : (place : ℕ) (start other marks after : List Bool) → slice_get other place ≡ Some false → after ≡ marks → AreJoinedBelow place start other marks → AreJoinedBelow (place + 1) start other after
marks_kept place start other marks after here e below k = rw e (
  (λ marked. elim ((below k).0 marked) [ inl first ↦ inl first | inr second ↦ inr (omega (arith, second.0), second.1) ]),
  (λ either. elim either [
    | inl first ↦ (below k).1 (inl first)
    | inr second ↦ elim (split_last k place second.0) [
      | inl before ↦ (below k).1 (inr (before, second.1))
      | inr same ↦ absurd (no_mark true (slice_get other place) here (sym (ap (slice_get other) same) ∙ second.1))
    ]
  ]),
)

pub all_joined : (place : ℕ) (start other marks : List Bool) → length other ≤ place → AreJoinedBelow place start other marks → AreBoth marks start other
all_joined place start other marks size below = record {
  exact = λ k. (
    (λ marked. elim ((below k).0 marked) [ inl first ↦ inl first | inr second ↦ inr second.1 ]),
    (λ either. (below k).1 (elim either [ inl first ↦ inl first | inr second ↦ inr (omega (arith, slice_get_within other k true second), second) ])),
  );
}

-- where no piece is left
pub none_joined : (finds : ℕ → List Bool → Type 0) (part of size : ℕ) (marks : List Bool) → of < part → marks ≡ replicate size false → AreJoined finds part of marks
none_joined finds part of size marks past e = record {
  pieces = λ p. [];
  found = λ p from upto. absurd (omega (arith, from, upto));
  exact = λ k. (
    (λ marked. absurd (none_marked size k (sym (ap (λ (ms : List Bool). slice_get ms k) e) ∙ marked))),
    (λ piece. absurd (omega (arith, piece.1, piece.2))),
  );
}

module _ (finds : ℕ → List Bool → Type 0) (part of : ℕ) (mine later marks : List Bool) (within : part ≤ of) (here : finds part mine) (joined : AreJoined finds (part + 1) of later) (both : AreBoth marks later mine) where
  abbrev pieces : ℕ → List Bool
  pieces p = cond (p == part) mine (joined.pieces p)

  mine_at : (p : ℕ) → (p == part) ≡ true → pieces p ≡ mine
  mine_at p e = rw e refl

  later_at : (p : ℕ) → (p == part) ≡ false → pieces p ≡ joined.pieces p
  later_at p e = rw e refl

  apart : (p : ℕ) → part + 1 ≤ p → (p == part) ≡ false
  apart p from = grind (arith, nat_tests)

  after_part : (p : ℕ) → part ≤ p → (p == part) ≡ false → part + 1 ≤ p
  after_part p from e = grind (arith, nat_tests)

  found_at : (p : ℕ) → part ≤ p → p ≤ of → finds p (pieces p)
  found_at p from upto = go (p == part) refl
    where
      go : (b : Bool) → (p == part) ≡ b → finds p (pieces p)
      go true e = rw (mine_at p e) (subst (λ (q : ℕ). finds q mine) (sym (eqb-true p part e)) here)
      go false e = rw (later_at p e) (joined.found p (after_part p from e) upto)

  piece_marked : (k p : ℕ) → part ≤ p → p ≤ of → slice_get (pieces p) k ≡ Some true → slice_get marks k ≡ Some true
  piece_marked k p from upto marked = go (p == part) refl
    where
      go : (b : Bool) → (p == part) ≡ b → slice_get marks k ≡ Some true
      go true e = (both.exact k).1 (inr (sym (ap (λ (ms : List Bool). slice_get ms k) (mine_at p e)) ∙ marked))
      go false e = (both.exact k).1 (inl ((joined.exact k).1 (p, after_part p from e, upto, sym (ap (λ (ms : List Bool). slice_get ms k) (later_at p e)) ∙ marked)))

  pub piece_joined : AreJoined finds part of marks
  piece_joined = record {
    pieces = pieces;
    found = found_at;
    exact = λ k. (
      (λ marked. elim ((both.exact k).0 marked) [
        | inl other ↦
            let piece = (joined.exact k).0 other in
            (piece.0, omega (arith, piece.1), piece.2, ap (λ (ms : List Bool). slice_get ms k) (later_at piece.0 (apart piece.0 piece.1)) ∙ piece.3)
        | inr own ↦ (part, omega arith, within, ap (λ (ms : List Bool). slice_get ms k) (mine_at part (eq-eqb part part refl)) ∙ own)
      ]),
      (λ piece. piece_marked k piece.0 piece.1 piece.2 piece.3),
    );
  }

remainder_fits : (n workers : ℕ) → 0 < workers → n % workers + 1 ≤ workers
remainder_fits n workers some = omega arith

remainder_is : (n workers : ℕ) → n % workers ≡ (n % workers + 1) - 1
remainder_is n workers = omega arith

first_fits : (n : ℕ) → 1 ≤ n + 1
first_fits n = omega arith

module _ {M : Type 0} where
  pub pieces_state : (s : State M) (sender : Option ℕ) (bytes : List ℕ) (workers : ℕ) (marks : List Bool) → 0 < workers → AreJoined (FindsRecipients s sender bytes workers) 1 workers marks → IsState s
  pieces_state s sender bytes workers marks some joined = (joined.found 1 (omega arith) (omega arith)).state

  -- the recipients of all pieces are all recipients
  pub pieces_whole : (s : State M) (sender : Option ℕ) (bytes : List ℕ) (workers : ℕ) (marks : List Bool) (m : Message) → 0 < workers → Valid bytes m → AreJoined (FindsRecipients s sender bytes workers) 1 workers marks → AreMarkedRecipients s sender m 1 1 marks
  pieces_whole s sender bytes workers marks m some valid joined = record {
    exact = λ n. (
      (λ marked.
          let piece = (joined.exact marked.0).0 marked.2 in
          let found = (((joined.found piece.0 piece.1 piece.2).exact m valid).exact n).0 (marked.0, marked.1, piece.3) in
          (found.0, omega arith)),
      (λ here.
          let p = n % workers + 1 in
          let fits = remainder_fits n workers some in
          let marked = (((joined.found p (first_fits (n % workers)) fits).exact m valid).exact n).1 (here.0, remainder_is n workers) in
          (marked.0, marked.1, (joined.exact marked.0).1 (p, first_fits (n % workers), fits, marked.2))),
    );
  }
