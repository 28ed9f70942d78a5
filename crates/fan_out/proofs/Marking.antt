-- How marks come to be those of the recipients, entry by entry.
use Rattle.std.proofs.Common.{◌≡◌, ◌⊎◌, inl, inr, ℕ, ◌+◌, ◌≤◌, Bool, true, false, List, [], ◌∷◌, set, Option, Some, refl, sym, ap, subst, ◌∙◌, arith}
use Rattle.std.specs.Prelude.{MatchBool, slice_get, replicate}
use Rattle.message_view.specs.Message.{Message}
use Rattle.message_view.specs.Valid.{Valid}
use Rattle.entry_table.specs.declared.entry.Entry.{Entry}
use Rattle.program_table.specs.Connections.{numbers_of, is_connected}
use Rattle.program_table.specs.State.{State}
use Rattle.program_table.specs.Recipients.{FilterMatches}
use Rattle.fan_out.specs.Pieces.{IsInPiece}
use Rattle.fan_out.specs.Answers.{IsAnswer}
use Rattle.fan_out.specs.Marks.{IsMarked, IsUnmarked, IsMarkedMore, mark_count}
use Rattle.fan_out.specs.Marking.{IsFit, NeedsNoRun, Considers, MatchesAmong, AreDecided, AreMarked, AreMarkedSoFar}
use Rattle.fan_out.proofs.Places.{contains_here, contains_later, contains_cases, contains_none, none_marked, count_none, set_here, set_kept, set_cases, count_set}

false_true : (b : Bool) → b ≡ false → b ≡ true → ⊥
false_true b e f = cc

module _ {M : Type 0} where
  among_later : (s : State M) (sender : Option ℕ) (m : Message) (e : Entry) (left : List Entry) (n : ℕ) → MatchesAmong s sender m left n → MatchesAmong s sender m (e ∷ left) n
  among_later s sender m e left n (f, there, of, matches) = (f, contains_later e f left there, of, matches)

  among_cases : (s : State M) (sender : Option ℕ) (m : Message) (e : Entry) (left : List Entry) (n : ℕ) → MatchesAmong s sender m (e ∷ left) n → ((e.connection ≡ n) × FilterMatches s.registrations sender m e.filter) ⊎ MatchesAmong s sender m left n
  among_cases s sender m e left n (f, there, of, matches) = elim (contains_cases e f left there) [
    | inl same ↦ inl (ap (λ (x : Entry). x.connection) same ∙ of, subst (λ (x : Entry). FilterMatches s.registrations sender m x.filter) (sym same) matches)
    | inr later ↦ inr (f, later, of, matches)
  ]

  among_none : (s : State M) (sender : Option ℕ) (m : Message) (n : ℕ) → MatchesAmong s sender m [] n → ⊥
  among_none s sender m n (f, there, of, matches) = contains_none f there

  -- before the first entry
  pub marks_begin : (s : State M) (part of : ℕ) (bytes words : List ℕ) (all : List Entry) (size runs : ℕ) (marks : List Bool) → marks ≡ replicate size false → runs ≡ 0 → AreMarkedSoFar s part of bytes words all all marks runs
  marks_begin s part of bytes words all size runs marks e none_run = record {
    rest = λ f there. there;
    few = omega arith;
    enough = omega (arith, ap mark_count e, count_none size);
    exact = λ sender m valid decided n. ((λ found. elim found [ inl marked ↦ absurd (none_marked size marked.0 (sym (ap (λ (ms : List Bool). slice_get ms marked.0) e) ∙ marked.2)) | inr among ↦ among ]), (λ among. inr among));
  }

  -- after the last one
  pub marks_end : (s : State M) (part of : ℕ) (bytes words : List ℕ) (all : List Entry) (runs : ℕ) (marks : List Bool) (sender : Option ℕ) (m : Message) → Valid bytes m → AreDecided s sender m bytes words all → AreMarkedSoFar s part of bytes words all [] marks runs → AreMarked s sender m part of all marks
  marks_end s part of bytes words all runs marks sender m valid decided so_far = record {
    exact = λ n. let both = so_far.exact sender m valid decided n in ((λ marked. both.0 (inl marked)), (λ among. elim (both.1 among) [ inl marked ↦ marked | inr left ↦ absurd (among_none s sender m n left.0) ]));
  }

  passed_marked : (s : State M) (part of : ℕ) (bytes : List ℕ) (sender : Option ℕ) (m : Message) (e : Entry) (marks : List Bool) (n : ℕ) → Valid bytes m → is_connected e.connection s.connections ≡ true → NeedsNoRun s part of bytes e marks → e.connection ≡ n → FilterMatches s.registrations sender m e.filter → IsInPiece part of n → IsMarked (numbers_of s.connections) marks n
  passed_marked s part of bytes sender m e marks n valid there why same matches inside = elim why [
    | inl missed ↦ absurd (missed s.registrations sender m valid matches)
    | inr others ↦ elim others [
      | inl outside ↦ absurd (outside (subst (λ (k : ℕ). IsInPiece part of k) (sym same) inside))
      | inr other ↦ elim other [
        | inl absent ↦ absurd (false_true (is_connected e.connection s.connections) absent there)
        | inr marked ↦ subst (λ (k : ℕ). IsMarked (numbers_of s.connections) marks k) same marked
      ]
    ]
  ]

  pub marks_pass : (s : State M) (part of : ℕ) (bytes words : List ℕ) (all left : List Entry) (e : Entry) (marks : List Bool) (runs : ℕ) → AreMarkedSoFar s part of bytes words all (e ∷ left) marks runs → NeedsNoRun s part of bytes e marks → AreMarkedSoFar s part of bytes words all left marks runs
  marks_pass s part of bytes words all left e marks runs so_far why = record {
    rest = λ f there. so_far.rest f (contains_later e f left there);
    few = omega (arith, so_far.few);
    enough = so_far.enough;
    exact = λ sender m valid decided n.
        let both = so_far.exact sender m valid decided n in (
          (λ found. both.0 (elim found [ inl marked ↦ inl marked | inr among ↦ inr (among_later s sender m e left n among.0, among.1) ])),
          (λ among. elim (both.1 among) [
            | inl marked ↦ inl marked
            | inr here ↦ elim (among_cases s sender m e left n here.0) [
              | inl this ↦ inl (passed_marked s part of bytes sender m e marks n valid (decided.connected e (so_far.rest e (contains_here e left))) why this.0 this.1 here.1)
              | inr later ↦ inr (later, here.1)
            ]
          ]),
        );
  }

  -- the entry's program was run and has verdict 0
  marks_no : (s : State M) (part of : ℕ) (bytes words : List ℕ) (all left : List Entry) (e : Entry) (marks : List Bool) (runs : ℕ) → AreMarkedSoFar s part of bytes words all (e ∷ left) marks runs → IsFit bytes e.filter → IsAnswer bytes words e.filter false → AreMarkedSoFar s part of bytes words all left marks (runs + 1)
  marks_no s part of bytes words all left e marks runs so_far fits answered = record {
    rest = λ f there. so_far.rest f (contains_later e f left there);
    few = omega (arith, so_far.few);
    enough = omega (arith, so_far.enough);
    exact = λ sender m valid decided n.
        let both = so_far.exact sender m valid decided n in (
          (λ found. both.0 (elim found [ inl marked ↦ inl marked | inr among ↦ inr (among_later s sender m e left n among.0, among.1) ])),
          (λ among. elim (both.1 among) [
            | inl marked ↦ inl marked
            | inr here ↦ elim (among_cases s sender m e left n here.0) [
              | inl this ↦ absurd (false_true false refl ((decided.decided e (so_far.rest e (contains_here e left)) fits false answered).1 this.1))
              | inr later ↦ inr (later, here.1)
            ]
          ]),
        );
  }

  -- the entry's program was run and has another verdict
  marks_yes : (s : State M) (part of : ℕ) (bytes words : List ℕ) (all left : List Entry) (e : Entry) (marks : List Bool) (runs place : ℕ) → AreMarkedSoFar s part of bytes words all (e ∷ left) marks runs → IsFit bytes e.filter → IsAnswer bytes words e.filter true → IsInPiece part of e.connection → slice_get (numbers_of s.connections) place ≡ Some e.connection → slice_get marks place ≡ Some false → AreMarkedSoFar s part of bytes words all left (set marks place true) (runs + 1)
  marks_yes s part of bytes words all left e marks runs place so_far fits answered inside stands unmarked = record {
    rest = λ f there. so_far.rest f (contains_later e f left there);
    few = omega (arith, so_far.few);
    enough = omega (arith, so_far.enough, count_set marks place unmarked);
    exact = λ sender m valid decided n.
        let both = so_far.exact sender m valid decided n in
        let this : FilterMatches s.registrations sender m e.filter = (decided.decided e (so_far.rest e (contains_here e left)) fits true answered).0 refl in (
          (λ found. both.0 (elim found [
            | inl marked ↦ elim (set_cases marks place marked.0 marked.2) [
              | inl same ↦
                  let is : e.connection ≡ n = some_same (sym stands ∙ sym (ap (λ (k : ℕ). slice_get (numbers_of s.connections) k) same) ∙ marked.1) in
                  inr ((e, contains_here e left, is, this), subst (λ (k : ℕ). IsInPiece part of k) is inside)
              | inr before ↦ inl (marked.0, marked.1, before)
            ]
            | inr among ↦ inr (among_later s sender m e left n among.0, among.1)
          ])),
          (λ among. elim (both.1 among) [
            | inl marked ↦ inl (marked.0, marked.1, set_kept marks place marked.0 marked.2)
            | inr here ↦ elim (among_cases s sender m e left n here.0) [
              | inl that ↦ inl (place, stands ∙ ap (λ (k : ℕ). Some k) that.0, set_here marks place false unmarked)
              | inr later ↦ inr (later, here.1)
            ]
          ]),
        );
  }
    where
      some_same : {a b : ℕ} → Some a ≡ Some b → a ≡ b
      some_same e = cc

  marks_asked : (s : State M) (part of : ℕ) (bytes words : List ℕ) (all left : List Entry) (e : Entry) (before after : List Bool) (runs : ℕ) (answer : Bool) → AreMarkedSoFar s part of bytes words all (e ∷ left) before runs → IsFit bytes e.filter → IsAnswer bytes words e.filter answer → IsInPiece part of e.connection → IsUnmarked (numbers_of s.connections) before e.connection → MatchBool answer (IsMarkedMore (numbers_of s.connections) e.connection before after) (after ≡ before) → AreMarkedSoFar s part of bytes words all left after (runs + 1)
  marks_asked s part of bytes words all left e before after runs true so_far fits answered inside unmarked more = rw more.marked (marks_yes s part of bytes words all left e before runs more.place so_far fits answered inside more.stands (unmarked more.place more.stands))
  marks_asked s part of bytes words all left e before after runs false so_far fits answered inside unmarked same = rw same (marks_no s part of bytes words all left e before runs so_far fits answered)

  -- one more entry
  pub marks_more : (s : State M) (part of : ℕ) (bytes words : List ℕ) (all left : List Entry) (e : Entry) (before after : List Bool) (runs later : ℕ) → AreMarkedSoFar s part of bytes words all (e ∷ left) before runs → Considers s part of bytes words e before after runs later → AreMarkedSoFar s part of bytes words all left after later
  marks_more s part of bytes words all left e before after runs later so_far considered = elim considered [
    | inl passed ↦ rw (passed.0.kept, passed.0.none_run) (marks_pass s part of bytes words all left e before runs so_far passed.1)
    | inr asked ↦ rw asked.one_run (marks_asked s part of bytes words all left e before after runs asked.answer so_far asked.fits asked.answered asked.inside asked.unmarked asked.marked)
  ]

  -- at most one program was run for an entry
  pub considers_few : (s : State M) (part of : ℕ) (bytes words : List ℕ) (e : Entry) (before after : List Bool) (runs later : ℕ) → Considers s part of bytes words e before after runs later → later ≤ runs + 1
  considers_few s part of bytes words e before after runs later considered = elim considered [
    | inl passed ↦ omega (arith, passed.0.none_run)
    | inr asked ↦ omega (arith, asked.one_run)
  ]
