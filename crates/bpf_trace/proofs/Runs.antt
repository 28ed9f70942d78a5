-- A run whose lines are added step by step.
use Rattle.std.proofs.Common.{◌≡◌, ℕ, zero, suc, ◌+◌, ◌-◌, ◌<◌, List, [], ◌∷◌, ◌++◌, length, Option, Some, None, refl, sym, ap, ◌∙◌, arith, subst, append_assoc, append-nil}
use Rattle.std.specs.List.{flat_map}
use Rattle.bpf_code.specs.declared.instruction.Ins.{Ins}
use Rattle.bpf_code.specs.Steps.{State, start, Next, Goes, Stops, step_of, EndsFrom, Ends}
use Rattle.summary.specs.declared.edition.Edition.{Edition}
use Rattle.bpf_trace.specs.Lines.{step_line}
use Rattle.bpf_trace.specs.Traces.{AreSteps, IsTrace}

-- The lines of the steps before this configuration were added after a text, and the run ends from here after the steps that
-- are left.
pub record Traced (edition : Edition) (program : List Ins) (image : List ℕ) (v steps done : ℕ) (s : State) (before text : List ℕ) : Type 0 where
  pub ends : EndsFrom program image v (steps - done) s
  pub on : (later : List State) → AreSteps program image v s later → (all : List State) × AreSteps program image v start all × (length all ≡ done + length later) × (before ++ flat_map (step_line edition program image) (start ∷ all) ≡ text ++ flat_map (step_line edition program image) (s ∷ later))

pub at_start : (edition : Edition) (program : List Ins) (image : List ℕ) (v steps : ℕ) (s : State) (text : List ℕ) → s ≡ start → Ends program image v steps → Traced edition program image v steps 0 s text text
at_start edition program image v steps s text is ends = record {
  ends =
      let all : steps ≡ steps - 0 = omega arith in
      rw is (subst (λ (n : ℕ). EndsFrom program image v n start) all ends);
  on = λ later are. (later, subst (λ (t : State). AreSteps program image v t later) is are, (let e : length later ≡ 0 + length later = omega arith in e), rw is refl);
}

-- the end after one step more
next_ends : (program : List Ins) (image : List ℕ) (v steps done : ℕ) (s : State) → done < steps → EndsFrom program image v (steps - done) s → EndsFrom program image v (suc (steps - (done + 1))) s
next_ends program image v steps done s more ends =
    let e : steps - done ≡ suc (steps - (done + 1)) = omega arith in
    subst (λ (n : ℕ). EndsFrom program image v n s) e ends

-- a line more
line_more : (text new line rest whole : List ℕ) → new ≡ text ++ line → whole ≡ text ++ (line ++ rest) → whole ≡ new ++ rest
line_more text new line rest whole adds is = is ∙ sym (append_assoc text line rest) ∙ ap (λ (front : List ℕ). front ++ rest) (sym adds)

pub goes_on : (edition : Edition) (program : List Ins) (image : List ℕ) (v steps done : ℕ) (s t : State) (before text new : List ℕ) → done < steps → Traced edition program image v steps done s before text → step_of program image s ≡ Some (Goes t) → new ≡ text ++ step_line edition program image s → Traced edition program image v steps (done + 1) t before new
goes_on edition program image v steps done s t before text new more run is adds = record {
  ends = rw is at (next_ends program image v steps done s more run.ends);
  on = λ later are.
      let all = run.on (t ∷ later) (is, are) in (
        all.0,
        all.1,
        (let count = all.2 in omega arith),
        line_more text new (step_line edition program image s) (flat_map (step_line edition program image) (t ∷ later)) (before ++ flat_map (step_line edition program image) (start ∷ all.0)) adds all.3,
      );
}

pub stops : (edition : Edition) (program : List Ins) (image : List ℕ) (v steps done w : ℕ) (s : State) (before text new : List ℕ) → done < steps → Traced edition program image v steps done s before text → step_of program image s ≡ Some (Stops w) → new ≡ text ++ step_line edition program image s → (lines : List ℕ) × IsTrace edition program image v steps lines × (new ≡ before ++ lines)
stops edition program image v steps done w s before text new more run is adds =
    let last = rw is at (next_ends program image v steps done s more run.ends) in
    let all = run.on [] (is ∙ ap (λ (u : ℕ). Some (Stops u)) last.1) in
    let left = last.0 in
    let count = all.2 in (
      flat_map (step_line edition program image) (start ∷ all.0),
      record { later = all.0; are_steps = all.1; count = (let e : steps ≡ suc (length all.0) = omega arith in e); lines = refl },
      adds ∙ ap (λ (line : List ℕ). text ++ line) (sym (append-nil (step_line edition program image s))) ∙ sym all.3,
    )

pub goes_nowhere : (edition : Edition) (program : List Ins) (image : List ℕ) (v steps done : ℕ) (s : State) (before text : List ℕ) → done < steps → Traced edition program image v steps done s before text → step_of program image s ≡ None → ⊥
goes_nowhere edition program image v steps done s before text more run is =
    rw is at (next_ends program image v steps done s more run.ends)

pub ends_before : (edition : Edition) (program : List Ins) (image : List ℕ) (v steps done : ℕ) (s : State) (before text : List ℕ) → steps ≡ done → Traced edition program image v steps done s before text → ⊥
ends_before edition program image v steps done s before text all run =
    let none : steps - done ≡ zero = omega arith in
    subst (λ (n : ℕ). EndsFrom program image v n s) none run.ends
