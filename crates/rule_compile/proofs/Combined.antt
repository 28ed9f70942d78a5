-- Pieces of programs joined: what they test together.
use Rattle.std.proofs.Common.{◌≡◌, ℕ, ◌+◌, ◌-◌, length, Bool, true, false, if◌then◌else◌, List, [], ◌∷◌, ◌++◌, Some, ◌⊎◌, ◌↔◌, inl, inr, refl, sym, ap, ◌∙◌, subst}
use Rattle.std.proofs.lemmas.Bool.{cases_Bool, true≢false}
use Rattle.std.proofs.lemmas.List.{append_assoc}
use Rattle.bpf_code.specs.declared.instruction.Ins.{Ins}
use Rattle.bpf_code.specs.declared.operation.Width.{Width}
use Rattle.bpf_code.specs.declared.operation.Test.{Test}
use Rattle.bpf_code.specs.Loads.{load, load_word}
use Rattle.bpf_code.specs.Effects.{passes}
use Rattle.rule_compile.specs.Code.{image_word, load_indexed, index_from_a, returns, branch, want, settle, index_text}
use Rattle.rule_compile.proofs.Pieces.{Guarded, Any, Tests}
use Rattle.rule_compile.proofs.Runs.{runs_image_word, runs_indexed, runs_index_from_a, runs_want, stops_want, runs_settle, stays_settle}

-- ---- pieces stand in front of their rest

-- the piece is put in front of the rest
abbrev pub Extends : (List Ins → List Ins) → Type 0
Extends piece = (rest : List Ins) → (middle : List Ins) × (piece rest ≡ middle ++ rest)

pub extends_none : Extends (λ rest. rest)
extends_none rest = ([], refl)

pub extends_choice : (b : Bool) (f g : List Ins → List Ins) → Extends f → Extends g → Extends (λ rest. if b then f rest else g rest)
extends_choice true f g first other = first
extends_choice false f g first other = other

pub extends_more : (f : List Ins → List Ins) (ins : List Ins → Ins) → Extends f → Extends (λ rest. ins rest ∷ f rest)
extends_more f ins more rest = (ins rest ∷ (more rest).0, ap (λ (code : List Ins). ins rest ∷ code) (more rest).1)

pub extends_then : (f g : List Ins → List Ins) → Extends f → Extends g → Extends (λ rest. f (g rest))
extends_then f g first next rest =
    let a = first (g rest) in
    let b = next rest in
    (a.0 ++ b.0, a.1 ∙ ap (λ (code : List Ins). a.0 ++ code) b.1 ∙ sym (append_assoc a.0 b.0 rest))

pub extends_want : (test : Test) (k : ℕ) → Extends (want test k)
extends_want test k rest = (_ ∷ [], refl)

-- an instruction, and a test of what it gives
pub extends_test : (ins : Ins) (test : Test) (k : ℕ) → Extends (λ rest. ins ∷ want test k rest)
extends_test ins test k rest = (ins ∷ _ ∷ [], refl)

-- a piece in front of a rest that says no match at its end does so too
pub guards : (f : List Ins → List Ins) → Extends f → (rest : List Ins) → Guarded rest → Guarded (f rest)
guards f extends rest (front, is) =
    let a = extends rest in
    (a.0 ++ front, a.1 ∙ ap (λ (code : List Ins). a.0 ++ code) is ∙ sym (append_assoc a.0 front (returns 0 ∷ [])))

-- ---- tests

-- no piece tests what holds
pub tests_none : (image : List ℕ) (X : ℕ → Type 0) (P : Type 0) → P → Tests image X P (λ rest. rest)
tests_none image X P p = record { decided = inl p; guarded = λ rest g. g; passes = λ rest v g leads _. leads; fails = λ rest g n. absurd (n p) }

-- the fact in other words
pub tests_same : (image : List ℕ) (X : ℕ → Type 0) (P Q : Type 0) (f : List Ins → List Ins) → P ↔ Q → Tests image X P f → Tests image X Q f
tests_same image X P Q f same t = record {
  decided = elim t.decided [ inl p ↦ inl (same.0 p) | inr n ↦ inr (λ q. n (same.1 q)) ];
  guarded = t.guarded;
  passes = λ rest v g leads q. t.passes rest v g leads (same.1 q);
  fails = λ rest g n. t.fails rest g (λ p. n (same.0 p));
}

-- One piece after another: the second need only do its work where the first passes.
pub tests_then : (image : List ℕ) (X : ℕ → Type 0) (P Q : Type 0) (f g : List Ins → List Ins) → Tests image X P f → Extends g → (P → Tests image X Q g) → Tests image X (P × Q) (λ rest. f (g rest))
tests_then image X P Q f g first extends next = elim first.decided [
  | inl p ↦ (let t = next p in record {
    decided = elim t.decided [ inl q ↦ inl (p, q) | inr n ↦ inr (λ both. n both.1) ];
    guarded = λ rest h. first.guarded (g rest) (guards g extends rest h);
    passes = λ rest v h leads both. first.passes (g rest) v (guards g extends rest h) (t.passes rest v h leads both.1) p;
    fails = λ rest h n. first.passes (g rest) 0 (guards g extends rest h) (t.fails rest h (λ q. n (p, q))) p;
  })
  | inr none ↦ record {
    decided = inr (λ both. none both.0);
    guarded = λ rest h. first.guarded (g rest) (guards g extends rest h);
    passes = λ rest v h leads both. absurd (none both.0);
    fails = λ rest h n. first.fails (g rest) (guards g extends rest h) none;
  }
]

-- both pieces do their work wherever they stand
pub tests_both : (image : List ℕ) (X : ℕ → Type 0) (P Q : Type 0) (f g : List Ins → List Ins) → Tests image X P f → Tests image X Q g → Tests image X (P × Q) (λ rest. f (g rest))
tests_both image X P Q f g first next = record {
  decided = elim first.decided [
    | inl p ↦ elim next.decided [ inl q ↦ inl (p, q) | inr n ↦ inr (λ both. n both.1) ]
    | inr n ↦ inr (λ both. n both.0)
  ];
  guarded = λ rest h. first.guarded (g rest) (next.guarded rest h);
  passes = λ rest v h leads both. first.passes (g rest) v (next.guarded rest h) (next.passes rest v h leads both.1) both.0;
  fails = λ rest h n. elim first.decided [
    | inl p ↦ first.passes (g rest) 0 (next.guarded rest h) (next.fails rest h (λ q. n (p, q))) p
    | inr none ↦ first.fails (g rest) (next.guarded rest h) none
  ];
}

-- ---- a load, and a test of what it gives

-- the comparison holds of the image's word
pub tests_word : (image : List ℕ) (X : ℕ → Type 0) (at w : ℕ) (test : Test) (k : ℕ) → load_word image at ≡ Some w → Tests image X (passes test w k ≡ true) (λ rest. image_word at ∷ want test k rest)
tests_word image X at w test k is = record {
  decided = elim (cases_Bool (passes test w k)) [ inl h ↦ inl h | inr h ↦ inr (λ e. true≢false (sym e ∙ h)) ];
  guarded = guards (λ rest. image_word at ∷ want test k rest) (extends_test (image_word at) test k);
  passes = λ rest v g leads holds a x fits. runs_image_word (want test k rest) image at w a x v is (runs_want rest image test k w x v holds (leads w x fits));
  fails = λ rest g n a x fits. runs_image_word (want test k rest) image at w a x 0 is (stops_want rest image test k w x g (elim (cases_Bool (passes test w k)) [ inl h ↦ absurd (n h) | inr h ↦ h ]));
}

-- the comparison holds of the bytes at an offset from X, which is a place
pub tests_indexed : (image : List ℕ) (place : ℕ) (width : Width) (at w : ℕ) (test : Test) (k : ℕ) → load width image (place + at) ≡ Some w → Tests image (λ x. x ≡ place) (passes test w k ≡ true) (λ rest. load_indexed width at ∷ want test k rest)
tests_indexed image place width at w test k is = record {
  decided = elim (cases_Bool (passes test w k)) [ inl h ↦ inl h | inr h ↦ inr (λ e. true≢false (sym e ∙ h)) ];
  guarded = guards (λ rest. load_indexed width at ∷ want test k rest) (extends_test (load_indexed width at) test k);
  passes = λ rest v g leads holds a x fits. runs_indexed (want test k rest) image width at w a x v (subst (λ (y : ℕ). load width image (y + at) ≡ Some w) (sym fits) is) (runs_want rest image test k w x v holds (leads w x fits));
  fails = λ rest g n a x fits. runs_indexed (want test k rest) image width at w a x 0 (subst (λ (y : ℕ). load width image (y + at) ≡ Some w) (sym fits) is) (stops_want rest image test k w x g (elim (cases_Bool (passes test w k)) [ inl h ↦ absurd (n h) | inr h ↦ h ]));
}

pub extends_settle : (f : List Ins → List Ins) (at : ℕ) (test : Test) (k : ℕ) → Extends f → Extends (λ rest. image_word at ∷ settle test k rest (f rest))
extends_settle f at test k extends =
    extends_more (λ rest. settle test k rest (f rest)) (λ _. image_word at) (extends_more f (λ rest. branch test k (length (f rest) - length rest) 0) extends)

-- The comparison holds of the image's word, or else the piece's fact does. The piece need only do its work where the
-- comparison doesn't hold.
pub tests_settle : (image : List ℕ) (X : ℕ → Type 0) (P : Type 0) (f : List Ins → List Ins) (at w : ℕ) (test : Test) (k : ℕ) → load_word image at ≡ Some w → Extends f → (passes test w k ≡ false → Tests image X P f) → Tests image X ((passes test w k ≡ true) ⊎ P) (λ rest. image_word at ∷ settle test k rest (f rest))
tests_settle image X P f at w test k is extends other = elim (cases_Bool (passes test w k)) [
  | inl h ↦ record {
    decided = inl (inl h);
    guarded = guards (λ rest. image_word at ∷ settle test k rest (f rest)) (extends_settle f at test k extends);
    passes = λ rest v g leads _ a x fits. let e = extends rest in runs_image_word (settle test k rest (f rest)) image at w a x v is (runs_settle e.0 rest (f rest) image test k w x v e.1 h (leads w x fits));
    fails = λ rest g n. absurd (n (inl h));
  }
  | inr h ↦ (let t = other h in record {
    decided = elim t.decided [ inl p ↦ inl (inr p) | inr n ↦ inr (λ both. elim both [ inl e ↦ true≢false (sym e ∙ h) | inr p ↦ n p ]) ];
    guarded = guards (λ rest. image_word at ∷ settle test k rest (f rest)) (extends_settle f at test k extends);
    passes = λ rest v g leads both a x fits. runs_image_word (settle test k rest (f rest)) image at w a x v is (stays_settle rest (f rest) image test k w x v h (t.passes rest v g leads (elim both [ inl e ↦ absurd (true≢false (sym e ∙ h)) | inr p ↦ p ]) w x fits));
    fails = λ rest g n a x fits. runs_image_word (settle test k rest (f rest)) image at w a x 0 is (stays_settle rest (f rest) image test k w x 0 h (t.fails rest g (λ p. n (inr p)) w x fits));
  })
]

pub extends_index_text : (f : List Ins → List Ins) (at : ℕ) → Extends f → Extends (λ rest. index_text at (f rest))
extends_index_text f at extends =
    extends_more (λ rest. index_from_a ∷ f rest) (λ _. image_word at) (extends_more f (λ _. index_from_a) extends)

-- X becomes a text's place
pub tests_index_text : (image : List ℕ) (P : Type 0) (f : List Ins → List Ins) (at place : ℕ) → load_word image at ≡ Some place → Tests image (λ x. x ≡ place) P f → Tests image Any P (λ rest. index_text at (f rest))
tests_index_text image P f at place is t = record {
  decided = t.decided;
  guarded = λ rest g. let h = t.guarded rest g in (image_word at ∷ index_from_a ∷ h.0, ap (λ (code : List Ins). image_word at ∷ index_from_a ∷ code) h.1);
  passes = λ rest v g leads p a x _. runs_image_word (index_from_a ∷ f rest) image at place a x v is (runs_index_from_a (f rest) image place x v (t.passes rest v g (λ b y _. leads b y tt) p place place refl));
  fails = λ rest g n a x _. runs_image_word (index_from_a ∷ f rest) image at place a x 0 is (runs_index_from_a (f rest) image place x 0 (t.fails rest g n place place refl));
}
