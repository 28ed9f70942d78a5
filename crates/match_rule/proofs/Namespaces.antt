-- Texts that begin with others.
use Rattle.std.proofs.Common.{◌≡◌, ℕ, Bool, true, false, List, [], ◌∷◌, ◌++◌, drop, length, refl, sym, ap, ◌∙◌, append_assoc}
use Rattle.std.specs.Prelude.{◌==◌, ◌↔◌, IsTrue, nat_eq}
use Rattle.std.specs.List.{starts_with}
use Rattle.std.proofs.lemmas.Bool.{eqb-true, eq-eqb}
use Rattle.std.proofs.lemmas.Bool.Decides.{Decides-eqb}
use Rattle.std.proofs.lemmas.List.{append_cancel_left}
use Rattle.std.proofs.lemmas.Slice.Eq.{starts_is}
use Rattle.match_rule.specs.Bytes.{ends_with}
use Rattle.match_rule.specs.Holds.{Begins, IsFolderOf}

pub ends_with-last : (byte : ℕ) (front : List ℕ) (last : ℕ) → ends_with byte (front ++ last ∷ []) ≡ (last == byte)
ends_with-last byte [] last = refl
ends_with-last byte (b ∷ []) last = refl
ends_with-last byte (b ∷ c ∷ front) last = ends_with-last byte (c ∷ front) last

pub no_front : (text front : List ℕ) (byte : ℕ) → ((rest : List ℕ) → text ≡ front ++ rest → ⊥) → IsTrue false ↔ Begins text (front ++ byte ∷ [])
no_front text front byte none = (λ e. absurd cc, λ w. absurd (none (byte ∷ w.0) (w.1 ∙ append_assoc front (byte ∷ []) w.0)))

pub front_goes_on : (text front rest more : List ℕ) (first byte : ℕ) → text ≡ front ++ rest → rest ≡ first ∷ more → IsTrue (first == byte) ↔ Begins text (front ++ byte ∷ [])
front_goes_on text front rest more first byte is next = (forth, back)
  where
    forth : (first == byte) ≡ true → Begins text (front ++ byte ∷ [])
    forth e = (more, is ∙ ap (λ (x : List ℕ). front ++ x) (next ∙ ap (λ (b : ℕ). b ∷ more) (eqb-true first byte e)) ∙ sym (append_assoc front (byte ∷ []) more))

    back : Begins text (front ++ byte ∷ []) → (first == byte) ≡ true
    back w =
        let same : rest ≡ byte ∷ w.0 = append_cancel_left front rest (byte ∷ w.0) (sym is ∙ w.1 ∙ append_assoc front (byte ∷ []) w.0) in
        let heads : first ≡ byte = cc in
        eq-eqb first byte heads

pub folder_of : (folder path : List ℕ) (r : Bool) → r ≡ starts_with nat_eq path folder → ends_with 47 folder ≡ true → IsTrue r ↔ IsFolderOf folder path
folder_of folder path r is ends =
    let h = starts_is Decides-eqb path folder r is in
    (λ e. (ends, (drop (length folder) path, h.0 e)), λ w. h.1 w.1.0 w.1.1)
