-- Which entries are offered, by their shapes.
use Rattle.std.proofs.Common.{◌≡◌, ℕ, ◌/◌, ◌%◌, Bool, true, false, ◌&&◌, List, [], ◌∷◌, ◌++◌, cond, eqb, refl, sym, ap, ◌∙◌, subst, inl, inr, arith}
use Rattle.std.proofs.lemmas.Bool.{and_from, eq-eqb, ne_eqb, cases_Bool}
use Rattle.std.proofs.lemmas.List.Elements.{Contains-append_left, Contains-push}
use Rattle.std.specs.Prelude.{Option, Some, None, Contains, option_map, find}
use Rattle.entry_table.specs.declared.entry.Entry.{Entry}
use Rattle.entry_table.specs.FoundTexts.{is_text_found, are_found, is_offered}
use Rattle.entry_table.specs.PlacedEntries.{Placed, entry_at}
use Rattle.entry_table.specs.Searching.{entries_of}
use Rattle.entry_table.specs.TextKeys.{LookupTexts, bit_of, shape_of}
use Rattle.entry_table.specs.EntryTexts.{lookup_texts}
use Rattle.entry_table.proofs.Finding.{entries_of-cons, some_one}
use Rattle.entry_table.proofs.Offering.{shape-path_namespace, shape-arg0_namespace, found_all}

pub not_asked : (asked found : Option (List ℕ)) → bit_of asked ≡ 0 → is_text_found asked found ≡ true
not_asked None found e = refl
not_asked (Some text) found e = absurd (omega (arith, e))

-- where no text is asked for, each message has the texts
none_asked : (asked found : LookupTexts) → shape_of asked ≡ 0 → are_found asked found ≡ true
none_asked asked found e =
    let m : bit_of asked.texts.member ≡ 0 = omega (arith, e) in
    let i : bit_of asked.texts.interface ≡ 0 = omega (arith, e) in
    let p : bit_of asked.texts.path ≡ 0 = omega (arith, e) in
    let s : bit_of asked.texts.sender ≡ 0 = omega (arith, e) in
    let a : bit_of asked.texts.arg0 ≡ 0 = omega (arith, e) in
    let pn : bit_of asked.path_namespace ≡ 0 = omega (arith, e) in
    let an : bit_of asked.arg0_namespace ≡ 0 = omega (arith, e) in
    found_all asked found
    (and_from _ _ (and_from _ _ (and_from _ _ (and_from _ _ (not_asked asked.texts.member found.texts.member m) (not_asked asked.texts.interface found.texts.interface i)) (not_asked asked.texts.path found.texts.path p)) (not_asked asked.texts.sender found.texts.sender s)) (not_asked asked.texts.arg0 found.texts.arg0 a))
    (not_asked asked.path_namespace found.path_namespace pn) (not_asked asked.arg0_namespace found.arg0_namespace an)

-- a rule of a shape without a namespace asks for none
pub no_path_namespace : (shape : ℕ) (asked found : LookupTexts) → shape ≡ shape_of asked → shape / 8 % 2 ≡ 0 → is_text_found asked.path_namespace found.path_namespace ≡ true
no_path_namespace shape asked found same none =
    not_asked asked.path_namespace found.path_namespace (sym (shape-path_namespace asked) ∙ ap (λ (n : ℕ). n / 8 % 2) (sym same) ∙ none)

pub no_arg0_namespace : (shape : ℕ) (asked found : LookupTexts) → shape ≡ shape_of asked → shape / 64 % 2 ≡ 0 → is_text_found asked.arg0_namespace found.arg0_namespace ≡ true
no_arg0_namespace shape asked found same none =
    not_asked asked.arg0_namespace found.arg0_namespace (sym (shape-arg0_namespace asked) ∙ ap (λ (n : ℕ). n / 64 % 2) (sym same) ∙ none)

pub other_shape : (shape : ℕ) (found : LookupTexts) (e : Entry) → (shape_of (lookup_texts e.filter) ≡ shape → ⊥) → is_offered shape found e ≡ false
other_shape shape found e other = ap (λ (b : Bool). b && are_found (lookup_texts e.filter) found) (ne_eqb (shape_of (lookup_texts e.filter)) shape other)

pub same_shape : (shape : ℕ) (found : LookupTexts) (e : Entry) → shape_of (lookup_texts e.filter) ≡ shape → is_offered shape found e ≡ are_found (lookup_texts e.filter) found
same_shape shape found e same = ap (λ (b : Bool). b && are_found (lookup_texts e.filter) found) (eq-eqb (shape_of (lookup_texts e.filter)) shape same)

pub no_shape : (shape : ℕ) (found : LookupTexts) (e : Entry) → shape_of (lookup_texts e.filter) ≡ shape → shape ≡ 0 → is_offered shape found e ≡ true
no_shape shape found e same none = same_shape shape found e same ∙ none_asked (lookup_texts e.filter) found (same ∙ none)

abbrev entry_by_test : ℕ → Placed → List Placed → Bool → Option Entry
entry_by_test place x xs t = option_map {T = Placed} {U = Entry} (λ (y : Placed). y.1) (cond t (Some x) (find (λ (y : Placed). eqb place y.0) xs))

-- the entry at a place is one of the entries
pub entry_among : (place : ℕ) (e : Entry) (held : List Placed) → entry_at place held ≡ Some e → Contains (entries_of held) e
entry_among place e [] at = absurd cc
entry_among place e (x ∷ xs) at =
    subst (λ (es : List Entry). Contains es e) (sym (entries_of-cons x xs)) (elim (cases_Bool (eqb place x.0)) [
      | inl here ↦ subst (λ (f : Entry). Contains (entries_of xs ++ x.1 ∷ []) f) (some_one x.1 e (sym (ap (entry_by_test place x xs) here) ∙ at)) (Contains-push (entries_of xs) x.1)
      | inr there ↦ Contains-append_left (entries_of xs) (x.1 ∷ []) e (entry_among place e xs (sym (ap (entry_by_test place x xs) there) ∙ at))
    ])
