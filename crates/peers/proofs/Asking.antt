-- A message of which a filter holds has the texts that the filter asks for.
use Rattle.std.proofs.Common.{◌≡◌, ℕ, Bool, true, false, List, Option, Some, None, refl, sym, ap, subst, ◌∙◌, cond, eqb}
use Rattle.std.specs.Prelude.{IsSomeAnd, slice_get}
use Rattle.std.proofs.lemmas.Bool.{eqb-true}
use Rattle.message_view.specs.Message.{Message}
use Rattle.message_view.specs.Spelling.{arguments_of}
use Rattle.match_key.specs.ArgNumber.{number_of_arg}
use Rattle.match_key.specs.declared.relation.Relation.TheVariants.{NameNamespace}
use Rattle.match_rule.specs.Arguments.{text_in}
use Rattle.match_rule.specs.FixedTexts.{string_in}
use Rattle.match_rule.specs.Holds.{InNamespace, compared_text}
use Rattle.filter.specs.FilterTree.{FilterTree, FilterTrees, test, all, any, negation, no_filters, one_more}
use Rattle.filter.specs.declared.test.Equality.TheVariants as equalities
use Rattle.filter.specs.declared.test.Scope.{Scope}
use Rattle.filter.specs.declared.test.Scope.TheVariants.{PathNamespace, ArgNamespace, ArgPath}
use Rattle.filter.specs.declared.test.Test.{Test}
use Rattle.filter.specs.declared.test.Test.TheVariants as tests
use Rattle.filter.specs.declared.test.TextField.TheVariants as fields
use Rattle.filter.specs.declared.test.TextRelation.TheVariants as relations
use Rattle.filter.specs.declared.test.TextSource.{TextSource}
use Rattle.filter.specs.declared.test.TextSource.TheVariants.{Field, Arg}
use Rattle.filter.specs.declared.test.TextType.TheVariants as types
use Rattle.filter_compile.specs.Holds.{FilterHolds, EachHolds, TestHolds, TextHolds, IsWithin, scope_text, text_of_code}
use Rattle.entry_table.specs.AttachedProgram.{AskedTexts, nothing_asked}
use Rattle.entry_table.specs.OfferedEntries.{IsFor}
use Rattle.peers.specs.AskedTexts.{with_text, with_scope, with_test, with_filter, with_filters, asked_by}
use Rattle.peers.specs.Attachments.{AsksFor}

-- a text that equals another is that one
equal_is : (found : Option (List ℕ)) (text : List ℕ) → IsSomeAnd found (λ t. t ≡ text) → found ≡ Some text
equal_is None text h = absurd h
equal_is (Some t) text h = ap (λ (x : List ℕ). Some x) h

string_is : (o : Option (ℕ × List ℕ)) → text_of_code 115 o ≡ string_in o
string_is None = refl
string_is (Some found) = refl

name_is : (o : Option (ℕ × List ℕ)) → compared_text NameNamespace o ≡ string_in o
name_is None = refl
name_is (Some found) = refl

nothing_for : (m : Message) → IsFor nothing_asked m
nothing_for m = (record { member = tt; interface = tt; path = tt; sender = tt; arg0 = tt }, record { path = tt; arg0 = tt })

module _ (m : Message) (owned : List ℕ → Bool) where
  abbrev arg : ℕ → Option (ℕ × List ℕ)
  arg n = text_in (slice_get (arguments_of m) n)

  text_kept : (source : TextSource) (text : List ℕ) (asked : AskedTexts) → TextHolds source relations.Equal text m owned → IsFor asked m → IsFor (with_text source text asked) m
  text_kept (Field fields.Member) text asked h kept = (record { member = equal_is _ _ h; interface = kept.0.interface; path = kept.0.path; sender = kept.0.sender; arg0 = kept.0.arg0 }, kept.1)
  text_kept (Field fields.Interface) text asked h kept = (record { member = kept.0.member; interface = equal_is _ _ h; path = kept.0.path; sender = kept.0.sender; arg0 = kept.0.arg0 }, kept.1)
  text_kept (Field fields.Path) text asked h kept = (record { member = kept.0.member; interface = kept.0.interface; path = equal_is _ _ h; sender = kept.0.sender; arg0 = kept.0.arg0 }, kept.1)
  text_kept (Field fields.ErrorName) text asked h kept = kept
  text_kept (Field fields.Destination) text asked h kept = kept
  text_kept (Field fields.Sender) text asked h kept = kept
  text_kept (Arg n types.ObjectPath) text asked h kept = kept
  text_kept (Arg n types.Signature) text asked h kept = kept
  text_kept (Arg n types.String) text asked h kept = go (eqb (number_of_arg n) 0) refl
    where
      go : (b : Bool) → eqb (number_of_arg n) 0 ≡ b → IsFor (cond b (record asked { texts = record asked.texts { arg0 = Some text } }) asked) m
      go false e = kept
      go true e = (
        record {
          member = kept.0.member;
          interface = kept.0.interface;
          path = kept.0.path;
          sender = kept.0.sender;
          arg0 = sym (string_is (arg 0)) ∙ ap (λ (k : ℕ). text_of_code 115 (arg k)) (sym (eqb-true (number_of_arg n) 0 e)) ∙ equal_is (text_of_code 115 (arg (number_of_arg n))) text h;
        },
        kept.1,
      )

  scope_kept : (scope : Scope) (text : List ℕ) (asked : AskedTexts) → IsSomeAnd (scope_text scope m) (λ found. IsWithin scope found text) → IsFor asked m → IsFor (with_scope scope text asked) m
  scope_kept PathNamespace text asked h kept = (kept.0, record { path = h; arg0 = kept.1.arg0 })
  scope_kept (ArgPath n) text asked h kept = kept
  scope_kept (ArgNamespace n) text asked h kept = go (eqb (number_of_arg n) 0) refl
    where
      go : (b : Bool) → eqb (number_of_arg n) 0 ≡ b → IsFor (cond b (record asked { namespaces = record asked.namespaces { arg0 = Some text } }) asked) m
      go false e = kept
      go true e = (
        kept.0,
        record {
          path = kept.1.path;
          arg0 = subst (λ (o : Option (List ℕ)). IsSomeAnd o (λ found. InNamespace found text)) (ap (λ (k : ℕ). compared_text NameNamespace (arg k)) (eqb-true (number_of_arg n) 0 e) ∙ name_is (arg 0)) h;
        },
      )

  test_kept : (t : Test) (asked : AskedTexts) → TestHolds t m owned → IsFor asked m → IsFor (with_test t asked) m
  test_kept (tests.Text source relations.Equal text) asked h kept = text_kept source text asked h kept
  test_kept (tests.Text source relations.Unequal text) asked h kept = kept
  test_kept (tests.Text source relations.Begins text) asked h kept = kept
  test_kept (tests.Text source relations.Ends text) asked h kept = kept
  test_kept (tests.Within scope equalities.Equal text) asked h kept = scope_kept scope text asked h kept
  test_kept (tests.Within scope equalities.Unequal text) asked h kept = kept
  test_kept (tests.Kind equality kind) asked h kept = kept
  test_kept tests.Broadcast asked h kept = kept
  test_kept (tests.Flag flag) asked h kept = kept
  test_kept (tests.HasField field) asked h kept = kept
  test_kept (tests.HasArg n) asked h kept = kept
  test_kept (tests.IsType n type) asked h kept = kept
  test_kept (tests.Truth n equality truth) asked h kept = kept
  test_kept (tests.Number source relation value) asked h kept = kept

  filter_kept : (f : FilterTree) (asked : AskedTexts) → FilterHolds f m owned → IsFor asked m → IsFor (with_filter f asked) m
  filter_kept (test t) asked h kept = test_kept t asked h kept
  filter_kept (all fs) asked h kept = kept
  filter_kept (any fs) asked h kept = kept
  filter_kept (negation f) asked h kept = kept

  filters_kept : (fs : FilterTrees) (asked : AskedTexts) → EachHolds fs m owned → IsFor asked m → IsFor (with_filters fs asked) m
  filters_kept no_filters asked h kept = kept
  filters_kept (one_more f fs) asked h kept = filters_kept fs (with_filter f asked) h.1 (filter_kept f asked h.0 kept)

pub asks_for : (f : FilterTree) → AsksFor f (asked_by f)
asks_for (test t) = λ m owned h. test_kept m owned t nothing_asked h (nothing_for m)
asks_for (all fs) = λ m owned h. filters_kept m owned fs nothing_asked h (nothing_for m)
asks_for (any fs) = λ m owned h. nothing_for m
asks_for (negation f) = λ m owned h. nothing_for m
