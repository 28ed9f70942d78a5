-- Keys that test as equal are one.
use Rattle.std.proofs.Common.{◌≡◌, true, refl, ap, subst}
use Rattle.std.specs.Bool.{Decides}
use Rattle.std.proofs.lemmas.Bool.{and_parts}
use Rattle.match_key.specs.declared.source.Field.{Field}
use Rattle.match_key.specs.declared.source.Field.TheVariants.{Interface, Member, Path, Destination}
use Rattle.match_key.specs.declared.source.Source.{Source}
use Rattle.match_key.specs.declared.source.Source.TheVariants.{Header, Arg}
use Rattle.match_key.specs.declared.arg_number.Octal.{Octal}
use Rattle.match_key.specs.declared.arg_number.Octal.TheVariants.{Zero, One, Two, Three, Four, Five, Six, Seven}
use Rattle.match_key.specs.declared.arg_number.ArgNumber.{ArgNumber}
use Rattle.match_key.specs.declared.relation.Relation.{Relation}
use Rattle.match_key.specs.declared.relation.Relation.TheVariants.{Equal, PathNamespace, NameNamespace, NestedPath}
use Rattle.match_key.specs.declared.key.Key.{Key}
use Rattle.match_key.specs.declared.key.Key.TheVariants as keys
use Rattle.match_key.specs.contracts.source.FieldPartialEq.TheImpl as fields
use Rattle.match_key.specs.contracts.arg_number.OctalPartialEq.TheImpl as octals
use Rattle.match_key.specs.contracts.arg_number.ArgNumberPartialEq.TheImpl as numbers
use Rattle.match_key.specs.contracts.source.SourcePartialEq.TheImpl as sources
use Rattle.match_key.specs.contracts.relation.RelationPartialEq.TheImpl as relations
use Rattle.match_key.specs.contracts.key.KeyEq.TheImpl.Laws.{laws-law}
use Rattle.match_key.specs.Key.{key_eq}

same_field : (a b : Field) → (fields.ghosts).eq a b ≡ true → a ≡ b
same_field Interface Interface e = refl
same_field Member Member e = refl
same_field Path Path e = refl
same_field Destination Destination e = refl
same_field _ _ e = absurd cc

same_octal : (a b : Octal) → (octals.ghosts).eq a b ≡ true → a ≡ b
same_octal Zero Zero e = refl
same_octal One One e = refl
same_octal Two Two e = refl
same_octal Three Three e = refl
same_octal Four Four e = refl
same_octal Five Five e = refl
same_octal Six Six e = refl
same_octal Seven Seven e = refl
same_octal _ _ e = absurd cc

same_number : (a b : ArgNumber) → (numbers.ghosts).eq a b ≡ true → a ≡ b
same_number a b e =
    let same = and_parts ((octals.ghosts).eq a.eights b.eights) ((octals.ghosts).eq a.ones b.ones) e in
    subst (λ (o : Octal). a ≡ record { eights = o; ones = b.ones }) (same_octal a.eights b.eights same.0)
    (subst (λ (o : Octal). a ≡ record { eights = a.eights; ones = o }) (same_octal a.ones b.ones same.1) refl)

same_source : (a b : Source) → (sources.ghosts).eq a b ≡ true → a ≡ b
same_source (Header f) (Header g) e = ap Header (same_field f g e)
same_source (Arg n) (Arg k) e = ap Arg (same_number n k e)
same_source _ _ e = absurd cc

same_relation : (a b : Relation) → (relations.ghosts).eq a b ≡ true → a ≡ b
same_relation Equal Equal e = refl
same_relation PathNamespace PathNamespace e = refl
same_relation NameNamespace NameNamespace e = refl
same_relation NestedPath NestedPath e = refl
same_relation _ _ e = absurd cc

pub same_key : (a b : Key) → key_eq a b ≡ true → a ≡ b
same_key keys.Kind keys.Kind e = refl
same_key keys.Sender keys.Sender e = refl
same_key keys.Eavesdrop keys.Eavesdrop e = refl
same_key (keys.Compares s r) (keys.Compares t q) e =
    let same = and_parts ((sources.ghosts).eq s t) ((relations.ghosts).eq r q) e in
    let sources = same_source s t same.0 in
    let relations = same_relation r q same.1 in
    cc
same_key _ _ e = absurd cc

pub keys_decide : (a b : Key) → Decides (key_eq a b) (a ≡ b)
keys_decide a b = (same_key a b, λ e. subst (λ (k : Key). key_eq a k ≡ true) e (laws-law.refl a))
