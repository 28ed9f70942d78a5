-- The keys of rules (D-Bus Specification, "Match Rules").
use Rattle.std.specs.Prelude.{ℕ, ◌+◌, ◌-◌, ◌*◌, Bool, false, ◌&&◌, ◌||◌, List, [], ◌∷◌, drop, length, Option, Some, None, Result, Ok, Err, codes, nat_le, ◌==◌, if◌then◌else◌}
use Rattle.signature.specs.Name.{is_digit}
use Rattle.match_key.specs.declared.error.RuleError.{RuleError}
use Rattle.match_key.specs.declared.error.RuleError.TheVariants as errors
use Rattle.match_key.specs.declared.arg_number.ArgNumber.{ArgNumber}
use Rattle.match_key.specs.declared.source.Field.TheVariants.{Interface, Member, Path, Destination}
use Rattle.match_key.specs.declared.source.Source.TheVariants.{Header, Arg}
use Rattle.match_key.specs.declared.relation.Relation.{Relation}
use Rattle.match_key.specs.declared.relation.Relation.TheVariants.{Equal, PathNamespace, NameNamespace, NestedPath}
use Rattle.match_key.specs.declared.key.Key.{Key}
use Rattle.match_key.specs.declared.key.Key.TheVariants.{Kind, Sender, Eavesdrop, Compares}
use Rattle.match_key.specs.contracts.key.KeyPartialEq.TheImpl as derived
use Rattle.match_key.specs.ArgNumber.{max_arg, number_of_arg, arg_of_number}
use Rattle.match_key.specs.Rows.{row_of}

-- ---- the words of keys

-- the keys that are one word
abbrev pub key_words : List (List ℕ × Key)
key_words =
    (codes "type", Kind)
    ∷ (codes "sender", Sender)
    ∷ (codes "interface", Compares (Header Interface) Equal)
    ∷ (codes "member", Compares (Header Member) Equal)
    ∷ (codes "path", Compares (Header Path) Equal)
    ∷ (codes "path_namespace", Compares (Header Path) PathNamespace)
    ∷ (codes "destination", Compares (Header Destination) Equal)
    ∷ (codes "eavesdrop", Eavesdrop)
    ∷ []

-- what may follow the number of an argument: the relation, and the greatest number that it may have
abbrev pub arg_suffixes : List (List ℕ × (Relation × ℕ))
arg_suffixes =
    ([], (Equal, max_arg))
    ∷ (codes "path", (NestedPath, max_arg))
    ∷ (codes "namespace", (NameNamespace, 0))
    ∷ []

-- the longest run of digits in front
abbrev pub digits_of : List ℕ → List ℕ
digits_of [] = []
digits_of (b ∷ bs) = if is_digit b then b ∷ digits_of bs else []

-- what stands after those digits
abbrev pub after_digits : List ℕ → List ℕ
after_digits [] = []
after_digits (b ∷ bs) = if is_digit b then after_digits bs else b ∷ bs

abbrev pub up_to_max : ℕ → Option ArgNumber
up_to_max n = if nat_le n max_arg then Some (arg_of_number n) else None

-- the number of an argument: one digit, or two of which the first isn't 0
abbrev pub arg_number : List ℕ → Option ArgNumber
arg_number (d ∷ []) = up_to_max (d - 48)
arg_number (d ∷ e ∷ []) = if d == 48 then None else up_to_max (10 * (d - 48) + (e - 48))
arg_number _ = None

-- the key of an argument's number: the relation of a row, where the number isn't above the row's greatest
abbrev pub numbered_key : Relation × ℕ → Option ArgNumber → Result Key RuleError
numbered_key row None = Err errors.ArgNumber
numbered_key row (Some n) = if nat_le (number_of_arg n) row.1 then Ok (Compares (Arg n) row.0) else Err errors.ArgNumber

abbrev pub suffixed_key : Option (Relation × ℕ) → Option ArgNumber → Result Key RuleError
suffixed_key None number = Err errors.UnknownKey
suffixed_key (Some row) number = numbered_key row number

-- the key of digits and what follows them
abbrev pub arg_key : List ℕ → List ℕ → Result Key RuleError
arg_key digits suffix =
    if length digits == 0 then Err errors.UnknownKey else suffixed_key (row_of arg_suffixes suffix) (arg_number digits)

-- whether the word begins with `arg`
abbrev pub is_of_arg : List ℕ → Bool
is_of_arg (a ∷ b ∷ c ∷ rest) = a == 97 && b == 114 && c == 103
is_of_arg _ = false

abbrev pub or_key : Option Key → Result Key RuleError → Result Key RuleError
or_key (Some key) other = Ok key
or_key None other = other

-- the key of a word, or why it is none
abbrev pub key_named : List ℕ → Result Key RuleError
key_named word =
    or_key (row_of key_words word) (if is_of_arg word then arg_key (digits_of (drop 3 word)) (after_digits (drop 3 word)) else Err errors.UnknownKey)

-- ---- keys beside one another

-- the same key, as the derived `==` tells
abbrev pub key_eq : Key → Key → Bool
key_eq a b = (derived.ghosts).eq a b

-- `argN` and `argNpath` share one, so that a rule has one of them for each N
abbrev pub once_relation : Relation → Relation
once_relation NestedPath = Equal
once_relation relation = relation

-- the key that stands for all those of which a rule may have only one
abbrev pub once_key : Key → Key
once_key (Compares source relation) = Compares source (once_relation relation)
once_key key = key

-- a rule may not have both
abbrev pub is_twice : Key → Key → Bool
is_twice a b = key_eq (once_key a) (once_key b)

abbrev pub path_key : Key
path_key = Compares (Header Path) Equal

abbrev pub path_namespace_key : Key
path_namespace_key = Compares (Header Path) PathNamespace

-- `path` and `path_namespace`
abbrev pub is_path_twice : Key → Key → Bool
is_path_twice a b = key_eq a path_key && key_eq b path_namespace_key || key_eq a path_namespace_key && key_eq b path_key
