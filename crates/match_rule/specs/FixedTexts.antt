-- The texts that a rule fixes by equality, which an index looks its entries up by (own).
use Rattle.std.specs.Prelude.{◌≡◌, ℕ, List, [], ◌∷◌, Option, Some, None, IfSome, slice_get, ◌==◌, if◌then◌else◌}
use Rattle.message_view.specs.Message.{Message, path_of, interface_of, member_of, sender_of}
use Rattle.message_view.specs.Spelling.{arguments_of}
use Rattle.match_rule.specs.declared.condition.Condition.{Condition}
use Rattle.match_rule.specs.declared.condition.Condition.TheVariants.{Sender}
use Rattle.match_key.specs.declared.source.Field.TheVariants.{Interface, Member, Path}
use Rattle.match_key.specs.declared.source.Source.TheVariants.{Header, Arg}
use Rattle.match_key.specs.declared.relation.Relation.TheVariants.{Equal}
use Rattle.match_key.specs.declared.key.Key.{Key}
use Rattle.match_key.specs.declared.key.Key.TheVariants as keys
use Rattle.match_key.specs.ArgNumber.{first_arg}
use Rattle.match_key.specs.Key.{key_eq}
use Rattle.match_rule.specs.Condition.{key_of, value_of}
use Rattle.match_rule.specs.Arguments.{text_in}
use Rattle.match_rule.specs.RuleTree.{RuleTree, is_owned_name, or_else}

-- a text, or none, for each of the five keys
pub record FixedTexts : Type 0 where
  pub member : Option (List ℕ)
  pub interface : Option (List ℕ)
  pub path : Option (List ℕ)
  pub sender : Option (List ℕ)
  pub arg0 : Option (List ℕ)

-- no key has a text
abbrev pub no_texts : FixedTexts
no_texts = record { member = None; interface = None; path = None; sender = None; arg0 = None }

-- the value of a condition with this key
abbrev pub value_in : Key → Condition → Option (List ℕ)
value_in key c = if key_eq (key_of c) key then Some (value_of c) else None

-- the text of the first condition that has one
abbrev pub first_text : (Condition → Option (List ℕ)) → List Condition → Option (List ℕ)
first_text text_of [] = None
first_text text_of (c ∷ cs) = or_else (text_of c) (first_text text_of cs)

-- the value of the first condition with this key
abbrev pub value_asked : Key → RuleTree → Option (List ℕ)
value_asked key rule = first_text (value_in key) rule.conditions

abbrev pub member_asked : RuleTree → Option (List ℕ)
member_asked rule = value_asked (keys.Compares (Header Member) Equal) rule

abbrev pub interface_asked : RuleTree → Option (List ℕ)
interface_asked rule = value_asked (keys.Compares (Header Interface) Equal) rule

abbrev pub path_asked : RuleTree → Option (List ℕ)
path_asked rule = value_asked (keys.Compares (Header Path) Equal) rule

abbrev pub arg0_asked : RuleTree → Option (List ℕ)
arg0_asked rule = value_asked (keys.Compares (Arg first_arg) Equal) rule

-- the sender that a condition asks for by its own name, which a message's SENDER may be; who owns another name isn't seen there
abbrev pub own_sender_in : Condition → Option (List ℕ)
own_sender_in (Sender name) = if is_owned_name name then None else Some name
own_sender_in _ = None

abbrev pub own_sender_asked : RuleTree → Option (List ℕ)
own_sender_asked rule = first_text own_sender_in rule.conditions

-- the texts that a rule fixes
abbrev pub fixed_texts : RuleTree → FixedTexts
fixed_texts rule = record { member = member_asked rule; interface = interface_asked rule; path = path_asked rule; sender = own_sender_asked rule; arg0 = arg0_asked rule }

-- a text of type `s`
abbrev pub string_in : Option (ℕ × List ℕ) → Option (List ℕ)
string_in None = None
string_in (Some found) = if found.0 == 115 then Some found.1 else None

-- the message's argument 0, where it has type `s`
abbrev pub arg0_of : Message → Option (List ℕ)
arg0_of m = string_in (text_in (slice_get (arguments_of m) 0))

-- the texts that a message has of the five keys
abbrev pub texts_of : Message → FixedTexts
texts_of m = record { member = member_of m; interface = interface_of m; path = path_of m; sender = sender_of m; arg0 = arg0_of m }

-- those of the message, were this its sender
abbrev pub texts_from : Option (List ℕ) → Message → FixedTexts
texts_from sender m = record (texts_of m) { sender = sender }

-- each text that is asked for is found
pub record AreFound (asked found : FixedTexts) : Type 0 where
  pub member : IfSome asked.member (λ text. found.member ≡ Some text)
  pub interface : IfSome asked.interface (λ text. found.interface ≡ Some text)
  pub path : IfSome asked.path (λ text. found.path ≡ Some text)
  pub sender : IfSome asked.sender (λ text. found.sender ≡ Some text)
  pub arg0 : IfSome asked.arg0 (λ text. found.arg0 ≡ Some text)
