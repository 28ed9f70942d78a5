-- The texts of rules (D-Bus Specification, "Match Rules").
use Rattle.std.specs.Prelude.{◌≡◌, ℕ, ◌≤◌, Bool, true, false, List, [], ◌∷◌, ◌++◌, length, Some, Ok, not, ◌==◌, ◌||◌, ◌&&◌}
use Rattle.std.specs.List.{list_all}
use Rattle.match_rule.specs.declared.term.Term.{Term}
use Rattle.match_rule.specs.Bytes.{begins_with}
use Rattle.match_key.specs.Key.{key_named}
use Rattle.match_rule.specs.Condition.{term_key, term_with, has_key, has_path, conditions_in, eavesdrops_in}
use Rattle.match_rule.specs.RuleTree.{RuleTree}

-- space, tab, CR, LF
abbrev pub is_blank : ℕ → Bool
is_blank byte = byte == 32 || byte == 9 || byte == 13 || byte == 10

abbrev pub apostrophe : ℕ
apostrophe = 39

abbrev pub backslash : ℕ
backslash = 92

abbrev pub comma : ℕ
comma = 44

-- `=`, which stands after a key
abbrev pub equals : ℕ
equals = 61

-- a piece of a value's spelling: bytes between apostrophes, a backslash with an apostrophe, or one byte
pub data Piece : Type 0 where
  quoted : (inside : List ℕ) → Piece
  escaped : Piece
  plain : (byte : ℕ) → Piece

abbrev pub piece_bytes : Piece → List ℕ
piece_bytes (quoted inside) = apostrophe ∷ (inside ++ apostrophe ∷ [])
piece_bytes escaped = backslash ∷ apostrophe ∷ []
piece_bytes (plain byte) = byte ∷ []

-- what a piece spells
abbrev pub piece_value : Piece → List ℕ
piece_value (quoted inside) = inside
piece_value escaped = apostrophe ∷ []
piece_value (plain byte) = byte ∷ []

abbrev pub pieces_bytes : List Piece → List ℕ
pieces_bytes [] = []
pieces_bytes (piece ∷ pieces) = piece_bytes piece ++ pieces_bytes pieces

abbrev pub pieces_value : List Piece → List ℕ
pieces_value [] = []
pieces_value (piece ∷ pieces) = piece_value piece ++ pieces_value pieces

-- Between apostrophes is no apostrophe. A byte that spells itself is no apostrophe and no comma, and a
-- backslash only where no apostrophe follows.
abbrev pub IsPiece : Piece → List ℕ → Type 0
IsPiece (quoted inside) tail = list_all (λ byte. not (byte == apostrophe)) inside ≡ true
IsPiece escaped tail = Unit {0}
IsPiece (plain byte) tail = (byte == apostrophe || byte == comma || byte == backslash && begins_with apostrophe tail) ≡ false

abbrev pub ArePieces : List Piece → Type 0
ArePieces [] = Unit {0}
ArePieces (piece ∷ pieces) = IsPiece piece (pieces_bytes pieces) × ArePieces pieces

-- a part: blanks, a key, and the spelling of a value
pub record Part : Type 0 where
  pub blanks : List ℕ
  pub word : List ℕ
  pub pieces : List Piece

abbrev pub part_bytes : Part → List ℕ
part_bytes part = part.blanks ++ (part.word ++ equals ∷ pieces_bytes part.pieces)

-- the part says the term: its key is known, and its value is allowed for the key
pub record IsPart (part : Part) (term : Term) : Type 0 where
  pub blank : list_all is_blank part.blanks ≡ true
  pub known : key_named part.word ≡ Ok (term_key term)
  pub spelled : ArePieces part.pieces
  pub allowed : term_with (term_key term) (pieces_value part.pieces) ≡ Some term

abbrev pub AreParts : List Part → List Term → Type 0
AreParts [] [] = Unit {0}
AreParts (part ∷ parts) (term ∷ terms) = IsPart part term × AreParts parts terms
AreParts _ _ = ⊥

-- each has a key that may stand beside those in front of it
abbrev pub HaveOwnKeys : List Term → List Term → Type 0
HaveOwnKeys front [] = Unit {0}
HaveOwnKeys front (term ∷ terms) =
    (has_key (term_key term) front ≡ false) × (has_path (term_key term) front ≡ false) × HaveOwnKeys (front ++ term ∷ []) terms

-- a comma before each
abbrev pub further_bytes : List Part → List ℕ → List ℕ
further_bytes [] ending = ending
further_bytes (part ∷ parts) ending = comma ∷ (part_bytes part ++ further_bytes parts ending)

-- parts joined by commas, and an ending
abbrev pub parts_bytes : List Part → List ℕ → List ℕ
parts_bytes [] ending = ending
parts_bytes (part ∷ parts) ending = part_bytes part ++ further_bytes parts ending

-- what may end a rule: blanks where it has no part; else nothing, or one last comma and blanks
abbrev pub IsEnding : List Part → List ℕ → Type 0
IsEnding [] ending = list_all is_blank ending ≡ true
IsEnding _ [] = Unit {0}
IsEnding _ (byte ∷ blanks) = (byte ≡ comma) × (list_all is_blank blanks ≡ true)

abbrev pub max_len : ℕ
max_len = 1024

-- the rule of terms
abbrev pub rule_with : List Term → RuleTree
rule_with terms = record { conditions = conditions_in terms; eavesdrops = eavesdrops_in terms }

-- the text reads as the rule
pub record ReadsAs (text : List ℕ) (rule : RuleTree) : Type 0 where
  pub parts : List Part
  pub terms : List Term
  pub ending : List ℕ
  pub short : length text ≤ max_len
  pub spelled : text ≡ parts_bytes parts ending
  pub ends : IsEnding parts ending
  pub said : AreParts parts terms
  pub once : HaveOwnKeys [] terms
  pub says : rule ≡ rule_with terms
