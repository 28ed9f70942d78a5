-- The kinds of messages that a rule can ask for (D-Bus Specification, "Match Rules").
use Rattle.std.specs.Prelude.{ℕ, List, [], ◌∷◌, Option, codes}
use Rattle.message_view.specs.declared.kind.Kind as kinds
use Rattle.message_view.specs.declared.kind.Kind.TheVariants as kinds_of
use Rattle.match_key.specs.declared.kind_name.KindName.{KindName}
use Rattle.match_key.specs.declared.kind_name.KindName.TheVariants.{Signal, MethodCall, MethodReturn, Error}
use Rattle.match_key.specs.Rows.{row_of}

-- the words for kinds
abbrev pub kind_word : KindName → List ℕ
kind_word Signal = codes "signal"
kind_word MethodCall = codes "method_call"
kind_word MethodReturn = codes "method_return"
kind_word Error = codes "error"

abbrev pub kind_words : List (List ℕ × KindName)
kind_words =
    (codes "signal", Signal) ∷ (codes "method_call", MethodCall) ∷ (codes "method_return", MethodReturn) ∷ (codes "error", Error) ∷ []

abbrev pub kind_named : List ℕ → Option KindName
kind_named word = row_of kind_words word

-- the kind of message that a word names
abbrev pub kind_meant : KindName → kinds.Kind
kind_meant Signal = kinds_of.Signal
kind_meant MethodCall = kinds_of.MethodCall
kind_meant MethodReturn = kinds_of.MethodReturn
kind_meant Error = kinds_of.Error
