-- Which commands a talk admits (D-Bus Specification, "Authentication Mechanisms").
use Rattle.std.specs.Prelude.{ℕ, ◌||◌, Bool, true, false, List, [], ◌∷◌, Option, Some, None, decimal, if◌then◌else◌}
use Rattle.std.specs.Str.{bytes_eq}
use Rattle.hex.specs.Hex.{encode_lower}
use Rattle.auth.specs.declared.admission.External.{External}
use Rattle.auth.specs.declared.admission.External.TheVariants.{Anybody, User, Nobody}
use Rattle.auth.specs.declared.admission.Admission.{Admission}
use Rattle.auth.specs.declared.challenge.CookieChallenge.{CookieChallenge}
use Rattle.auth.specs.declared.command.Command.{Command}
use Rattle.auth.specs.declared.command.Command.TheVariants.{AskExternal, AskCookie, Claim, Trace, OtherAuth, Response, OtherData}
use Rattle.auth.specs.declared.stage.Stage.{Stage}
use Rattle.auth.specs.declared.stage.Stage.TheVariants.{Challenged}
use Rattle.auth.specs.Challenges.{is_answered}

-- EXTERNAL for anybody, and ANONYMOUS
abbrev pub any_admission : Admission
any_admission = record { external = Anybody; cookie = None; anonymous = true }

-- a user's number, each of its decimal digits as two hexadecimal ones
abbrev pub spells_user : ℕ → List ℕ → Bool
spells_user user text = bytes_eq text (encode_lower (decimal user))

abbrev pub is_none : List ℕ → Bool
is_none [] = true
is_none (byte ∷ bytes) = false

abbrev pub admits_external : External → Bool
admits_external Nobody = false
admits_external external = true

-- a client claims a user, or leaves it to the server to know the user
abbrev pub admits_user : External → List ℕ → Bool
admits_user Anybody claim = true
admits_user (User user) claim = is_none claim || spells_user user claim
admits_user Nobody claim = false

-- the cookie is one of the user whom a claim names
abbrev pub admits_keeper : Option CookieChallenge → List ℕ → Bool
admits_keeper (Some challenge) claim = spells_user challenge.user claim
admits_keeper None claim = false

-- what a client says after DATA lets it in
abbrev pub is_answer : Admission → Stage → List ℕ → Bool
is_answer a Challenged claim = by_cookie a.cookie
  where
    by_cookie : Option CookieChallenge → Bool
    by_cookie (Some challenge) = is_answered challenge claim
    by_cookie None = false
is_answer a stage claim = admits_user a.external claim

-- a command, or in place of one that isn't admitted another of its word, which is rejected
abbrev pub admit : Admission → Stage → List ℕ → Command → Command
admit a stage claim AskExternal = if admits_user a.external claim then AskExternal else OtherAuth
admit a stage claim Claim = if admits_user a.external claim then Claim else OtherAuth
admit a stage claim Trace = if a.anonymous then Trace else OtherAuth
admit a stage claim AskCookie = if admits_keeper a.cookie claim then AskCookie else OtherAuth
admit a stage claim Response = if is_answer a stage claim then Response else OtherData
admit a stage claim command = command
