-- What a client is asked that claims to know a cookie, and what it answers (D-Bus Specification, "DBUS_COOKIE_SHA1").
use Rattle.std.specs.Prelude.{ℕ, ◌∷◌, ◌++◌, List, Bool, false, Option, Some, None, Result, Ok, Err, codes, decimal}
use Rattle.std.specs.Str.{bytes_eq}
use Rattle.sha1.specs.Sha1.{sha1}
use Rattle.hex.specs.Hex.{encode_lower, decode_of}
use Rattle.hex.specs.declared.error.FromHexError.{FromHexError}
use Rattle.auth.specs.declared.challenge.CookieChallenge.{CookieChallenge}
use Rattle.auth.specs.Commands.{space, words_of}

-- the keyring's name, the cookie's number in it, and the server's challenge
abbrev pub question : CookieChallenge → List ℕ
question c = codes "dbusfan " ++ decimal c.id ++ space ∷ c.nonce

-- the digest of the server's challenge, the client's and the cookie
abbrev pub digest : CookieChallenge → List ℕ → List ℕ
digest c chosen = sha1 (c.nonce ++ codes ":" ++ chosen ++ codes ":" ++ c.cookie)

-- the client's challenge is what stands before the first space, and its response what follows it
abbrev pub answers : CookieChallenge → List ℕ → Option (List ℕ) → Bool
answers c chosen None = false
answers c chosen (Some answer) = bytes_eq (encode_lower (digest c chosen)) answer

abbrev pub answers_in : CookieChallenge → Result (List ℕ) FromHexError → Bool
answers_in c (Ok bytes) = answers c (words_of bytes).word (words_of bytes).more
answers_in c (Err e) = false

-- whether a text spells, in hexadecimal, a client's challenge and the response to both
abbrev pub is_answered : CookieChallenge → List ℕ → Bool
is_answered c text = answers_in c (decode_of text)
