-- The name of a bus, its interface and its path may stand in any message.
use Rattle.std.proofs.Common.{◌≡◌, ℕ, Bool, true, false, List, refl, sym, subst}
use Rattle.std.specs.Prelude.{◌||◌, codes}
use Rattle.std.specs.Str.{bytes_eq}
use Rattle.std.proofs.lemmas.Slice.Eq.{bytes_eq-Decides}
use Rattle.signature.specs.Name.{is_bus_name}
use Rattle.message_build.specs.HeaderFields.{is_open_interface, is_open_path}

-- a test that is true of one text needn't be made of it
known : (test : List ℕ → Bool) (own text : List ℕ) → test own ≡ true → (bytes_eq text own || test text) ≡ test text
known test own text holds = go (bytes_eq text own) refl
  where
    go : (b : Bool) → bytes_eq text own ≡ b → (bytes_eq text own || test text) ≡ test text
    go true is =
        let same : text ≡ own = (bytes_eq-Decides text own).0 is in
        let too : test text ≡ true = subst (λ t. test t ≡ true) (sym same) holds in
        rw is (sym too)
    go false is = rw is refl

pub path_or_bus : (text : List ℕ) → (bytes_eq text (codes "/org/freedesktop/DBus") || is_open_path text) ≡ is_open_path text
path_or_bus text = known is_open_path (codes "/org/freedesktop/DBus") text refl

pub interface_or_bus : (text : List ℕ) → (bytes_eq text (codes "org.freedesktop.DBus") || is_open_interface text) ≡ is_open_interface text
interface_or_bus text = known is_open_interface (codes "org.freedesktop.DBus") text refl

pub name_or_bus : (text : List ℕ) → (bytes_eq text (codes "org.freedesktop.DBus") || is_bus_name text) ≡ is_bus_name text
name_or_bus text = known is_bus_name (codes "org.freedesktop.DBus") text refl
