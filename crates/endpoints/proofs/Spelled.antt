-- The texts of places, and the places of texts.
use Rattle.std.proofs.Common.{◌≡◌, ◌≢◌, ◌++◌, ◌∷◌, ◌∙◌, ap, sym, subst, refl, ℕ, List, get_or, true, false, Bor}
use Rattle.std.specs.Prelude.{Bool, Option, None, Some, IfSome}
use Rattle.percent_encoding.specs.Percent.{percent_decode}
use Rattle.endpoints.specs.declared.address.Address.{Address}
use Rattle.endpoints.specs.Address.{Place, Spells, IsPort, IsValue, place_of, at_port, at_path, at_name, in_folder, in_runtime, over_tcp, over_unix, over_tcp_escaped, over_tcp_turned, over_unix_escaped, over_name, over_folder, over_temporary, over_runtime, comma, tcp_key, port_key, tcp_port_key, host_key, unix_key, abstract_key, folder_key, temporary_key, runtime_text}
use Rattle.std.specs.Option.{option_map}
use Rattle.endpoints.specs.AddressParts.{Parts, parts_of}
use Rattle.endpoints.proofs.Values.{plain_decodes, plain_is_value}

-- what some place spells is spelled by what is equal to it
pub spelled : (place : Place) (text whole : List ℕ) → text ≡ whole → Spells place whole → Spells place text
spelled place text whole e spells = subst (Spells place) (sym e) spells

-- an address that was read of a host and a port's digits, where they stand in the text
pub found_tcp : (o : Option Address) (host digits text : List ℕ)
    → IfSome o (λ address. (port : ℕ) × (place_of address ≡ at_port (percent_decode host) port) × IsValue host × IsPort digits port)
    → ((port : ℕ) → IsValue host → IsPort digits port → Spells (at_port (percent_decode host) port) text)
    → IfSome o (λ address. Spells (place_of address) text)
found_tcp None host digits text found spells = tt
found_tcp (Some address) host digits text (port, e, value, is_port) spells =
    subst (λ place. Spells place text) (sym e) (spells port value is_port)

-- a place is the one that was read, if it is for each form of text
pub only_of : (o : Option Place) (text : List ℕ)
    → ((host digits : List ℕ) (port : ℕ) → IsValue host → IsPort digits port → text ≡ tcp_key ++ (host ++ comma ∷ (port_key ++ digits)) → o ≡ Some (at_port (percent_decode host) port))
    → ((host digits : List ℕ) (port : ℕ) → IsValue host → IsPort digits port → text ≡ tcp_port_key ++ (digits ++ comma ∷ (host_key ++ host)) → o ≡ Some (at_port (percent_decode host) port))
    → ((path : List ℕ) → IsValue path → text ≡ unix_key ++ path → o ≡ Some (at_path (percent_decode path)))
    → ((name : List ℕ) → IsValue name → text ≡ abstract_key ++ name → o ≡ Some (at_name (percent_decode name)))
    → ((path : List ℕ) → IsValue path → text ≡ folder_key ++ path → o ≡ Some (in_folder (percent_decode path)))
    → ((path : List ℕ) → IsValue path → text ≡ temporary_key ++ path → o ≡ Some (in_folder (percent_decode path)))
    → (text ≡ runtime_text → o ≡ Some in_runtime)
    → (place : Place) → Spells place text → o ≡ Some place
only_of o _ host_first port_first path name folder temporary runtime (at_port host port) (over_tcp digits plain is_port) =
    host_first host digits port (plain_is_value host plain) is_port refl ∙ ap (λ h. Some (at_port h port)) (plain_decodes host plain.1)
only_of o _ host_first port_first path name folder temporary runtime (at_path p) (over_unix plain) =
    path p (plain_is_value p plain) refl ∙ ap (λ q. Some (at_path q)) (plain_decodes p plain.1)
only_of o _ host_first port_first path name folder temporary runtime _ (over_tcp_escaped {port} host digits value is_port) = host_first host digits port value is_port refl
only_of o _ host_first port_first path name folder temporary runtime _ (over_tcp_turned {port} host digits value is_port) = port_first host digits port value is_port refl
only_of o _ host_first port_first path name folder temporary runtime _ (over_unix_escaped p value) = path p value refl
only_of o _ host_first port_first path name folder temporary runtime _ (over_name n value) = name n value refl
only_of o _ host_first port_first path name folder temporary runtime _ (over_folder p value) = folder p value refl
only_of o _ host_first port_first path name folder temporary runtime _ (over_temporary p value) = temporary p value refl
only_of o _ host_first port_first path name folder temporary runtime _ over_runtime = runtime refl

-- a text that was read is the one that it has to be
pub read_text : (o : Option (Bor (List ℕ))) (read : Bor (List ℕ)) (text : List ℕ) → o ≡ Some read → option_map (λ v. v.now) o ≡ Some text → read.now ≡ text
read_text o read text is found = cc

pub read_parts : (o : Option (Bor (List ℕ) × Bor (List ℕ))) (front back : Bor (List ℕ)) (parts : Parts) → o ≡ Some (front, back) → option_map parts_of o ≡ Some parts
    → (front.now ≡ parts.front) × (back.now ≡ parts.back)
read_parts o front back parts is found = (cc, cc)

pub no_text : {A : Type 0} (o : Option (Bor (List ℕ))) (text : List ℕ) → o ≡ None → option_map (λ v. v.now) o ≡ Some text → A
no_text o text is found = cc

pub not_text : {A : Type 0} (o : Option (Bor (List ℕ))) (text : List ℕ) → ((x : Bor (List ℕ)) → o ≡ Some x → ⊥) → option_map (λ v. v.now) o ≡ Some text → A
not_text None text is_not found = cc
not_text (Some x) text is_not found = absurd (is_not x refl)

pub no_parts : {A : Type 0} (o : Option (Bor (List ℕ) × Bor (List ℕ))) (parts : Parts) → o ≡ None → option_map parts_of o ≡ Some parts → A
no_parts o parts is found = cc

-- the letter by which the keys of Unix addresses differ from one another and from those of TCP
abbrev pub letter : List ℕ → ℕ
letter text = get_or text 5 0

-- no text begins with two keys
pub two_keys : {A : Type 0} (text : List ℕ) (a b : ℕ) → letter text ≡ a → letter text ≡ b → a ≢ b → A
two_keys text a b is is_too differ = absurd (differ (sym is ∙ is_too))

pub true_and_false : {A : Type 0} {b : Bool} → b ≡ false → b ≡ true → A
true_and_false e f = cc
