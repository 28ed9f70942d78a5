-- The method that a call is of, found among the rows of the code.
use Rattle.std.proofs.Common.{◌≡◌, Bool, true, false, cond, List, [], ◌∷◌, map, Option, Some, None, option_map, refl, sym, ap, ◌∙◌}
use Rattle.std.specs.Borrow.{Bor}
use Rattle.std.specs.List.{find}
use Rattle.bus_messages.specs.declared.call.MethodEntry.{MethodEntry}
use Rattle.bus_messages.specs.Methods.{MethodRow, methods}
use Rattle.bus_messages.specs.Rows.{method_row_of}

find-shown : (p : MethodRow → Bool) (rows : List MethodEntry) → find p (map method_row_of rows) ≡ option_map method_row_of (find (λ row. p (method_row_of row)) rows)
find-shown p [] = refl
find-shown p (row ∷ rows) =
    elim (p (method_row_of row)) as (λ b. cond b (Some (method_row_of row)) (find p (map method_row_of rows)) ≡ option_map method_row_of (cond b (Some row) (find (λ r. p (method_row_of r)) rows)))
    [ true ↦ refl | false ↦ find-shown p rows ]

lent : (found : Option (Bor MethodEntry)) → option_map (λ row. method_row_of row.now) found ≡ option_map method_row_of (option_map (λ row. row.now) found)
lent (Some row) = refl
lent None = refl

pub found_is : (p : MethodRow → Bool) (found : Option (Bor MethodEntry)) (rows : List MethodEntry) → option_map (λ row. row.now) found ≡ find (λ row. p (method_row_of row)) rows → map method_row_of rows ≡ methods → option_map (λ row. method_row_of row.now) found ≡ find p methods
found_is p found rows is same = lent found ∙ ap (option_map method_row_of) is ∙ sym (find-shown p rows) ∙ ap (find p) same
