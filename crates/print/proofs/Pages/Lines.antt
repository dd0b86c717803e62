-- The page as its pieces: the newline of each line stands in front of the next. Assumes nothing.
use Prim.Native.Nat.{ℕ}
use mathlib.Core.Path.{◌≡◌, sym, ap, ◌∙◌}
use mathlib.Core.List.{List, [], ◌∷◌, ◌++◌, append_assoc}
use lib.IntN.{ℤ}
use Rattle.print.specs.Decimal.{signed}
use Rattle.print.specs.Line.{space, newline, fields, line}
use Rattle.print.specs.Inner.Written.{Written}
use Rattle.print.specs.Print.{unit_name, vars_name, rest_name, h_name, g_name, aux_name, head_line, page_of}

-- the newline in front of a line's name
turned : (x name xs : List ℕ) → (x ++ ((newline ∷ name) ++ fields xs)) ++ (newline ∷ []) ≡ (x ++ (newline ∷ [])) ++ line name xs
unfolding line
turned x name xs = append_assoc x ((newline ∷ name) ++ fields xs) (newline ∷ []) ∙ sym (append_assoc x (newline ∷ []) (line name xs))

module _ (numbers : List ℕ) (excess : ℤ) (masks : List ℕ) (kept : ℕ) (h g aux : List ℕ) where
  -- the text up to the newline of each line
  abbrev first : List ℕ
  first = (unit_name ++ fields numbers) ++ (space ∷ signed excess)

  abbrev second : List ℕ
  second = first ++ ((newline ∷ vars_name) ++ fields masks)

  abbrev third : List ℕ
  third = second ++ ((newline ∷ rest_name) ++ fields (kept ∷ []))

  abbrev fourth : List ℕ
  fourth = third ++ ((newline ∷ h_name) ++ fields h)

  abbrev fifth : List ℕ
  fifth = fourth ++ ((newline ∷ g_name) ++ fields g)

  page_pieces : (fifth ++ ((newline ∷ aux_name) ++ fields aux)) ++ (newline ∷ []) ≡ page_of numbers excess masks kept h g aux
  unfolding page_of head_line
  page_pieces =
      turned fifth aux_name aux
      ∙ ap (λ (l : List ℕ). l ++ line aux_name aux)
      (turned fourth g_name g
      ∙ ap (λ (l : List ℕ). l ++ line g_name g)
      (turned third h_name h
      ∙ ap (λ (l : List ℕ). l ++ line h_name h)
      (turned second rest_name (kept ∷ []) ∙ ap (λ (l : List ℕ). l ++ line rest_name (kept ∷ [])) (turned first vars_name masks))))

-- the pieces written; y is the excess as the code hands it on
pub page_written : {y : ℤ} {old out : List ℕ} {end : ℕ} (numbers : List ℕ) (excess : ℤ) (masks : List ℕ) (kept : ℕ) (h g aux : List ℕ) → y ≡ excess
    → Written old 0 ((fifth numbers y masks kept h g aux ++ ((newline ∷ aux_name) ++ fields aux)) ++ (newline ∷ [])) out end
    → Written old 0 (page_of numbers excess masks kept h g aux) out end
page_written {y} numbers excess masks kept h g aux e w = rw (page_pieces numbers y masks kept h g aux, e) at w
