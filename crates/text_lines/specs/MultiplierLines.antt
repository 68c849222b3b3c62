-- The lines of the multipliers, each read at a position: document 01, "The sheet". Assumes nothing.
use Rattle.std.specs.Prelude.{ℕ, List, Bool, cond, Option, Float, eqb}
use Rattle.std.specs.Float.{binary64}
use Rattle.std.specs.Float.Ieee.{of_bits}
use Rattle.text_items.specs.declared.words.Item.{Item}
use Rattle.text_items.specs.Text.{bytes}
use Rattle.text_items.specs.Words.{expect, either}
use Rattle.text_items.specs.Numbers.{double}
use Rattle.text_items.specs.Items.{double_then}
use Rattle.text_lines.specs.declared.multiplier_lines.RhoLine.{RhoLine}

-- "(multipliers checked)" or "(multipliers unchecked)": whether they are checked
unfoldable pub multipliers_line : List ℕ → Option ℕ → Item Bool
multipliers_line text position =
    either text (expect text position (bytes "(multipliers ")) (bytes "checked)\n") (bytes "unchecked)\n")

-- "When `(multipliers checked)`, each rho gains its second correction", with the space before it; else +0. The flag is set unless 0
unfoldable pub second_if : List ℕ → ℕ → Option ℕ → Item Float
second_if text checked position =
    cond (eqb checked 0)
    (record { value = of_bits binary64 0; next = position })
    (double text (expect text position (bytes " ")))

-- "rho: hi, lo"
unfoldable pub rho_line : List ℕ → ℕ → Option ℕ → RhoLine
rho_line text checked position =
    let hi = double_then text (expect text position (bytes "(rho ")) (bytes " ") in
    let lo = double text hi.next in
    let second = second_if text checked lo.next in
    record { hi = hi.value; lo = lo.value; second = second.value; next = expect text second.next (bytes ")\n") }
