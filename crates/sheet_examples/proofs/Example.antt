-- Document 01's example sheet follows the form and says what is expected; texts a little off it do not follow the form. By computation. Assumes
-- nothing.
use mathlib.Core.Path.{◌≡◌, refl}
use mathlib.Core.List.{[], ◌∷◌, ◌++◌}
use mathlib.Core.Bool.{true, false}
use Rattle.sheet.specs.Sheet.{sheet}
use Rattle.text_items.specs.Text.{bytes}
use Rattle.sheet_text.specs.Form.{follows_form}
use Rattle.sheet_text.specs.SheetIn.{lent_outputs, sheet_in}
use Rattle.sheet_examples.proofs.Texts.{sizes, feasible, variable, slack, row, unchecked, rho, leave, text, zero, one, two, three, sheet_on_literals}

follows : follows_form text ≡ true
unfolding sheet_on_literals
follows = refl

says : sheet_in text
    ≡ sheet (record { rows = 1; structurals = 1; entries = 2 }) zero 0 0 0 lent_outputs (0 ∷ 2 ∷ []) (0 ∷ 1 ∷ []) (one ∷ one ∷ []) (three ∷ []) (one ∷ []) (1 ∷ [])
    (zero ∷ zero ∷ []) (one ∷ zero ∷ []) (zero ∷ zero ∷ []) (zero ∷ zero ∷ []) (0 ∷ 1 ∷ []) (0 ∷ 0 ∷ []) (one ∷ two ∷ []) [] (one ∷ []) (zero ∷ []) (zero ∷ [])
unfolding sheet_on_literals
says = refl

-- without the last newline
no_last_newline : follows_form (sizes ++ feasible ++ variable ++ slack ++ row ++ unchecked ++ rho ++ bytes "(leave 0 down)") ≡ false
unfolding sheet_on_literals
no_last_newline = refl

-- a byte behind the last newline
byte_behind : follows_form (sizes ++ feasible ++ variable ++ slack ++ row ++ unchecked ++ rho ++ leave ++ bytes " ") ≡ false
unfolding sheet_on_literals
byte_behind = refl

-- one space more
space_more : follows_form (sizes ++ feasible ++ variable ++ bytes "(slack 0  0 0 0 (basic 0 4000000000000000))\n" ++ row ++ unchecked ++ rho ++ leave) ≡ false
unfolding sheet_on_literals
space_more = refl

-- a lower-case digit
lower_case : follows_form (sizes ++ feasible ++ variable ++ slack ++ row ++ unchecked ++ bytes "(rho 3fF0000000000000 0)\n" ++ leave) ≡ false
unfolding sheet_on_literals
lower_case = refl

-- a double of 17 digits
seventeen_digits : follows_form (sizes ++ bytes "(feasibility 00000000000000000)\n" ++ variable ++ slack ++ row ++ unchecked ++ rho ++ leave) ≡ false
unfolding sheet_on_literals
seventeen_digits = refl

-- a count of six digits
six_digits : follows_form (sizes ++ feasible ++ variable ++ slack ++ row ++ unchecked ++ rho ++ bytes "(leave 000000 down)\n") ≡ false
unfolding sheet_on_literals
six_digits = refl

-- the slack's line missing
line_missing : follows_form (sizes ++ feasible ++ variable ++ row ++ unchecked ++ rho ++ leave) ≡ false
unfolding sheet_on_literals
line_missing = refl

-- the slack's line before the variable's
lines_swapped : follows_form (sizes ++ feasible ++ slack ++ variable ++ row ++ unchecked ++ rho ++ leave) ≡ false
unfolding sheet_on_literals
lines_swapped = refl

-- one rho line too many: "any other number of them gives 1"
rho_more : follows_form (sizes ++ feasible ++ variable ++ slack ++ row ++ unchecked ++ rho ++ rho ++ leave) ≡ false
unfolding sheet_on_literals
rho_more = refl

-- a second correction where the multipliers are unchecked
second_unchecked : follows_form (sizes ++ feasible ++ variable ++ slack ++ row ++ unchecked ++ bytes "(rho 3FF0000000000000 0 0)\n" ++ leave) ≡ false
unfolding sheet_on_literals
second_unchecked = refl

-- all 16 digits of a double, and all five of a count
sixteen_digits : follows_form (sizes ++ bytes "(feasibility 0000000000000000)\n" ++ variable ++ slack ++ row ++ unchecked ++ rho ++ bytes "(leave 00000 down)\n") ≡ true
unfolding sheet_on_literals
sixteen_digits = refl

-- widened lines, a row without pairs, checked multipliers, the other words
widened_checked : follows_form (sizes ++ feasible ++ bytes "(var r 0 3FF0000000000000 0 0 (nonbasic 3FF0000000000000))\n" ++ slack
    ++ bytes "(row 4008000000000000 3FF0000000000000)\n(widened 0 up)\n(widened 1 down)\n(multipliers checked)\n(rho 3FF0000000000000 0 0)\n(leave 0 up)\n") ≡ true
unfolding sheet_on_literals
widened_checked = refl
