-- What the lines of document 01's example sheet read as, and some that it has not, by computation. Assumes nothing.
use mathlib.Core.Path.{◌≡◌, refl}
use mathlib.Core.Bool.{true, false}
use lib.ListN.{length}
use lib.Ieee.{nan, binary64, of_bits}
use Rattle.std.specs.Prelude.{None, Some}
use Rattle.text_items.specs.Text.{bytes}
use Rattle.text_items.specs.Words.{expect, either}
use Rattle.text_items.specs.Numbers.{digit_at, digits, at_least_one, number, double}
use Rattle.text_lines.specs.Heading.{heading}
use Rattle.text_lines.specs.VariableLines.{place_if, variable_from, var_line, slack_line, line_at}
use Rattle.text_lines.specs.RowLines.{row_head, no_pair, pair, row_end}
use Rattle.text_lines.specs.SidedLines.{no_widened, sided_line, widened_line, leave_line}
use Rattle.text_lines.specs.MultiplierLines.{multipliers_line, second_if, rho_line}
use Rattle.sheet_examples.proofs.Texts.{text, zero, one, two, three}

-- "(sheet 1 1)" and "(feasibility 0)"
heading_is : heading text ≡ record { rows = 1; structurals = 1; feasibility = zero; next = Some 28 }
unfolding digit_at digits at_least_one number double expect heading
heading_is = refl

-- "(var i 0 3FF0000000000000 0 0 (nonbasic 3FF0000000000000))", as the first of the variables, of which one is structural
var_is : line_at text 1 0 (Some 28)
    ≡ record { integer = true; min = zero; max = one; low = zero; high = zero; basic = false; place = 0; value = one; next = Some 87 }
unfolding digit_at digits at_least_one number double expect either place_if variable_from var_line line_at
var_is = refl

-- "(slack 0 0 0 0 (basic 0 4000000000000000))", as the second of them
slack_is : line_at text 1 1 (Some 87)
    ≡ record { integer = false; min = zero; max = zero; low = zero; high = zero; basic = true; place = 0; value = two; next = Some 130 }
unfolding digit_at digits at_least_one number double expect either place_if variable_from slack_line line_at
slack_is = refl

-- "(row 4008000000000000 3FF0000000000000"
row_head_is : row_head text (Some 130) ≡ record { right = three; scale = one; next = Some 168 }
unfolding digit_at digits at_least_one number double expect row_head
row_head_is = refl

-- " (0 3FF0000000000000) (1 3FF0000000000000))"
first_pair_is : pair text (Some 168) ≡ record { column = 0; entry = one; next = Some 189 }
unfolding digit_at digits at_least_one number double expect pair
first_pair_is = refl

second_pair_is : pair text (Some 189) ≡ record { column = 1; entry = one; next = Some 210 }
unfolding digit_at digits at_least_one number double expect pair
second_pair_is = refl

pair_stands : no_pair text (Some 189) ≡ false
unfolding expect
pair_stands = refl

no_third_pair : no_pair text (Some 210) ≡ true
unfolding expect
no_third_pair = refl

row_end_is : row_end text (Some 210) ≡ Some 212
unfolding expect
row_end_is = refl

-- no widened line, then "(multipliers unchecked)"
none_widened : no_widened text (Some 212) ≡ true
unfolding expect
none_widened = refl

multipliers_are : multipliers_line text (Some 212) ≡ record { value = false; next = Some 236 }
unfolding expect either multipliers_line
multipliers_are = refl

-- "(rho 3FF0000000000000 0)"
rho_is : rho_line text 0 (Some 236) ≡ record { hi = one; lo = zero; second = zero; next = Some 261 }
unfolding digit_at digits at_least_one number double expect second_if rho_line
rho_is = refl

-- "(leave 0 down)", which ends the text
leave_is : leave_line text (Some 261) ≡ record { number = 0; up = false; next = Some (length text) }
unfolding digit_at digits at_least_one number expect either sided_line
leave_is = refl

-- a real variable in basis
real_is : var_line (bytes "(var r 0 7FF0000000000000 0 0 (basic 12 0))\n") (Some 0)
    ≡ record { integer = false; min = zero; max = of_bits binary64 0x7FF0000000000000; low = zero; high = zero; basic = true; place = 12; value = zero; next = Some 44 }
unfolding digit_at digits at_least_one number double expect either place_if variable_from var_line
real_is = refl

-- a widened line, and one with a side that there is not
widened_is : widened_line (bytes "(widened 7 up)\n") (Some 0) ≡ record { number = 7; up = true; next = Some 15 }
unfolding digit_at digits at_least_one number expect either sided_line
widened_is = refl

no_such_side : (widened_line (bytes "(widened 7 left)\n") (Some 0)).next ≡ None
unfolding digit_at digits at_least_one number expect either sided_line
no_such_side = refl

-- checked multipliers; every pattern of a NaN is the NaN
checked_are : multipliers_line (bytes "(multipliers checked)\n") (Some 0) ≡ record { value = true; next = Some 22 }
unfolding expect either multipliers_line
checked_are = refl

checked_rho_is : rho_line (bytes "(rho FFF8000000000001 0 3FF0000000000000)\n") 1 (Some 0) ≡ record { hi = nan; lo = zero; second = one; next = Some 42 }
unfolding digit_at digits at_least_one number double expect second_if rho_line of_bits
checked_rho_is = refl

-- a second correction must be there when checked, and only then
second_is_missing : (rho_line (bytes "(rho 0 0)\n") 1 (Some 0)).next ≡ None
unfolding digit_at digits at_least_one number double expect second_if rho_line
second_is_missing = refl

second_is_too_much : (rho_line (bytes "(rho 0 0 0)\n") 0 (Some 0)).next ≡ None
unfolding digit_at digits at_least_one number double expect second_if rho_line
second_is_too_much = refl
