-- Document 01's sheet: no question refuses it, its rows, ranges and kept multipliers are those that stand on it, and the outward gap that its
-- definition reckons from them is 2. By computation. Assumes nothing.
use mathlib.Core.Path.{◌≡◌, refl}
use mathlib.Core.List.{List, [], ◌∷◌}
use Prim.Native.Nat.{ℕ}
use Rattle.std.specs.Prelude.{⊤}
use lib.Count.{count_trailing_zeros}
use lib.Ieee.{Float, binary64, of_bits, of_fields, odd, size, units, round, neg, sum, add, sub, mul, lt, le, eq, ne, is_nan}
use Rattle.exact.specs.Value.{exact, magnitude}
use Rattle.rank_arithmetic.specs.Rank.{rank, rank_down, rank_up}
use Rattle.doubles.specs.Directed.{round_up, round_down, sum_with, product_with}
use Rattle.doubles.specs.Compare.{absolute, larger}
use Rattle.cdouble.specs.Compensated.{pair, two_sum, normalized, value}
use Rattle.tolerances.specs.Tolerances.{toward}
use Rattle.tolerances.specs.BandEdge.{band_start, too_far, turns, band_edge}
use Rattle.loops.specs.Places.{all_below}
use Rattle.questions.specs.Questions.{sizes_fine, all_finite, range_fine, bounds_fine, plain, all_plain, tolerances_fine, leaving_row_fine}
use Rattle.questions.specs.Rows.{part}
use Rattle.questions.specs.RowQuestions.{starts_fine, row_columns_fine, columns_fine, slack_entry_fine, entries_fine}
use Rattle.questions.specs.BasisPlaces.{holders}
use Rattle.questions.specs.PlaceQuestions.{basis_fine}
use Rattle.questions.specs.WidenedList.{widened_fine}
use Rattle.sheet.specs.Sheet.{Sheet, sheet}
use Rattle.sheet.specs.Lengths.{rows_fit, variables_fit, outputs_fit, lengths_fit}
use Rattle.sheet.specs.Answers.{ask, first_no, Accepted}
use Rattle.edges.specs.Variables.{holds_on_bounds, holder_from}
use Rattle.edges.specs.Rooms.{widening_room}
use Rattle.edges.specs.Edges.{edge}
use Rattle.multipliers.specs.declared.weighing.Multiplier.TheVariants.{Kept}
use Rattle.multipliers.specs.Multipliers.{signed, weighed}
use Rattle.gaps.specs.Rows.{finite_parts, rows_of, ranges_of, kept_of}
use Rattle.gaps.specs.Steps.{after_entries, with_row, coefficient_after, limited, term, with_term, largest, with_right_side, right_side, difference}
use Rattle.gaps.specs.Steps.{outward_gap, outward_of}

-- "Doubles are 1 to 16 hexadecimal digits 0-9A-F of their bits"
abbrev zero : Float
zero = of_bits binary64 0

abbrev one : Float
one = of_bits binary64 0x3FF0000000000000

abbrev two : Float
two = of_bits binary64 0x4000000000000000

abbrev three : Float
three = of_bits binary64 0x4008000000000000

-- the sheet, but for the kind of its variable, which is integer where the flag is 1, and the tolerances low and high of both variables
abbrev with_tolerances : ℕ → Float → Float → Sheet
with_tolerances kind low high =
    sheet (record { rows = 1; structurals = 1; entries = 2 }) zero 0 0 0 (record { high = 2; low = 2; magnitudes = 2; terms = 2; errors = 2 })
    (0 ∷ 2 ∷ []) (0 ∷ 1 ∷ []) (one ∷ one ∷ []) (three ∷ []) (one ∷ []) (kind ∷ []) (zero ∷ zero ∷ []) (one ∷ zero ∷ []) (low ∷ low ∷ []) (high ∷ high ∷ [])
    (0 ∷ 1 ∷ []) (0 ∷ 0 ∷ []) (one ∷ two ∷ []) [] (one ∷ []) (zero ∷ []) (zero ∷ [])

abbrev example : Sheet
example = with_tolerances 1 zero zero

-- one whose ranges are wider than its bounds: a real variable, tolerances 1 toward low and 2 toward high
abbrev wide : Sheet
wide = with_tolerances 0 one two

-- low and high edge of the variable, then of the slack
abbrev edges_of : Sheet → List Float
edges_of s = (ranges_of s).low 0 ∷ (ranges_of s).high 0 ∷ (ranges_of s).low 1 ∷ (ranges_of s).high 1 ∷ []

-- ---- what is unfolded: doubles and their operations, the questions, the edges and the multipliers, the outward gap
unfoldable doubles_compute : ⊤
unfolding of_bits of_fields odd count_trailing_zeros size units round neg sum add sub mul lt le eq ne is_nan absolute larger
doubles_compute = tt

unfoldable rows_ask : ⊤
unfolding all_below all_finite part starts_fine row_columns_fine columns_fine slack_entry_fine entries_fine rows_fit variables_fit outputs_fit lengths_fit
rows_ask = tt

unfoldable questions_compute : ⊤
unfolding rows_ask sizes_fine range_fine bounds_fine plain all_plain tolerances_fine holders basis_fine widened_fine leaving_row_fine ask first_no
questions_compute = tt

unfoldable ranges_compute : ⊤
unfolding doubles_compute holder_from holds_on_bounds toward widening_room band_start too_far turns band_edge edge
ranges_compute = tt

unfoldable kept_computes : ⊤
unfolding doubles_compute two_sum normalized value signed weighed
kept_computes = tt

unfoldable rounding_computes : ⊤
unfolding exact magnitude rank rank_down rank_up round_up round_down sum_with product_with
rounding_computes = tt

unfoldable gap_computes : ⊤
unfolding rounding_computes all_below finite_parts part after_entries with_row coefficient_after limited term with_term largest with_right_side right_side difference outward_gap
gap_computes = tt

-- ---- the sheet
-- "An accepted sheet … is one that no question refuses"
accepted : Accepted example
unfolding doubles_compute questions_compute
accepted = refl

wide_accepted : Accepted wide
unfolding doubles_compute questions_compute
wide_accepted = refl

-- "(row 4008000000000000 3FF0000000000000 (0 3FF0000000000000) (1 3FF0000000000000))": "Variables here include the slacks"
counts_are : (rows_of example).count ∷ (rows_of example).variables ∷ [] ≡ 1 ∷ 2 ∷ []
counts_are = refl

columns_are : (rows_of example).columns 0 ≡ 0 ∷ 1 ∷ []
unfolding part
columns_are = refl

entries_are : (rows_of example).entries 0 ≡ one ∷ one ∷ []
unfolding part
entries_are = refl

right_side_is : (rows_of example).right_sides 0 ≡ three
right_side_is = refl

-- "The widened range runs from low to high edge": an integer variable takes its bounds, the leaving variable its tolerances, here 0
ranges_are : edges_of example ≡ zero ∷ one ∷ zero ∷ zero ∷ []
unfolding ranges_compute
ranges_are = refl

-- "the leaving variable takes its tolerance toward each side", "any other `band_edge` with its widening room": −1 to 3, and of the slack −1 to 2
wide_ranges_are : edges_of wide ≡ neg one ∷ three ∷ neg one ∷ two ∷ []
unfolding ranges_compute
wide_ranges_are = refl

-- "y is rho, negated if leaving up, then normalized"; it is kept
kept_is : kept_of example 0 ≡ Kept (pair one zero)
unfolding kept_computes
kept_is = refl

-- "(outward 4000000000000000)"
outward_is : outward_of example ≡ two
unfolding ranges_compute kept_computes gap_computes outward_of
outward_is = refl
