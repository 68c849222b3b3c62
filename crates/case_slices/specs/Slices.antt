-- The slices of a sheet that a table of cases fills. Assumes nothing.
use Rattle.std.specs.Prelude.{ℕ}
use Rattle.case_slices.specs.declared.Slice.{Slice}
use Rattle.case_slices.specs.declared.Slice.TheVariants.{Starts, Columns, Entries, RightSides, Scales, Integer, Mins, Maxs, LowTolerances, HighTolerances}
use Rattle.case_slices.specs.declared.Slice.TheVariants.{Basic, Places, Values, WidenedVars, WidenedUps, RhoHi, RhoLo, Second}

-- a slice's number in a table
abbrev pub number_of : Slice → ℕ
number_of Starts = 0
number_of Columns = 1
number_of Entries = 2
number_of RightSides = 3
number_of Scales = 4
number_of Integer = 5
number_of Mins = 6
number_of Maxs = 7
number_of LowTolerances = 8
number_of HighTolerances = 9
number_of Basic = 10
number_of Places = 11
number_of Values = 12
number_of WidenedVars = 13
number_of WidenedUps = 14
number_of RhoHi = 15
number_of RhoLo = 16
number_of Second = 17

-- how many places there is room for in a slice
abbrev pub room : Slice → ℕ
room Starts = 132
room Columns = 4100
room Entries = 4100
room RightSides = 132
room Scales = 132
room Integer = 260
room Mins = 388
room Maxs = 388
room LowTolerances = 388
room HighTolerances = 388
room Basic = 388
room Places = 388
room Values = 388
room WidenedVars = 776
room WidenedUps = 776
room RhoHi = 132
room RhoLo = 132
room Second = 132
