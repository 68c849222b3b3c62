-- A double as IEEE 754 lays out its 64 bits: a sign, an exponent of 11 bits, and 52 digits. Assumes nothing.
use Rattle.std.specs.Prelude.{Bool, false, ℕ, ◌-◌, ◌^◌, ◌≤◌, ◌<◌, ◌&&◌, T, ltb, Float}
use Rattle.std.specs.Float.{binary64}
use Rattle.std.specs.Float.Ieee.{of_fields}
use Rattle.std.specs.Float.Ieee.Scale.{finite}
use Rattle.exact.specs.Value.{magnitude}
use Rattle.adjacent.specs.declared.fields.Fields.{Fields}

-- they fit their bits
pub record Laid (exponent digits : ℕ) : Type 0 where
  pub exponent_bits : exponent < 2 ^ 11
  pub digits_bits : digits < 2 ^ 52

-- the double of a sign, an exponent and digits, as the library reads a pattern
abbrev pub double_of : Fields → Float
double_of f = of_fields binary64 f.negative f.exponent f.digits

-- of sign +
abbrev pub plus : ℕ → ℕ → Float
plus exponent digits = of_fields binary64 false exponent digits

-- finite, and where a step is asked for, a normal number
pub record Normal (x : Float) (step : Bool) : Type 0 where
  pub is_finite : T (finite x)
  pub least : T step → 2 ^ 52 ≤ magnitude x

-- whether exponent and digits lie between their ends, all zeros and all ones
abbrev pub inner : ℕ → ℕ → Bool
inner exponent digits = (ltb 0 exponent && ltb exponent (2 ^ 11 - 1)) && (ltb 0 digits && ltb digits (2 ^ 52 - 1))
