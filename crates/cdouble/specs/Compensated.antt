-- The Rust's compensated arithmetic, operation for operation in its order, but for `mul_up`: document 01, "Double-double". Assumes nothing.
-- What these come to where they are exact stands in Exactness.antt.
use Rattle.std.specs.Prelude.{ℕ, Bool, true, false, cond, pos, negsuc, Float}
use Rattle.std.specs.Float.{fin, binary64}
use Rattle.std.specs.Float.Ieee.{neg, add, sub, mul, div, lt, of_int}
use Rattle.doubles.specs.Neighbours.{next_up, next_down}
use Rattle.doubles.specs.Compare.{larger}
use Rattle.doubles.specs.Directed.{product_up}
use Rattle.cdouble.specs.declared.CDouble.{CDouble}

-- IEEE 754's operations on doubles
infixl 6 ◌⊕◌ ◌⊖◌
infixl 7 ◌⊗◌ ◌⊘◌
abbrev pub ◌⊕◌ : Float → Float → Float
a ⊕ b = add binary64 a b

abbrev pub ◌⊖◌ : Float → Float → Float
a ⊖ b = sub binary64 a b

abbrev pub ◌⊗◌ : Float → Float → Float
a ⊗ b = mul binary64 a b

abbrev pub ◌⊘◌ : Float → Float → Float
a ⊘ b = div binary64 a b

-- a whole number as a double, as in Rust's `as f64`
abbrev pub as_f64 : ℕ → Float
as_f64 n = of_int binary64 (pos n)

-- ---- "A double-double is a pair hi, lo": the type is the code's own
abbrev pub pair : Float → Float → CDouble
pair h l = record { hi = h; lo = l }

-- `two_sum`, Knuth's
unfoldable pub two_sum : Float → Float → CDouble
two_sum a b = let x = a ⊕ b in let z = x ⊖ a in pair x ((a ⊖ (x ⊖ z)) ⊕ (b ⊖ z))

-- "The factor 2^27 + 1"
abbrev pub factor : Float
factor = fin false 134217729 (pos 0)

-- `split`, Dekker's
unfoldable pub split : Float → CDouble
split a = let c = factor ⊗ a in let x = c ⊖ (c ⊖ a) in pair x (a ⊖ x)

-- what `two_product` makes of the rounded product x and the halves of its factors
unfoldable pub product_error : Float → CDouble → CDouble → Float
product_error x a b = a.lo ⊗ b.lo ⊖ (((x ⊖ a.hi ⊗ b.hi) ⊖ a.lo ⊗ b.hi) ⊖ a.hi ⊗ b.lo)

-- `two_product`, Dekker's
unfoldable pub two_product : Float → Float → CDouble
two_product a b = let x = a ⊗ b in pair x (product_error x (split a) (split b))

-- `add`: the pair and a double
unfoldable pub plus : CDouble → Float → CDouble
plus c v = let s = two_sum v c.hi in pair s.hi (c.lo ⊕ s.lo)

-- `add_product`: the pair and a product, with what the product's rounding left out
unfoldable pub plus_product : CDouble → Float → Float → CDouble
plus_product c a b = let p = two_product a b in let s = plus c p.hi in pair s.hi (s.lo ⊕ p.lo)

-- `add_scaled`: the pair and a multiple of another, whose low part's product is rounded
unfoldable pub plus_scaled : CDouble → CDouble → Float → CDouble
plus_scaled c d b = let s = plus_product c d.hi b in pair s.hi (s.lo ⊕ d.lo ⊗ b)

-- `neg`
unfoldable pub negated : CDouble → CDouble
negated c = pair (neg c.hi) (neg c.lo)

-- `normalized`: the same sum, its high part the rounded one
unfoldable pub normalized : CDouble → CDouble
normalized c = two_sum c.hi c.lo

-- `value`: the sum, rounded
unfoldable pub value : CDouble → Float
value c = c.hi ⊕ c.lo

-- the literal 0.0
abbrev pub plus_zero : Float
plus_zero = fin false 0 (pos 0)

-- the high part, or the next double up where the low part is above 0
unfoldable pub upper : CDouble → Float
upper c = cond (lt plus_zero c.lo) (next_up c.hi) c.hi

-- the high part, or the next double down where the low part is below 0
unfoldable pub lower : CDouble → Float
lower c = cond (lt c.lo plus_zero) (next_down c.hi) c.hi

-- `rounded`: the sum to one side, up or down
unfoldable pub rounded : CDouble → Bool → Float
rounded c up = cond up (upper (normalized c)) (lower (normalized c))

-- `abs_up`: the sum's absolute value, up
unfoldable pub abs_up : CDouble → Float
abs_up c = rounded (cond (lt (value c) plus_zero) (negated c) c) true

-- `add_up`: of magnitudes at most 2^1022 the least double not below the sum; beyond, what the Rust answers
unfoldable pub add_up : Float → Float → Float
add_up a b = upper (two_sum a b)

-- `mul_up`, as request 5 of document 02 has it: "for finite factors, the least double not below the exact product, with a +0 answer for zero; other
-- factors as before", which is IEEE 754's product. The Rust's own form is upper (two_product a b)
unfoldable pub mul_up : Float → Float → Float
mul_up a b = product_up a b

-- `distance_up`: of magnitudes at most 2^1022 the least double not below the distance; beyond, what the Rust answers
unfoldable pub distance_up : Float → Float → Float
distance_up a b = abs_up (two_sum a (neg b))

-- 16 times 2^-104
abbrev pub unit_error : Float
unit_error = fin false 1 (pos 4) ⊗ fin false 1 (negsuc 103)

-- `compensated_error`: that for each term and unit of magnitude, and more where a sum has more than six terms
unfoldable pub compensated_error : ℕ → ℕ → Float → Float
compensated_error terms longest magnitude =
    let scale = larger ((as_f64 longest ⊕ fin false 1 (pos 1)) ⊘ fin false 1 (pos 3)) (fin false 1 (pos 0)) in
    (as_f64 terms ⊕ fin false 1 (pos 0)) ⊗ scale ⊗ unit_error ⊗ magnitude
