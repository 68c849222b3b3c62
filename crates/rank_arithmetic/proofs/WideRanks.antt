-- What `wide_ranks` computes: the ranks of the bounds of a number with binary digits 0 after it. Assumes nothing.
use mathlib.Core.Path.{◌≡◌, sym, ap, ◌∙◌, subst}
use mathlib.Core.Bool.{Bool, false, cond}
use Prim.Native.Nat.{ℕ, ◌+◌, ◌-◌, ◌*◌, ◌/◌, ◌%◌, ◌^◌, ◌≤◌, ◌<◌, min}
use native.Mathlib.Nat.{le_of_lt, mod-eq_of_lt, mul-one, mul-le-mul_left}
use native.Mathlib.Omega.{arith}
use lib.Pow.{pow_pos}
use lib.Ieee.{size}
use lib.Ieee.Digits.{size-le}
use Rattle.rank_arithmetic.specs.Rank.{rank_down, rank_up, largest, infinity}
use Rattle.rank_arithmetic.proofs.Widths.{size_pos, some_one, Cuts}
use Rattle.rank_arithmetic.proofs.Shift.{cut_short, cut_rank_down, cut_rank_up, shift_short, shift_rank_down, shift_rank_up}

-- d and u are the ranks of the bounds of n / 2 ^ l units
abbrev pub RankBounds : ℕ → ℕ → ℕ → ℕ → Type 0
RankBounds l n d u = (d ≡ min (rank_down 52 l n) largest) × (u ≡ min (rank_up 52 l n) infinity)

pub same_bounds : (l : ℕ) {m n d u : ℕ} → m ≡ n → RankBounds l m d u → RankBounds l n d u
same_bounds l {d} {u} e b = subst (λ (x : ℕ). RankBounds l x d u) e b

-- what `capped` returns
abbrev pub Capped : ℕ → Bool → ℕ → ℕ → Type 0
Capped r inexact d u = (d ≡ min r largest) × (u ≡ min (r + cond inexact 1 0) infinity)

pub capped_bounds : (l n : ℕ) (inexact : Bool) {r d u : ℕ} → rank_down 52 l n ≡ r → rank_up 52 l n ≡ r + cond inexact 1 0 → Capped r inexact d u → RankBounds l n d u
capped_bounds l n inexact e f c = (c.0 ∙ ap (λ (x : ℕ). min x largest) (sym e), c.1 ∙ ap (λ (x : ℕ). min x infinity) (sym f))

-- what `wide_ranks` requires
abbrev pub Rankable : ℕ → ℕ → ℕ → Type 0
Rankable n s l = (0 < n) × (n < 2 ^ 120) × (s ≤ 2046 + l + l) × (l ≤ 1074)

pub width_le : (n s l : ℕ) → Rankable n s l → size n ≤ 120
width_le n s l h = size-le n 120 h.1

-- what is known of its arguments and of the exponent k of both ranks
pub record Scaled (n s l k : ℕ) : Type 0 where
  pub rankable : Rankable n s l
  pub exponent : k ≡ size n + s - (l + 53)

module _ {n s l k : ℕ} (scaled : Scaled n s l k) where
  pub exponent_le : k ≤ 3200
  exponent_le = omega (arith, width_le n s l scaled.rankable)

  rank_fits : (x : ℕ) → x < 2 ^ 53 → k * 2 ^ 52 + x < 2 ^ 64
  rank_fits x h = omega (arith, exponent_le)

  -- the number is shifted up
  module _ (h : l + k < s) where
    pub shift_lt : s - (l + k) < 64
    shift_lt = omega (arith, size_pos n scaled.rankable.0)

    short : n * 2 ^ (s - (l + k)) < 2 ^ 53
    short = shift_short 52 l n s k scaled.rankable.0 scaled.exponent (le_of_lt h)

    pub word_fits : n < 2 ^ 64
    word_fits = omega (arith, mul-one n, mul-le-mul_left n (pow_pos (s - (l + k))), short)

    abbrev shifted : ℕ
    shifted = n * 2 ^ (s - (l + k)) % 2 ^ 64

    shifted_is : shifted ≡ n * 2 ^ (s - (l + k))
    shifted_is = mod-eq_of_lt (omega (arith, short))

    pub shift_fits : k * 2 ^ 52 + shifted < 2 ^ 64
    shift_fits = rank_fits shifted (omega (arith, shifted_is, short))

    pub shift_bounds : {d u : ℕ} → Capped (k * 2 ^ 52 + shifted) false d u → RankBounds l (n * 2 ^ s) d u
    shift_bounds = capped_bounds l (n * 2 ^ s) false
        (omega (arith, shift_rank_down 52 l n s k scaled.rankable.0 scaled.exponent (le_of_lt h), shifted_is))
        (omega (arith, shift_rank_up 52 l n s k scaled.rankable.0 scaled.exponent (le_of_lt h), shifted_is))

  -- digits of the number are cut off
  module _ (h : s ≤ l + k) where
    cut_lt : n / 2 ^ (l + k - s) < 2 ^ 53
    cut_lt = cut_short 52 l n s k scaled.rankable.0 scaled.exponent h

    pub cut_fits : n / 2 ^ (l + k - s) < 2 ^ 64
    cut_fits = omega (arith, cut_lt)

    module _ {whole : ℕ} {inexact : Bool} (e : Cuts n (l + k - s) whole inexact) where
      pub whole_fits : k * 2 ^ 52 + whole < 2 ^ 64
      whole_fits = rank_fits whole (omega (arith, e.0, cut_lt))

      left_is : cond inexact 1 0 ≡ min (n % 2 ^ (l + k - s)) 1
      left_is = ap (λ (b : Bool). cond b 1 0) e.1 ∙ some_one (n % 2 ^ (l + k - s))

      pub cut_bounds : {d u : ℕ} → Capped (k * 2 ^ 52 + whole) inexact d u → RankBounds l (n * 2 ^ s) d u
      cut_bounds = capped_bounds l (n * 2 ^ s) inexact
          (omega (arith, cut_rank_down 52 l n s k scaled.rankable.0 scaled.exponent h, e.0))
          (omega (arith, cut_rank_up 52 l n s k scaled.rankable.0 scaled.exponent h, e.0, left_is))
