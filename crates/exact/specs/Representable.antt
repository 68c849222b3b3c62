-- The naturals that p binary digits and a power of two write. At p = 53 they are the magnitudes of doubles, in units of 2 ^ -1074. Assumes nothing.
use Rattle.std.specs.Prelude.{ℕ, ◌+◌, ◌^◌, ◌<◌}
use Rattle.std.specs.Int.{◌∣◌}

-- n has at most p significant binary digits: it is a multiple of 2 ^ exp of at most p + exp digits
pub record Representable (p n : ℕ) : Type 0 where
  pub exp : ℕ
  pub dvd : 2 ^ exp ∣ n
  pub fit : n < 2 ^ (p + exp)
