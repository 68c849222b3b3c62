-- What the answers to parts of a question make of the whole. Assumes nothing.
use mathlib.Core.Path.{◌≡◌, refl}
use mathlib.Core.Bool.{Bool, ◌&&◌}

-- four tests in a row
pub together : (c : Bool) {a b d a' b' d' : Bool} → a ≡ a' → b ≡ b' → d ≡ d' → (a && b && c && d) ≡ (a' && b' && c && d')
together c first second fourth = rw (first, second, fourth) refl
