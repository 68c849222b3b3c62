-- The bytes of a text of ASCII characters, to name the words of a sheet. Assumes nothing.
use Rattle.std.specs.Prelude.{ℕ}
use Prim.Native.Char.{code}
use Prim.Native.String.{String, [], ◌∷◌}
use mathlib.Core.List as list

abbrev pub bytes : String → list.List ℕ
bytes [] = list.[]
bytes (c ∷ s) = list.◌∷◌ (code c) (bytes s)
