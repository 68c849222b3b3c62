-- A refusal runs through all later items: where there is no position nothing is read, and there is none after what is read there. Assumes nothing.
use mathlib.Core.Path.{◌≡◌, refl}
use mathlib.Core.List.{List}
use Prim.Native.Nat.{ℕ}
use Rattle.std.specs.Prelude.{None}
use Rattle.text_items.specs.Words.{expect, either}
use Rattle.text_items.specs.Numbers.{number, double, count}
use Rattle.text_items.specs.Items.{double_then, count_then}

module _ (text : List ℕ) where
  pub double_stuck : (double text None).next ≡ None
  unfolding double number
  double_stuck = refl

  pub count_stuck : (count text None).next ≡ None
  unfolding number
  count_stuck = refl

  pub either_stuck : (first second : List ℕ) → (either text None first second).next ≡ None
  unfolding either expect
  either_stuck first second = refl

  pub double_then_stuck : (word : List ℕ) → (double_then text None word).next ≡ None
  unfolding double number expect
  double_then_stuck word = refl

  pub count_then_stuck : (word : List ℕ) → (count_then text None word).next ≡ None
  unfolding number expect
  count_then_stuck word = refl
