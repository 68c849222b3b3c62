-- The numbers of a table, as its bytes spell them, and tallies of its cases. Assumes nothing.
use Rattle.std.specs.Prelude.{ℕ, zero, suc, ◌≡◌, ◌+◌, ◌*◌, ◌<◌, eqb, min, List, ◌++◌, length, Bool, true, ◌&&◌, cond, get_or, set, Option, Some, is_some, Result, Ok}
use denote.Ref.{Bor}
use Rattle.std.specs.Option.{option_and_then}
use Rattle.std.specs.Fn.{Mut, CalledAt}
use Rattle.std.specs.List.{All, FoldsTo, concat}
use Rattle.std.specs.Io.KnownBytes.{Consumes}
use Rattle.hex_digits.specs.Digit.{digit_of}
use Rattle.tables.specs.declared.tally.Tally.{Tally}

-- `left` digits more, after those that gave v; where the bytes end a digit is missing, as 0 is none
unfoldable pub digits : List ℕ → ℕ → ℕ → ℕ → Option ℕ
digits s zero v at = Some v
digits s (suc left) v at = option_and_then (λ d. digits s left (v * 16 + d) (at + 1)) (digit_of (get_or s at 0))

-- whether a line has a space and then a number at each of the first n places
unfoldable pub spelled : List ℕ → ℕ → Bool
spelled s zero = true
spelled s (suc n) = spelled s n && (eqb (get_or s (1 + 17 * n) 0) 32 && is_some (digits s 16 0 (2 + 17 * n)))

-- and, after n of them, its end
abbrev pub is_line : List ℕ → ℕ → Bool
is_line s n = spelled s n && eqb (get_or s (1 + 17 * n) 0) 10

-- one case more, up to the largest count
abbrev pub one_more : Bool → Tally → Tally
one_more agrees t =
    record {
      ran = min (t.ran + 1) 18446744073709551615;
      differ = cond agrees t.differ (min (t.differ + 1) 18446744073709551615);
    }

-- one case more at a place; as before where there is no such place
abbrev pub counted : Bool → List Tally → ℕ → List Tally
counted agrees l at = set l at (one_more agrees (get_or l at (record { ran = 0; differ = 0 })))

-- the lines, each of this length, and of this count, are what the input gave and the rest of a last line that it cut short;
-- they took a closure from a state to another, one call for each, and each call went well
pub record RunsLines {F E : Type 0} (calls : Mut F (Bor (List ℕ) × Unit {0}) (Result (Unit {0}) E)) (size count : ℕ)
    (before after : Option (List ℕ)) (first last : F) : Type 0 where
  pub lines : List (List ℕ)
  pub taken : List ℕ
  pub rest : List ℕ
  pub all : length lines ≡ count
  pub long : All (λ line. length line ≡ size) lines
  pub source : Consumes before after taken
  pub bytes : concat lines ≡ taken ++ rest
  pub short : 0 < size → length rest < size
  pub ran : FoldsTo (λ before line after. CalledAt calls before line (Ok tt) after) first lines last
