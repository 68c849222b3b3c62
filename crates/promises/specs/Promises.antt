-- The promises: the three demands, and what they mean to a baker, as statements about the answers that the entry points give to sheets lent in
-- slices and to texts. A stranger reads this page first, and then what it names. proofs/Promises.antt has each as a theorem. Assumes nothing.
use Rattle.std.specs.Prelude.{◌≡◌, ◌≤◌, ◌<◌, ◌⊎◌, ◌&&◌, List, ℕ, T, get_or, ◌+ℤ◌, ◌*ℤ◌, Float, Result, Ok, Err}
use Rattle.std.specs.Float.{nan, binary64}
use Rattle.std.specs.Float.Ieee.{fits, lt, le}
use Rattle.exact.specs.Value.{exact}
use Rattle.cdouble.specs.Compensated.{plus_zero, two_sum, two_product}
use Rattle.cdouble.specs.Exactness.{SumRange, ProductRange, IsExact}
use Rattle.sheet.specs.Sheet.{Sheet, Doubles, variables}
use Rattle.sheet.specs.Answers.{Accepted}
use Rattle.sheet.specs.Outputs.{Lent}
use Rattle.kept.specs.Kept.{after, filled_in, proof_of}
use Rattle.gaps.specs.Rows.{Rows, Ranges, rows_of, ranges_of, kept_of}
use Rattle.gaps.specs.Steps.{outward_of}
use Rattle.gaps.specs.Points.{Point, Lies, Meets}
use Rattle.gaps.specs.ExactGap.{exact_of}
use Rattle.gaps.specs.Sameness.{SameRows, SameKept, Within}
use Rattle.gaps.specs.ThirdDemand.{NotAbove, NoPoint}
use Rattle.verdict.specs.declared.Verdict.{Verdict}
use Rattle.verdict.specs.Verdict.{verdict, full_verdict}
use Rattle.sheet_text.specs.Form.{follows_form}
use Rattle.sheet_text.specs.SheetIn.{sheet_in}
use Rattle.printer.specs.Answer.{answer_text}
use Rattle.weigh_text.specs.TextVerdict.{text_verdict, text_answer}

-- ---- what is put to an entry point
-- a sheet lent in slices, as to `sheet_verdict`, whose numbers are doubles by the slices' type; or a text, as to `weigh_text`
pub data Input : Type 0 where
  in_slices : (s : Sheet) → Doubles s → Input
  as_text : List ℕ → Input

-- the sheet that it says
abbrev pub sheet_of : Input → Sheet
sheet_of (in_slices s _) = s
sheet_of (as_text text) = sheet_in text

-- "An accepted sheet, lent in slices or as text, is one that no question refuses"; the first is put to texts only
abbrev pub IsAccepted : Input → Type 0
IsAccepted (in_slices s _) = Accepted s
IsAccepted (as_text text) = T (follows_form text) × Accepted (sheet_in text)

-- the answer, a refusal by its number. That the entry points answer so, and leave what is lent so, is in their contracts: `answer_is` and `lent_is`
-- of `Promised`, `out_is` of `TextPromised`
abbrev pub answer_to : Input → Result Verdict ℕ
answer_to (in_slices s _) = verdict s
answer_to (as_text text) = text_verdict text

-- what is lent for the certificate, after the answer; with a text nothing is lent but the place of the printed answer
abbrev pub left_by : Input → Lent → Lent
left_by (in_slices s _) before = after s before
left_by (as_text text) before = before

-- ---- 1. "The answer to every sheet and every set of slices is a numbered refusal with all lent memory untouched, or a full verdict"
pub record IsRefusal (i : Input) (number : ℕ) : Type 0 where
  pub numbered : (1 ≤ number) × (number ≤ 12)
  pub answer_is : answer_to i ≡ Err number
  pub untouched : (before : Lent) → left_by i before ≡ before

abbrev pub IsFull : Input → Type 0
IsFull i = answer_to i ≡ Ok (full_verdict (sheet_of i))

pub record FirstDemand : Type 0 where
  -- every input has an answer, of one kind or the other. "The caller owes nothing": the entry points have no `requires`
  pub answered : (i : Input) → IsFull i ⊎ ((number : ℕ) × IsRefusal i number)
  -- it is a full verdict where no question refuses, and nowhere else
  pub full_if_accepted : (i : Input) → IsAccepted i → IsFull i
  pub accepted_if_full : (i : Input) (v : Verdict) → answer_to i ≡ Ok v → IsAccepted i
  -- what is printed for a text is its answer
  pub printed : (text : List ℕ) → text_answer text ≡ answer_text (answer_to (as_text text))

-- ---- 2. "each number from IEEE 754 operations in the stated order, Knuth's sum and Dekker's product exact in the stated ranges, the outward gap
-- equal to document 01's steps"
pub record SecondDemand : Type 0 where
  -- the kept numbers and the certificate's lists: the definitions have the Rust's operations in the Rust's order, but for `mul_up`, which request 5 changed
  pub kept : (i : Input) (v : Verdict) → answer_to i ≡ Ok v → v.proof ≡ proof_of (sheet_of i)
  pub certificate : (s : Sheet) (d : Doubles s) → Accepted s → (before : Lent) → left_by (in_slices s d) before ≡ filled_in s before
  pub knuth : (a b : Float) → T (fits binary64 a) → T (fits binary64 b) → SumRange a b → IsExact 0 (exact a +ℤ exact b) (two_sum a b)
  pub dekker : (a b : Float) → T (fits binary64 a) → T (fits binary64 b) → ProductRange a b → IsExact 1074 (exact a *ℤ exact b) (two_product a b)
  -- the five steps
  pub outward : (i : Input) (v : Verdict) → answer_to i ≡ Ok v → v.outward ≡ outward_of (sheet_of i)
  -- "Declined exactly when `holds` is true and the outward gap is above 0"
  pub declined : (i : Input) (v : Verdict) → answer_to i ≡ Ok v → v.declined ≡ (v.proof.holds && lt plus_zero v.outward)

-- ---- 3. "On every accepted sheet, lent in slices or as text, whatever bits its multipliers hold": every answer that is a verdict
pub record ThirdDemand : Type 0 where
  -- "a finite outward gap has an exact gap and is not above it"
  pub not_above : (i : Input) (v : Verdict) → answer_to i ≡ Ok v → NotAbove v.outward (exact_of (sheet_of i))
  -- "whenever the outward gap is above 0, declined or not, no rational point lies in the widened ranges and meets every row"
  pub rules_out : (i : Input) (v : Verdict) → answer_to i ≡ Ok v → T (lt plus_zero v.outward) → NoPoint (rows_of (sheet_of i)) (ranges_of (sheet_of i))
  -- "for two accepted sheets with equal rows and kept multipliers, narrower ranges never lower it": i has the narrower ones
  pub not_lowered : (i j : Input) (v w : Verdict) → answer_to i ≡ Ok v → answer_to j ≡ Ok w
      → SameRows (rows_of (sheet_of i)) (rows_of (sheet_of j)) → SameKept (sheet_of i).rows (kept_of (sheet_of i)) (kept_of (sheet_of j))
      → Within (variables (sheet_of i)) (ranges_of (sheet_of i)) (ranges_of (sheet_of j)) → T (le w.outward v.outward)

-- ---- in a baker's words
-- the book: its rows, and the bounds as they are written, nothing added. Values, basis, multipliers and leaving row are no part of it
pub record Book : Type 0 where
  pub rows : Rows
  pub bounds : Ranges

abbrev pub book_of : Sheet → Book
book_of s = record { rows = rows_of s; bounds = record { low = λ v. get_or s.mins v nan; high = λ v. get_or s.maxs v nan } }

-- a bake that fills the book: so much of each variable, in rational numbers, within its bounds, and every row comes out exactly
pub record IsBake (b : Book) (p : Point) : Type 0 where
  pub within : Lies b.bounds b.rows.variables p
  pub meets : (r : ℕ) → r < b.rows.count → Meets b.rows p r

pub record BakersWords : Type 0 where
  -- no widened range is narrower than its bounds …
  pub bounds_within : (i : Input) (v : Verdict) → answer_to i ≡ Ok v → Within (variables (sheet_of i)) (book_of (sheet_of i)).bounds (ranges_of (sheet_of i))
  -- … so a declined order cannot be baked, whatever its values, basis, multipliers and leaving row hold
  pub no_bake : (i : Input) (v : Verdict) → answer_to i ≡ Ok v → T v.declined → (p : Point) → IsBake (book_of (sheet_of i)) p → ⊥
