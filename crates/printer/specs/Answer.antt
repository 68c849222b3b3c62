-- What `weigh` prints: document 01, "The sheet". Assumes nothing.
use Rattle.std.specs.Prelude.{Bool, cond, List, ◌++◌, ℕ, leb, length, Result, Ok, Err}
use Rattle.std.proofs.lemmas.List.Edits.{sets}
use Rattle.verdict.specs.declared.Verdict.{Verdict}
use Rattle.text_items.specs.Text.{bytes}
use Rattle.printer.specs.Digits.{hexadecimal, decimal}

-- "every line ended by a newline byte": a line's opening, its value, and its end
unfoldable pub line : List ℕ → List ℕ → List ℕ
line opening value = opening ++ (value ++ bytes ")\n")

abbrev pub yes_or_no : Bool → List ℕ
yes_or_no b = cond b (bytes "yes") (bytes "no")

-- "on refusal one line, `(refused 7)` for 7"
unfoldable pub refusal_line : ℕ → List ℕ
refusal_line number = line (bytes "(refused ") (decimal number)

-- "From standard input `weigh` prints this": the nine lines of the second example, in its order
unfoldable pub nine_lines : Verdict → List ℕ
nine_lines v =
    line (bytes "(holds ") (yes_or_no v.proof.holds)
    ++ (line (bytes "(gap ") (hexadecimal v.proof.gap)
    ++ (line (bytes "(allowance ") (hexadecimal v.proof.allowance)
    ++ (line (bytes "(cut ") (hexadecimal v.proof.cut)
    ++ (line (bytes "(zero-within-error ") (decimal v.proof.zero_within_error)
    ++ (line (bytes "(multipliers-zeroed ") (decimal v.proof.multipliers_zeroed)
    ++ (line (bytes "(rows ") (decimal v.proof.rows)
    ++ (line (bytes "(outward ") (hexadecimal v.outward)
    ++ line (bytes "(declined ") (yes_or_no v.declined))))))))

-- the text of an answer: a verdict's lines, or the line of the question that refused
abbrev pub answer_text : Result Verdict ℕ → List ℕ
answer_text (Ok v) = nine_lines v
answer_text (Err number) = refusal_line number

-- "Output that won't fit the lent slice is answered by the length needed and nothing written"
abbrev pub written_if_fits : List ℕ → List ℕ → List ℕ
written_if_fits text out = cond (leb (length text) (length out)) (sets out 0 text) out
