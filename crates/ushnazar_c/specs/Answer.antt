-- The answer to a sheet as C gets it: document 01, "Questions put to the input". Assumes nothing.
use Rattle.std.specs.Prelude.{false, ℕ, Result, Ok, Err}
use Rattle.cdouble.specs.Compensated.{plus_zero}
use Rattle.verdict.specs.declared.Verdict.{Verdict}
use Rattle.ushnazar_c.specs.declared.Answer.{Answer}

-- each field 0 or false
abbrev pub no_verdict : Verdict
no_verdict =
    record {
      proof = record { holds = false; gap = plus_zero; allowance = plus_zero; cut = plus_zero; zero_within_error = 0; multipliers_zeroed = 0; rows = 0 };
      outward = plus_zero;
      declined = false;
    }

-- what the library's answer is in C: "The answer … is a numbered refusal …, or a full verdict", whose refusal is 0
abbrev pub told : Result Verdict ℕ → Answer
told (Ok v) = record { refusal = 0; verdict = v }
told (Err number) = record { refusal = number; verdict = no_verdict }
