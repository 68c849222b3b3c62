-- Document 01's nine lines, and `(refused 7)`, by computation. Assumes nothing.
use mathlib.Core.Path.{◌≡◌, refl}
use mathlib.Core.Bool.{true}
use lib.Ieee.{of_bits, to_bits, binary64}
use Rattle.std.specs.Prelude.{◌++◌, Ok, Err}
use Rattle.verdict.specs.declared.Verdict.{Verdict}
use Rattle.text_items.specs.Text.{bytes}
use Rattle.printer.specs.Digits.{digits, digit_count}
use Rattle.printer.specs.Answer.{line, refusal_line, nine_lines, answer_text}

abbrev verdict : Verdict
verdict =
    record {
      proof = record {
        holds = true;
        gap = of_bits binary64 0x4000000000000000;
        allowance = of_bits binary64 0x39F8000000000000;
        cut = of_bits binary64 0x3CB0000000000324;
        zero_within_error = 0;
        multipliers_zeroed = 0;
        rows = 1;
      };
      outward = of_bits binary64 0x4000000000000000;
      declined = true;
    }

nine_lines_lem :
    answer_text (Ok verdict)
    ≡ bytes "(holds yes)\n(gap 4000000000000000)\n(allowance 39F8000000000000)\n(cut 3CB0000000000324)\n"
    ++ bytes "(zero-within-error 0)\n(multipliers-zeroed 0)\n(rows 1)\n(outward 4000000000000000)\n(declined yes)\n"
unfolding digits digit_count line nine_lines to_bits of_bits
nine_lines_lem = refl

refused : answer_text (Err 7) ≡ bytes "(refused 7)\n"
unfolding digits digit_count line refusal_line
refused = refl
