-- The two lines that a sheet begins with: document 01, "The sheet". Assumes nothing.
use Rattle.std.specs.Prelude.{ℕ, List, Some}
use Rattle.text_items.specs.Text.{bytes}
use Rattle.text_items.specs.Words.{expect}
use Rattle.text_items.specs.Items.{double_then, count_then}
use Rattle.text_lines.specs.declared.heading_line.Heading.{Heading}

-- "`(sheet rows structurals)`" and the line after it, from the text's first byte
unfoldable pub heading : List ℕ → Heading
heading text =
    let rows = count_then text (expect text (Some 0) (bytes "(sheet ")) (bytes " ") in
    let structurals = count_then text rows.next (bytes ")\n(feasibility ") in
    let feasibility = double_then text structurals.next (bytes ")\n") in
    record { rows = rows.value; structurals = structurals.value; feasibility = feasibility.value; next = feasibility.next }
