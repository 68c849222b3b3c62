-- `read_widened` meets its contract. Assumes nothing.
use mathlib.Core.Path.{sym, ap, ◌∙◌}
use mathlib.Core.Logic.{inl, inr}
use Rattle.questions.specs.declared.widened.Widened.{Widened}
use Rattle.questions.specs.Marks.{noted}
use Rattle.repeats.proofs.Chains.{Over, chain_leads_turn, chain_leads_end}
use Rattle.text_items.specs.Words.{most_bytes}
use Rattle.text_lines.specs.SidedLines.{no_widened}
use Rattle.text_lists.proofs.Storing.{chain_left_turn, chain_left_end, widened_store}
use Rattle.text_lists.proofs.widened_list.read_widened.Goals as goal

pub loop-preserved : goal.loop-preserved
loop-preserved c =
    let k = sym c.no_widened.ensures ∙ c.if-no_widened.false in
    record {
      leads = chain_leads_turn c.loop-test.true k c.widened_line-line.ensures c.loop.invariant.leads;
      lists =
          chain_left_turn (widened_store c.args.count) c.loop-test.true k c.widened_line-line.ensures
          (c.note.ensures ∙ ap (λ (w : Widened). noted c.args.count w c.loop.marks) c.item.ensures) c.loop.invariant.lists;
    }

pub returns : goal.returns
returns c =
    let o : Over (no_widened c.args.text.now) most_bytes c.loop.counter c.loop.next = record { why = inl c.loop-test.false } in
    record { value = chain_leads_end o c.loop.invariant.leads; marks_after = chain_left_end (widened_store c.args.count) o c.loop.invariant.lists }

pub returns-then-no_widened : goal.returns-then-no_widened
returns-then-no_widened c =
    let o : Over (no_widened c.args.text.now) most_bytes c.loop.counter c.loop.next = record { why = inr (sym c.no_widened.ensures ∙ c.if-no_widened.true) } in
    record { value = chain_leads_end o c.loop.invariant.leads; marks_after = chain_left_end (widened_store c.args.count) o c.loop.invariant.lists }
