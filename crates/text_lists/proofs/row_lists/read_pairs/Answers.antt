-- `read_pairs` meets its contract. Assumes nothing.
use native.Mathlib.Omega.{arith}
use mathlib.Core.Path.{◌≡◌, sym, ◌∙◌}
use mathlib.Core.Logic.{inl, inr}
use Rattle.repeats.proofs.Chains.{Over, chain_leads_turn, chain_leads_end, chain_counts_turn, chain_counts_end}
use Rattle.text_items.specs.Words.{most_bytes}
use Rattle.text_lines.specs.RowLines.{no_pair}
use Rattle.text_lists.proofs.Reaching.{pairs_reached_lem}
use Rattle.text_lists.proofs.Slices.{rows_then}
use Rattle.text_lists.proofs.Storing.{chain_left_turn, chain_left_end, pairs_store}
use Rattle.text_lists.proofs.row_lists.read_pairs.Goals as goal

pub loop-count-preserved : goal.loop-count-preserved
loop-count-preserved c =
    let k = sym c.no_pair.ensures ∙ c.if-no_pair.false in
    record {
      most = omega (arith, c.loop-count-test.true);
      leads = chain_leads_turn c.loop-count-test.true k c.pair_at-item.ensures c.loop-count.invariant.leads;
      counts = chain_counts_turn c.loop-count-test.true k c.pair_at-item.ensures c.loop-count.invariant.counts;
      same = rows_then c.loop-count.invariant.same c.store_pair.ensures.same_slices;
      lists = chain_left_turn pairs_store c.loop-count-test.true k c.pair_at-item.ensures c.store_pair.ensures.value c.loop-count.invariant.lists;
    }

pub returns : goal.returns
returns c =
    let o : Over (no_pair c.args.text.now) most_bytes c.loop-count.count c.loop-count.next = record { why = inl c.loop-count-test.false } in
    let last : c.max.result ≡ c.loop-count.count = omega (arith, c.max.ensures, c.loop-count.invariant.most, c.loop-count-test.false, c.loop-count.auto.count) in
    record {
      value = rw last (pairs_reached_lem c.args.text.now c.args.first c.args.position (chain_counts_end o c.loop-count.invariant.counts) (chain_leads_end o c.loop-count.invariant.leads));
      same_slices = c.loop-count.invariant.same;
      lists = chain_left_end pairs_store o c.loop-count.invariant.lists;
    }

pub returns-then-no_pair : goal.returns-then-no_pair
returns-then-no_pair c =
    let o : Over (no_pair c.args.text.now) most_bytes c.loop-count.count c.loop-count.next = record { why = inr (sym c.no_pair.ensures ∙ c.if-no_pair.true) } in
    record {
      value = pairs_reached_lem c.args.text.now c.args.first c.args.position (chain_counts_end o c.loop-count.invariant.counts) (chain_leads_end o c.loop-count.invariant.leads);
      same_slices = c.loop-count.invariant.same;
      lists = chain_left_end pairs_store o c.loop-count.invariant.lists;
    }
