-- `weigh_text` meets its contract. Assumes nothing.
use Rattle.sheet.specs.Numbers.{numbered}
use Rattle.weigh_text.proofs.Answering.{put_promised}
use Rattle.weigh_text.proofs.weigh_text.Goals as goal

pub returns : goal.returns
returns c =
    put_promised c.args.text.now c.args.out.now (numbered c.text_verdict.result) c.text_verdict.ensures c.put_answer.ensures.value c.put_answer.ensures.out_after
