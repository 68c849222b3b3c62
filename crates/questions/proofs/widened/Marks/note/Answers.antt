-- `note` meets its contract. Assumes nothing.
use mathlib.Core.Path.{refl, sym}
use mathlib.Core.Bool.{and-false}
use borrow.Author.Tests.{le-ltb, lt-ltb}
use Rattle.questions.proofs.Marked.{not_noted, new_noted}
use Rattle.questions.proofs.widened.Marks.note.Goals as goal
use Rattle.questions.proofs.widened.Marks.note.Goals.{then-not-self-via-then-not-self, then-not-self-via-else-not-self+then-w-count}

pub returns-then-not-self : goal.returns-then-not-self
returns-then-not-self c =
    elim c.then-not-self.branch [
      | then-not-self-via-then-not-self w ↦ sym (not_noted c.args.count c.args.w c.args.self.now (rw w.if-not-self.true refl))
      | then-not-self-via-else-not-self+then-w-count w ↦
          sym (not_noted c.args.count c.args.w c.args.self.now (rw (le-ltb c.args.w.variable c.args.count w.if-w-count.true) (and-false c.args.self.now.fine)))
    ]

pub returns : goal.returns
returns c =
    rw c.mark_of-at.ensures
    (sym (new_noted c.args.count c.args.w c.args.self.now c.if-not-self.false (lt-ltb c.args.w.variable c.args.count c.if-w-count.false)))
