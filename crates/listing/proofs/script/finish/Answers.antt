use borrow.Author.Rules.{rules}
use Rattle.text.proofs.Writers.{written}
use Rattle.listing.proofs.script.Closings.{closing-none, closing_over, closing-stop, nothing_put, put_into}
use Rattle.listing.proofs.script.finish.Goals.{then-is_empty-via-then-is_empty, then-is_empty-via-else-is_empty+then-st}
use Rattle.listing.proofs.script.finish.Goals as goal

pub returns-then-is_empty : goal.returns-then-is_empty
returns-then-is_empty c =
    let a = c.args in
    nothing_put 26 _ _ (elim c.then-is_empty.branch [
      | then-is_empty-via-then-is_empty w ↦ closing-none a.offset a.st.ended a.left.now (search rules)
      | then-is_empty-via-else-is_empty+then-st w ↦ closing_over a.offset a.st.ended a.left.now w.if-st.true
    ])

pub returns : goal.returns
returns c =
    put_into (closing-stop c.args.offset c.args.st.ended c.args.left.now (search rules) c.if-st.false) (written c.stop.ensures) (search rules)
