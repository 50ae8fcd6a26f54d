-- `call_hash_bound::count_of` meets its contract: each `return` is one side of the test of `counted`.
use borrow.Author.Tests.{eq-eqb, ne_eqb}
use Rattle.call_hash_bound.proofs.count_of.Goals as goal

pub returns-then-entry-eq0 : goal.returns-then-entry-eq0
returns-then-entry-eq0 c =
    rw (eq-eqb _ 0 c.if-entry-eq0.true)

pub returns : goal.returns
returns c =
    rw (ne_eqb _ 0 c.if-entry-eq0.false)
