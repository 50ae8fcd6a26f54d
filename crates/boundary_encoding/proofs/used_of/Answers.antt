-- `used_of` meets its contract: by the test of the state byte.
use borrow.Author.Tests.{le-leb, lt-leb}
use Rattle.boundary_encoding.proofs.used_of.Goals as goal

pub returns-then-state-le5 : goal.returns-then-state-le5
returns-then-state-le5 c =
    rw (le-leb _ 5 c.if-state-le5.true)

pub returns-else-state-le5 : goal.returns-else-state-le5
returns-else-state-le5 c =
    rw (lt-leb _ 5 c.if-state-le5.false)
