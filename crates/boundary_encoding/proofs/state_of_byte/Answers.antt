-- `state_of_byte` meets its contract: the arms are the six states in the order of their bytes.
use borrow.Author.Rules.{rules}
use Rattle.boundary_encoding.proofs.state_of_byte.Goals as goal

pub returns-in_default : goal.returns-in_default
returns-in_default c =
    search rules
