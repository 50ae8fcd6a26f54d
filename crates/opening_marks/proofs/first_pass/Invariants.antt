-- `opening_marks::first_pass` meets its contract: up to the index reached the states are those of the first pass, and from there on as they were.
use Rattle.sector.specs.Map.{states_of}
use Rattle.opening_marks.specs.Marks.{first_pass}
use Rattle.opening_marks.proofs.Passes.{PassedTo}
use Rattle.opening_marks.proofs.first_pass.Given as goal

abbrev pub invariant-loop-index : goal.invariant-loop-index
invariant-loop-index l = PassedTo (first_pass (states_of l.initial.marked) (states_of l.opened) l.head-items) l.initial.marked l.marked l.index
