-- `opening_marks::first_pass` meets its contract: up to the index reached the states are those of the first pass, and from there on as they were.
use Rattle.std.proofs.Common.{◌≡◌, arith}
use Rattle.opening_marks.proofs.Arrays.{bytes_of_array}
use Rattle.opening_marks.proofs.Passes.{passed_start, first_step, first_end}
use Rattle.opening_marks.proofs.first_pass.Goals as goal

pub loop-index-init : goal.loop-index-init
loop-index-init c = passed_start _ c.args.map (omega arith) (bytes_of_array c.args.map _ c.well_formed.0.1.1)

pub loop-index-preserved : goal.loop-index-preserved
loop-index-preserved c =
    let args = c.args in
    rw c.clear_upper-next.ensures
    (first_step args.map args.opened args.heads (omega arith) (omega arith) (omega arith) c.loop-index.marked c.loop-index.index (omega arith) c.loop-index.invariant)

pub returns : goal.returns
returns c =
    let args = c.args in
    let end : c.loop-index.index ≡ 126 = omega arith in
    first_end args.map args.opened args.heads (omega arith) (omega arith) (omega arith) (rw end at c.loop-index.invariant)
