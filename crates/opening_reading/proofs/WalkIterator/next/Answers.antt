-- A walk's `next` meets its contract: it steps over entries of the page alone.
use Rattle.std.proofs.Common.{◌≡◌, ◌+◌, ◌<◌, length, arith}
use Rattle.opening_reading.specs.Reading.{steps_over}
use Rattle.opening_reading.proofs.Steps.{steps_inside}
use Rattle.opening_reading.proofs.WalkIterator.next.Goals as goal

pub overflow_add-self-2 : goal.overflow_add-self-2
overflow_add-self-2 c =
    let walk = c.args.self.now in
    let long : length walk.map ≡ 32 = omega arith in
    let fits : walk.index + steps_over c.verdict_at-verdict.result < 126 = rw c.verdict_at-verdict.ensures (steps_inside walk.image.now walk.map walk.index long (omega arith)) in
    omega (arith, fits, c.steps_over.ensures)
