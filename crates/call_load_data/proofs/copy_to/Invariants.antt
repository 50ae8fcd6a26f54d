-- `call_load_data::copy_to` meets its contract: after k turns the output's first k bytes are the part's.
use Rattle.std.proofs.Common.{◌≡◌, ◌≤◌, ◌++◌, length, take, drop}
use Rattle.call_load_data.proofs.copy_to.Given as goal

abbrev pub invariant-loop-k : goal.invariant-loop-k
invariant-loop-k l = (l.k ≤ length l.part) × (l.output ≡ take l.k l.part ++ drop l.k l.initial.output)
