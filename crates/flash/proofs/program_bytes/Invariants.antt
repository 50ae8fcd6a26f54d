-- `flash::program_bytes` meets its contract: programming what is left of the bytes, from the place reached, gives what programming all of them gives.
use Rattle.std.proofs.Common.{◌≡◌, ◌+◌, drop}
use Rattle.flash.specs.Flash.{program}
use Rattle.flash.proofs.program_bytes.Given as goal

abbrev pub invariant-loop-i : goal.invariant-loop-i
invariant-loop-i l = program l.image (l.address + l.i) (drop l.i l.bytes) ≡ program l.initial.image l.address l.bytes
