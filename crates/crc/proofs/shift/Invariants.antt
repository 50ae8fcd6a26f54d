-- `crc::shift` meets its contract: what was looked up and the shifts that are left to the rest are the shifts of the word.
use Rattle.std.proofs.Common.{◌≡◌, ◌*◌, bit_xor}
use Rattle.crc.specs.Crc.{shifts}
use Rattle.crc.proofs.shift.Given as goal

abbrev pub invariant-loop-row : goal.invariant-loop-row
invariant-loop-row l = bit_xor l.looked_up (shifts (4 * l.row) l.rest) ≡ shifts (4 * l.rows) l.word
