-- `test_crc::sample` is safe: the state stays below 65,537.
use Rattle.std.proofs.Common.{◌<◌}
use Rattle.test_crc.proofs.sample.Given as goal

abbrev pub invariant-loop-byte : goal.invariant-loop-byte
invariant-loop-byte l = l.state < 65537
