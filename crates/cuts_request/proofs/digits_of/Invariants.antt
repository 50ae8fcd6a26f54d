-- `digits_of` meets its contract: the digits passed stand for the value, so those after them decide.
use Rattle.std.proofs.Common.{◌≡◌, ◌≤◌, drop}
use Rattle.cuts_request.specs.Words.{digits_from, digits_of}
use Rattle.cuts_request.proofs.digits_of.Given as goal

abbrev pub invariant-loop-byte : goal.invariant-loop-byte
invariant-loop-byte l = record {
  fits : l.value ≤ l.most;
  rest_decides : digits_from l.base l.most l.value (drop l.byte-index l.text) ≡ digits_of l.base l.most l.text;
}
