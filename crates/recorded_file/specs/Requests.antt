-- The request of a call (compare/RECORDED.md, 'The request'): its numbers, out of 64 bytes.
--
-- Not here: the key, bytes 40..56, and the data of a single, bytes 56..64, which are no numbers.
use Rattle.std.specs.Prelude.{ℕ, List, get_or}
use Rattle.sector.specs.Layout.{number, field}
use Rattle.recorded_file.specs.Numbers.{pair_at}
use Rattle.recorded_file.specs.declared.request.Request.{Request}

unfoldable pub request_of : List ℕ → Request
request_of bytes =
    record {
      namespace = get_or bytes 0 0;
      kind = get_or bytes 1 0;
      chunk = get_or bytes 2 0;
      value = get_or bytes 3 0;
      start = number (field 4 4 bytes);
      index = number (field 8 8 bytes);
      span = number (field 16 8 bytes);
      stop = number (field 24 8 bytes);
      payload = pair_at bytes 32;
      room = pair_at bytes 34;
    }
