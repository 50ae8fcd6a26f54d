-- The frames that change a buffer (compare/RECORDED.md).
--
-- In order: a frame's fields out of its eight bytes; bytes laid over a place; fill; copy.
use Rattle.std.specs.Prelude.{ℕ, ◌+◌, List, ◌++◌, length, take, drop, get_or, replicate}
use Rattle.sector.specs.Layout.{field}
use Rattle.recorded_file.specs.Names.{kind_of}
use Rattle.recorded_file.specs.Numbers.{pair_at}
use Rattle.recorded_file.specs.declared.frame.Frame.{Frame}

abbrev pub frame_of : List ℕ → Frame
frame_of bytes =
    record {
      kind = kind_of (get_or bytes 0 0);
      name = get_or bytes 1 0;
      offset = pair_at bytes 2;
      size = pair_at bytes 4;
      argument = pair_at bytes 6;
    }

-- the buffers with other bytes from a place on
abbrev pub laid : List ℕ → ℕ → List ℕ → List ℕ
laid all at bytes = take at all ++ (bytes ++ drop (at + length bytes) all)

-- so many bytes become one byte
abbrev pub filled : List ℕ → ℕ → ℕ → ℕ → List ℕ
filled all at size byte = laid all at (replicate size byte)

-- so many bytes become those from another place on
abbrev pub copied : List ℕ → ℕ → ℕ → ℕ → List ℕ
copied all at size from = laid all at (field from size all)
