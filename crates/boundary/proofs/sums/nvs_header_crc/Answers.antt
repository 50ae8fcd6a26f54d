-- `nvs_header_crc` meets its contract: a wrong size changes nothing, else the call's number is laid out.
use mathlib.Core.Path.{refl, ap, ◌∙◌}
use Prim.Native.Nat.{ℕ}
use borrow.Author.Rules.{rules}
use Rattle.sector.specs.Header.{header_crc}
use Rattle.boundary_encoding.specs.Encoding.{answer_bytes, zero_item, no_counts}
use Rattle.boundary.specs.Boundary.{header_crc_given}
use Rattle.boundary.proofs.Laws.{wrong_size_lem, right_size}
use Rattle.sector.specs.Answers.{Done}
use Rattle.boundary.proofs.sums.nvs_header_crc.Goals as goal

pub returns-then-buffer-ne-ANSWER_SIZE : goal.returns-then-buffer-ne-ANSWER_SIZE
unfolding header_crc_given
returns-then-buffer-ne-ANSWER_SIZE c =
    rw (wrong_size_lem 57 _ c.if-buffer-ne-ANSWER_SIZE.true) (record {
      number = refl;
      buffer = refl;
    })

pub returns-then-bytes-ne-ENTRY_SIZE : goal.returns-then-bytes-ne-ENTRY_SIZE
unfolding header_crc_given
returns-then-bytes-ne-ENTRY_SIZE c =
    rw (right_size 57 _ c.if-buffer-ne-ANSWER_SIZE.false, wrong_size_lem 32 _ c.if-bytes-ne-ENTRY_SIZE.true) (record {
      number = refl;
      buffer = refl;
    })

pub returns : goal.returns
unfolding header_crc_given
returns c =
    rw (right_size 57 _ c.if-buffer-ne-ANSWER_SIZE.false, right_size 32 _ c.if-bytes-ne-ENTRY_SIZE.false)
    (record {
      number = c.give_number.ensures.number;
      buffer = c.give_number.ensures.buffer ∙ ap (λ (value : ℕ). answer_bytes 0 value zero_item no_counts) (c.header_crc-crc.ensures ∙ ap header_crc c.array_of.ensures);
    })
