-- `nvs_statistics` meets its contract: a wrong size changes nothing, else the call's answer is laid out.
use mathlib.Core.Path.{refl, ap, ◌∙◌}
use borrow.Author.Rules.{rules}
use Rattle.sector.specs.Map.{statistics}
use Rattle.boundary_encoding.specs.Encoding.{answer_bytes, zero_item}
use Rattle.boundary.specs.Boundary.{statistics_given}
use Rattle.boundary.proofs.Laws.{wrong_size_lem, right_size}
use Rattle.boundary.proofs.reading.nvs_statistics.Goals as goal

pub returns-then-buffer-ne-ANSWER_SIZE : goal.returns-then-buffer-ne-ANSWER_SIZE
unfolding statistics_given
returns-then-buffer-ne-ANSWER_SIZE c =
    rw (wrong_size_lem 57 _ c.if-buffer-ne-ANSWER_SIZE.true) (record {
      number = refl;
      buffer = refl;
    })

pub returns-then-bytes-ne-MAP_SIZE : goal.returns-then-bytes-ne-MAP_SIZE
unfolding statistics_given
returns-then-bytes-ne-MAP_SIZE c =
    rw (right_size 57 _ c.if-buffer-ne-ANSWER_SIZE.false, wrong_size_lem 32 _ c.if-bytes-ne-MAP_SIZE.true) (record {
      number = refl;
      buffer = refl;
    })

pub returns : goal.returns
unfolding statistics_given
returns c =
    rw (right_size 57 _ c.if-buffer-ne-ANSWER_SIZE.false, right_size 32 _ c.if-bytes-ne-MAP_SIZE.false) (record {
      number = refl;
      buffer = c.put_answer.ensures
          ∙ ap (answer_bytes 0 0 zero_item) (c.get_entry_statistics-counts.ensures ∙ ap statistics c.array_of.ensures);
    })
