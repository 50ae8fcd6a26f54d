-- `nvs_width` meets its contract: a wrong size changes nothing, else the call's answer is laid out.
use mathlib.Core.Path.{◌≡◌, refl, ◌∙◌}
use borrow.Author.Rules.{rules}
use Rattle.boundary_encoding.specs.Encoding.{zero_item}
use Rattle.boundary.specs.Boundary.{width_given}
use Rattle.boundary.proofs.Laws.{wrong_size_lem, right_size, number_given, width_none}
use Rattle.sector.specs.Types.{WidthAnswer}
use Rattle.boundary.proofs.reading.nvs_width.Goals as goal

pub returns-then-buffer-ne-ANSWER_SIZE : goal.returns-then-buffer-ne-ANSWER_SIZE
unfolding width_given
returns-then-buffer-ne-ANSWER_SIZE c =
    rw (wrong_size_lem 57 _ c.if-buffer-ne-ANSWER_SIZE.true) (record {
      number = refl;
      buffer = refl;
    })

pub returns : goal.returns
unfolding width_given
returns c =
    let same : c.map.result ≡ c.get_primitive_bytes_width-width.result = search rules in
    rw (right_size 57 _ c.if-buffer-ne-ANSWER_SIZE.false)
    (let both = number_given _ _ (same ∙ c.get_primitive_bytes_width-width.ensures) (width_none c.args.byte) (c.give_number.ensures.number, c.give_number.ensures.buffer) in
    record { number = both.0; buffer = both.1 })
