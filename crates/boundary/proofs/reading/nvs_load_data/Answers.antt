-- `nvs_load_data` meets its contract: a wrong size changes nothing, else the call's answer is laid out.
use mathlib.Core.Path.{◌≡◌, refl, ◌∙◌}
use borrow.Author.Rules.{rules}
use Rattle.boundary_encoding.specs.Encoding.{zero_item}
use lib.ListN.{length}
use Rattle.boundary.specs.Boundary.{data_given, data_left}
use Rattle.boundary.proofs.Laws.{wrong_size_lem, right_size, number_given, size_none}
use Rattle.call_load_data.specs.Payload.{DataLoaded}
use Rattle.boundary.proofs.reading.nvs_load_data.Goals as goal

pub returns-then-buffer-ne-ANSWER_SIZE : goal.returns-then-buffer-ne-ANSWER_SIZE
unfolding data_given data_left
returns-then-buffer-ne-ANSWER_SIZE c =
    rw (wrong_size_lem 57 _ c.if-buffer-ne-ANSWER_SIZE.true) (record {
      number = refl;
      output = refl;
      buffer = refl;
    })

pub returns : goal.returns
unfolding data_given data_left
returns c =
    let z = c.args in
    let same : c.map.result ≡ c.load_referenced_data_into-size.result = search rules in
    let given = number_given _ _ (same ∙ c.load_referenced_data_into-size.ensures.answer) (size_none z.image.now z.index (length z.output.now)) (c.give_number.ensures.number, c.give_number.ensures.buffer) in
    rw (right_size 57 _ c.if-buffer-ne-ANSWER_SIZE.false) (record {
      number = given.0;
      output = c.load_referenced_data_into-size.ensures.output;
      buffer = given.1;
    })
