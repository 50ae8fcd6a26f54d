-- `nvs_append_variable` meets its contract: a wrong size changes nothing, else the call's answer is handed back with its record.
use mathlib.Core.Path.{refl}
use borrow.Author.Rules.{rules}
use Rattle.call_append.specs.Append.{append_variable, append_variable_image}
use Rattle.boundary.specs.Boundary.{variable_of, variable_left}
use Rattle.boundary.proofs.Laws.{wrong_size_lem, right_size, called_over}
use Rattle.boundary.proofs.writing.nvs_append_variable.Goals as goal

pub returns-then-buffer-ne-RECORD_SIZE : goal.returns-then-buffer-ne-RECORD_SIZE
unfolding variable_left
returns-then-buffer-ne-RECORD_SIZE c =
    rw (wrong_size_lem 675 _ c.if-buffer-ne-RECORD_SIZE.true) (record {
      number = refl;
      image = refl;
      buffer = refl;
    })

pub returns-then-key-ne-KEY_SIZE : goal.returns-then-key-ne-KEY_SIZE
unfolding variable_left
returns-then-key-ne-KEY_SIZE c =
    rw (right_size 675 _ c.if-buffer-ne-RECORD_SIZE.false, wrong_size_lem 16 _ c.if-key-ne-KEY_SIZE.true) (record {
      number = refl;
      image = refl;
      buffer = refl;
    })

pub returns : goal.returns
unfolding variable_left
returns c =
    let z = c.args in
    let item = variable_of z.namespace z.kind z.chunk z.key.now in
    rw (right_size 675 _ c.if-buffer-ne-RECORD_SIZE.false, right_size 16 _ c.if-key-ne-KEY_SIZE.false)
    (let both = called_over (λ page. append_variable z.image.now page item z.payload.now z.stop) (λ page. append_variable_image z.image.now page item z.payload.now z.stop) z.buffer.now
    c.record_of-page.ensures (rw c.array_of.ensures at c.write_variable_sized_item-answer.ensures.answer) (rw c.array_of.ensures at c.write_variable_sized_item-answer.ensures.page) (rw c.array_of.ensures at c.write_variable_sized_item-answer.ensures.image) (c.hand_back.ensures.number, c.hand_back.ensures.buffer) in
    record { number = both.0; image = both.1.0; buffer = both.1.1 })
