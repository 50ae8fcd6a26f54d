-- `nvs_append_single` meets its contract: a wrong size changes nothing, else the call's answer is handed back with its record.
use mathlib.Core.Path.{refl}
use borrow.Author.Rules.{rules}
use Rattle.call_append.specs.Append.{append_single, append_single_image}
use Rattle.boundary.specs.Boundary.{single_of, single_left}
use Rattle.boundary.proofs.Laws.{wrong_size_lem, right_size, called_over}
use Rattle.boundary.proofs.writing.nvs_append_single.Goals as goal

pub returns-then-buffer-ne-RECORD_SIZE : goal.returns-then-buffer-ne-RECORD_SIZE
unfolding single_left
returns-then-buffer-ne-RECORD_SIZE c =
    rw (wrong_size_lem 675 _ c.if-buffer-ne-RECORD_SIZE.true) (record {
      number = refl;
      image = refl;
      buffer = refl;
    })

pub returns-then-key-ne-KEY_SIZE : goal.returns-then-key-ne-KEY_SIZE
unfolding single_left
returns-then-key-ne-KEY_SIZE c =
    rw (right_size 675 _ c.if-buffer-ne-RECORD_SIZE.false, wrong_size_lem 16 _ c.if-key-ne-KEY_SIZE.true) (record {
      number = refl;
      image = refl;
      buffer = refl;
    })

pub returns-then-bytes-ne-SINGLE_SIZE : goal.returns-then-bytes-ne-SINGLE_SIZE
unfolding single_left
returns-then-bytes-ne-SINGLE_SIZE c =
    rw (right_size 675 _ c.if-buffer-ne-RECORD_SIZE.false, right_size 16 _ c.if-key-ne-KEY_SIZE.false, wrong_size_lem 8 _ c.if-bytes-ne-SINGLE_SIZE.true) (record {
      number = refl;
      image = refl;
      buffer = refl;
    })

pub returns : goal.returns
unfolding single_left
returns c =
    let z = c.args in
    let item = single_of z.namespace z.kind z.span z.chunk z.key.now z.bytes.now in
    rw (right_size 675 _ c.if-buffer-ne-RECORD_SIZE.false, right_size 16 _ c.if-key-ne-KEY_SIZE.false, right_size 8 _ c.if-bytes-ne-SINGLE_SIZE.false)
    (let both = called_over (λ page. append_single z.image.now page item z.stop) (λ page. append_single_image z.image.now page item z.stop) z.buffer.now
    c.record_of-page.ensures (rw (c.array_of.ensures, c.array_of-2.ensures) at c.write_item-answer.ensures.answer) (rw (c.array_of.ensures, c.array_of-2.ensures) at c.write_item-answer.ensures.page) (rw (c.array_of.ensures, c.array_of-2.ensures) at c.write_item-answer.ensures.image) (c.hand_back.ensures.number, c.hand_back.ensures.buffer) in
    record { number = both.0; image = both.1.0; buffer = both.1.1 })
