-- `nvs_copy_in` meets its contract: a wrong size changes nothing, else the call's answer is handed back with its record.
use mathlib.Core.Path.{refl}
use borrow.Author.Rules.{rules}
use Rattle.call_copy.specs.Copy.{copy_in, copy_in_image}
use Rattle.boundary.specs.Boundary.{copy_left}
use Rattle.boundary.proofs.Laws.{wrong_size_lem, right_size, called_over}
use Rattle.boundary.proofs.writing.nvs_copy_in.Goals as goal

pub returns-then-buffer-ne-RECORD_SIZE : goal.returns-then-buffer-ne-RECORD_SIZE
unfolding copy_left
returns-then-buffer-ne-RECORD_SIZE c =
    rw (wrong_size_lem 675 _ c.if-buffer-ne-RECORD_SIZE.true) (record {
      number = refl;
      image = refl;
      buffer = refl;
    })

pub returns : goal.returns
unfolding copy_left
returns c =
    let z = c.args in
    rw (right_size 675 _ c.if-buffer-ne-RECORD_SIZE.false)
    (let both = called_over (λ page. copy_in z.image.now page z.source.now z.index z.stop) (λ page. copy_in_image z.image.now page z.source.now z.index z.stop) z.buffer.now
    c.record_of-page.ensures c.copy_item_from-answer.ensures.answer c.copy_item_from-answer.ensures.page c.copy_item_from-answer.ensures.image (c.hand_back.ensures.number, c.hand_back.ensures.buffer) in
    record { number = both.0; image = both.1.0; buffer = both.1.1 })
