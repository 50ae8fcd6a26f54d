-- `nvs_erase` meets its contract: a wrong size changes nothing, else the call's answer is handed back with its record.
use mathlib.Core.Path.{refl}
use borrow.Author.Rules.{rules}
use Rattle.call_erase.specs.Erase.{erase, erase_image}
use Rattle.boundary.specs.Boundary.{erase_left}
use Rattle.boundary.proofs.Laws.{wrong_size_lem, right_size, called_over}
use Rattle.boundary.proofs.writing.nvs_erase.Goals as goal

pub returns-then-buffer-ne-RECORD_SIZE : goal.returns-then-buffer-ne-RECORD_SIZE
unfolding erase_left
returns-then-buffer-ne-RECORD_SIZE c =
    rw (wrong_size_lem 675 _ c.if-buffer-ne-RECORD_SIZE.true) (record {
      number = refl;
      image = refl;
      buffer = refl;
    })

pub returns : goal.returns
unfolding erase_left
returns c =
    let z = c.args in
    rw (right_size 675 _ c.if-buffer-ne-RECORD_SIZE.false)
    (let both = called_over (λ page. erase z.image.now page z.index z.span) (λ page. erase_image z.image.now page z.index z.span) z.buffer.now
    c.record_of-page.ensures c.erase_item-answer.ensures.answer c.erase_item-answer.ensures.page c.erase_item-answer.ensures.image (c.hand_back.ensures.number, c.hand_back.ensures.buffer) in
    record { number = both.0; image = both.1.0; buffer = both.1.1 })
