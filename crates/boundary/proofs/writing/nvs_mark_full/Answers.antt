-- `nvs_mark_full` meets its contract: a wrong size changes nothing, else the call's answer is handed back with its record.
use mathlib.Core.Path.{refl}
use borrow.Author.Rules.{rules}
use Rattle.call_page_state.specs.Calls.{mark_full, mark_full_image}
use Rattle.boundary.specs.Boundary.{mark_full_left}
use Rattle.boundary.proofs.Laws.{wrong_size_lem, right_size, called_over}
use Rattle.boundary.proofs.writing.nvs_mark_full.Goals as goal

pub returns-then-buffer-ne-RECORD_SIZE : goal.returns-then-buffer-ne-RECORD_SIZE
unfolding mark_full_left
returns-then-buffer-ne-RECORD_SIZE c =
    rw (wrong_size_lem 675 _ c.if-buffer-ne-RECORD_SIZE.true) (record {
      number = refl;
      image = refl;
      buffer = refl;
    })

pub returns : goal.returns
unfolding mark_full_left
returns c =
    let z = c.args in
    rw (right_size 675 _ c.if-buffer-ne-RECORD_SIZE.false)
    (let both = called_over (λ page. mark_full z.image.now page) (λ page. mark_full_image z.image.now page) z.buffer.now
    c.record_of-page.ensures c.mark_as_full-answer.ensures.answer c.mark_as_full-answer.ensures.page c.mark_as_full-answer.ensures.image (c.hand_back.ensures.number, c.hand_back.ensures.buffer) in
    record { number = both.0; image = both.1.0; buffer = both.1.1 })
