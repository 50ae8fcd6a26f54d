-- `nvs_open` meets its contract: a wrong size changes nothing, else opening's record is laid out, on a refusal too.
use mathlib.Core.Path.{refl}
use borrow.Author.Rules.{rules}
use Rattle.boundary.specs.Boundary.{open_left}
use Rattle.boundary.proofs.Laws.{wrong_size_lem, right_size, opened_as}
use Rattle.opening.proofs.Laws.{opening_none}
use Rattle.boundary.proofs.writing.nvs_open.Goals as goal

pub returns-then-buffer-ne-RECORD_SIZE : goal.returns-then-buffer-ne-RECORD_SIZE
unfolding open_left
returns-then-buffer-ne-RECORD_SIZE c =
    rw (wrong_size_lem 675 _ c.if-buffer-ne-RECORD_SIZE.true) (record {
      number = refl;
      image = refl;
      buffer = refl;
    })

pub returns : goal.returns
unfolding open_left
returns c =
    rw (right_size 675 _ c.if-buffer-ne-RECORD_SIZE.false)
    (let both = opened_as _ _ c.open_page-opened.ensures.opened (opening_none c.args.image.now) c.open_page-opened.ensures.image (c.hand_opened.ensures.number, c.hand_opened.ensures.buffer) in
    record { number = both.0; image = both.1.0; buffer = both.1.1 })
