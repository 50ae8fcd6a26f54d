-- `nvs_raw_read` meets its contract: a wrong size changes nothing, else the call's answer is laid out.
use mathlib.Core.Path.{refl}
use borrow.Author.Rules.{rules}
use Rattle.sector.specs.Layout.{entry_at}
use Rattle.call_load.specs.Load.{entry_checks, raw_entry}
use Rattle.boundary.specs.Boundary.{raw_given}
use Rattle.boundary.proofs.Laws.{wrong_size_lem, right_size, item_given, loaded_none}
use Rattle.call_load.specs.Load.{Loaded}
use Rattle.boundary.proofs.reading.nvs_raw_read.Goals as goal

pub returns-then-buffer-ne-ANSWER_SIZE : goal.returns-then-buffer-ne-ANSWER_SIZE
unfolding raw_given
returns-then-buffer-ne-ANSWER_SIZE c =
    rw (wrong_size_lem 57 _ c.if-buffer-ne-ANSWER_SIZE.true) (record {
      number = refl;
      buffer = refl;
    })

pub returns : goal.returns
unfolding raw_given raw_entry
returns c =
    let z = c.args in
    rw (right_size 57 _ c.if-buffer-ne-ANSWER_SIZE.false)
    (let both = item_given _ _ c.read_raw_entry-loaded.ensures (loaded_none (entry_checks z.image.now z.index) (entry_at z.image.now z.index)) (c.give_item.ensures.number, c.give_item.ensures.buffer) in
    record { number = both.0; buffer = both.1 })
