-- `opening_marks::tail_start` meets its contract: from the entry reached on all is free, and where the loop stops the entry before is not.
use Rattle.std.proofs.Common.{◌≡◌, sym, ◌∙◌, true, ◌&&◌, List, ℕ, suc, ◌+◌, ◌-◌, ◌<◌, ◌≤◌, length, drop, arith, add-one}
use mathlib.Core.Bool.{and-true}
use lib.ListN.{drop_of_length-le}
use Rattle.flash.specs.Flash.{all_ones}
use Rattle.sector.specs.Layout.{entry_at, entries_of}
use Rattle.sector.specs.Map.{states_of, state_at}
use Rattle.sector.proofs.Laws.{length-states_of, length-entries_of}
use Rattle.opening_reading.specs.Reading.{is_empty, is_free_tail}
use Rattle.opening_marks.proofs.FreeTail.{shut_free_tail, shut_after}
use Rattle.opening_reading.proofs.Entries.{states_from, entries_from}
use Rattle.opening_marks.proofs.tail_start.Goals as goal
use Rattle.opening_marks.proofs.tail_start.Goals.{After-is_free}

-- the tail is free from an entry on where it is from the next one on and the entry is free
free_from : (image map : List ℕ) (index next : ℕ) → length map ≡ 32 → index < 126 → index + 1 ≡ next
    → is_free_tail (drop next (states_of map)) (drop next (entries_of image)) ≡ true
    → is_free_tail (drop index (states_of map)) (drop index (entries_of image)) ≡ (is_empty (state_at map index) && all_ones (entry_at image index))
free_from image map index next long inside there free =
    rw (states_from map index long inside, entries_from image index inside, there, free, and-true (all_ones (entry_at image index)))

tested : (c : After-is_free) → is_free_tail (drop (c.loop-index.index - 1) (states_of c.args.map)) (drop (c.loop-index.index - 1) (entries_of c.args.image.now)) ≡ c.is_free.result
tested c = free_from c.args.image.now c.args.map (c.loop-index.index - 1) c.loop-index.index (omega arith) (omega arith) (omega arith) c.loop-index.invariant ∙ sym c.is_free.ensures

pub loop-index-init : goal.loop-index-init
loop-index-init c =
    let map = c.args.map in
    let short : length (states_of map) ≤ 126 = omega (arith, length-states_of map (omega arith)) in
    rw (drop_of_length-le (states_of map) short)

pub returns-then-not-is_free : goal.returns-then-not-is_free
returns-then-not-is_free c =
    let image = c.args.image.now in
    let map = c.args.map in
    let index = c.loop-index.index - 1 in
    let next : suc index ≡ c.loop-index.index = omega arith in (
      omega arith,
      rw (add-one index)
          (shut_after index (states_of map) (entries_of image) (rw (length-states_of map (omega arith)) (omega arith)) (rw (length-entries_of image) (omega arith))
          (tested (goal.at.returns-then-not-is_free c).After-is_free ∙ c.if-not-is_free.true) (rw next c.loop-index.invariant)),
    )

pub loop-index-preserved : goal.loop-index-preserved
loop-index-preserved c = tested (goal.at.loop-index-preserved c).After-is_free ∙ c.if-not-is_free.false

pub returns : goal.returns
returns c =
    let none : c.loop-index.index ≡ 0 = omega arith in
    (omega arith, shut_free_tail (states_of c.args.map) (entries_of c.args.image.now) (rw none at c.loop-index.invariant))
