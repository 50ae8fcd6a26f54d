-- `opening_found::next_kept` meets its contract: the next kept item from the entry reached on is the one from the start on.
use Rattle.std.proofs.Common.{◌≡◌}
use Rattle.opening_found.specs.Found.{next_kept}
use Rattle.opening_found.proofs.next_kept.Given as goal

abbrev pub invariant-loop-index : goal.invariant-loop-index
invariant-loop-index l = record {
  can : (goal.iterator-loop-index).can_next l.index-iterator;
  finite : (goal.iterator-loop-index).is_finite l.index-iterator;
  image : l.index-iterator.image.now ≡ l.image;
  map : l.index-iterator.map ≡ l.fn.map;
  next : next_kept l.image l.fn.map l.index-iterator.index ≡ next_kept l.image l.fn.map l.from;
}
