-- `walk::walk` meets its contract: up to the entry reached the map, the refused headers and the list are the walk's, and from there on nothing is done yet.
use Rattle.std.proofs.Common.{◌≡◌, ◌≤◌}
use Rattle.opening.proofs.Progress.{MarkedTo, HeadsTo, ListedTo}
use Rattle.opening.proofs.walk.walk.Given as goal

abbrev pub invariant-loop-index : goal.invariant-loop-index
invariant-loop-index l = record {
  can : (goal.iterator-loop-index).can_next l.index-iterator;
  finite : (goal.iterator-loop-index).is_finite l.index-iterator;
  image : l.index-iterator.image.now ≡ l.image;
  map : l.index-iterator.map ≡ l.fn.map;
  reached : l.index-iterator.index ≤ 126;
  marks : MarkedTo l.image l.fn.map l.marked l.index-iterator.index;
  heads : HeadsTo l.image l.fn.map l.heads l.index-iterator.index;
  listed : ListedTo l.image l.fn.map l.listing l.index-iterator.index;
}
