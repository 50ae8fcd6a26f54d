-- `call_hash_bound::hashed_item_bound` meets its contract: the walk from entry 0 on is the definition's.
use Rattle.call_hash_bound.specs.Bound.{hash_bound}
use Rattle.call_hash_bound.proofs.hashed_item_bound.Goals as goal

pub returns : goal.returns
unfolding hash_bound
returns c =
    c.bound_from.ensures
