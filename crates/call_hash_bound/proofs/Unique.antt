-- Any two results that a contract of this crate allows are equal, by what its callers learn.
use Rattle.sector.proofs.Unique.{OneResult, unique}
use Rattle.call_hash_bound.proofs.hashed_item_bound.Kinds as hashed_item_bound_kinds
use Rattle.call_hash_bound.proofs.hashed_item_bound.Reads as hashed_item_bound

pub hashed_item_bound_unique : OneResult 0 hashed_item_bound_kinds.ps hashed_item_bound_kinds.r hashed_item_bound.Learnt
hashed_item_bound_unique κs args x y ex ey p q = unique p q
