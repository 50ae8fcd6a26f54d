-- Any two results that a contract of this crate allows are equal, by what its callers learn.
use Rattle.sector.proofs.Unique.{OneResult, unique}
use Rattle.sector_hash.proofs.calculate_hash.Kinds as calculate_hash_kinds
use Rattle.sector_hash.proofs.calculate_hash.Reads as calculate_hash
use Rattle.sector_hash.proofs.key_of.Kinds as key_of_kinds
use Rattle.sector_hash.proofs.key_of.Reads as key_of
use Rattle.sector_hash.proofs.hash_of_item.Kinds as hash_of_item_kinds
use Rattle.sector_hash.proofs.hash_of_item.Reads as hash_of_item

pub calculate_hash_unique : OneResult 0 calculate_hash_kinds.ps calculate_hash_kinds.r calculate_hash.Learnt
calculate_hash_unique κs args x y ex ey p q = unique p q

pub key_of_unique : OneResult 0 key_of_kinds.ps key_of_kinds.r key_of.Learnt
key_of_unique κs args x y ex ey p q = unique p q

pub hash_of_item_unique : OneResult 0 hash_of_item_kinds.ps hash_of_item_kinds.r hash_of_item.Learnt
hash_of_item_unique κs args x y ex ey p q = unique p q
