-- Any two results that a contract of this crate allows are equal, by what its callers learn.
use Rattle.sector.proofs.Unique.{OneResult, unique}
use Rattle.call_load.proofs.read_raw_entry.Kinds as read_raw_entry_kinds
use Rattle.call_load.proofs.read_raw_entry.Reads as read_raw_entry
use Rattle.call_load.proofs.load_item.Kinds as load_item_kinds
use Rattle.call_load.proofs.load_item.Reads as load_item

pub read_raw_entry_unique : OneResult 1 read_raw_entry_kinds.ps read_raw_entry_kinds.r read_raw_entry.Learnt
read_raw_entry_unique κs args x y ex ey p q = unique p q

pub load_item_unique : OneResult 1 load_item_kinds.ps load_item_kinds.r load_item.Learnt
load_item_unique κs args x y ex ey p q = unique p q
