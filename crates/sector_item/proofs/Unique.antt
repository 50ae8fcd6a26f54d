-- Any two results that a contract of this crate allows are equal, by what its callers learn.
use Rattle.sector.proofs.Unique.{OneResult, unique}
use Rattle.sector_item.proofs.item_crc.Kinds as item_crc_kinds
use Rattle.sector_item.proofs.item_crc.Reads as item_crc
use Rattle.sector_item.proofs.crc_right.Kinds as crc_right_kinds
use Rattle.sector_item.proofs.crc_right.Reads as crc_right
use Rattle.sector_item.proofs.loads.Kinds as loads_kinds
use Rattle.sector_item.proofs.loads.Reads as loads
use Rattle.sector_item.proofs.item_bytes.Kinds as item_bytes_kinds
use Rattle.sector_item.proofs.item_bytes.Reads as item_bytes
use Rattle.sector_item.proofs.sized_data.Kinds as sized_data_kinds
use Rattle.sector_item.proofs.sized_data.Reads as sized_data

pub item_crc_unique : OneResult 0 item_crc_kinds.ps item_crc_kinds.r item_crc.Learnt
item_crc_unique κs args x y ex ey p q = unique p q

pub crc_right_unique : OneResult 0 crc_right_kinds.ps crc_right_kinds.r crc_right.Learnt
crc_right_unique κs args x y ex ey p q = unique p q

pub loads_unique : OneResult 0 loads_kinds.ps loads_kinds.r loads.Learnt
loads_unique κs args x y ex ey p q = unique p q

pub item_bytes_unique : OneResult 0 item_bytes_kinds.ps item_bytes_kinds.r item_bytes.Learnt
item_bytes_unique κs args x y ex ey p q = unique p q

pub sized_data_unique : OneResult 1 sized_data_kinds.ps sized_data_kinds.r sized_data.Learnt
sized_data_unique κs args x y ex ey p q = unique p q
