-- Any two results that a contract of this crate allows are equal, by what its callers learn.
use Rattle.sector.proofs.Unique.{OneResult, unique}
use Rattle.sector_types.proofs.kind_of.Kinds as kind_of_kinds
use Rattle.sector_types.proofs.kind_of.Reads as kind_of
use Rattle.sector_types.proofs.type_byte.Kinds as type_byte_kinds
use Rattle.sector_types.proofs.type_byte.Reads as type_byte_lem
use Rattle.sector_types.proofs.is_known.Kinds as is_known_kinds
use Rattle.sector_types.proofs.is_known.Reads as is_Known
use Rattle.sector_types.proofs.get_primitive_bytes_width.Kinds as get_primitive_bytes_width_kinds
use Rattle.sector_types.proofs.get_primitive_bytes_width.Reads as get_primitive_bytes_width

pub kind_of_unique : OneResult 0 kind_of_kinds.ps kind_of_kinds.r kind_of.Learnt
kind_of_unique κs args x y ex ey p q = unique p q

pub type_byte_unique : OneResult 0 type_byte_kinds.ps type_byte_kinds.r type_byte_lem.Learnt
type_byte_unique κs args x y ex ey p q = unique p q

pub is_known_unique : OneResult 0 is_known_kinds.ps is_known_kinds.r is_Known.Learnt
is_known_unique κs args x y ex ey p q = unique p q

pub get_primitive_bytes_width_unique : OneResult 0 get_primitive_bytes_width_kinds.ps get_primitive_bytes_width_kinds.r get_primitive_bytes_width.Learnt
get_primitive_bytes_width_unique κs args x y ex ey p q = unique p q
