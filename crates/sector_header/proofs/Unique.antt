-- Any two results that a contract of this crate allows are equal, by what its callers learn.
use Rattle.sector.proofs.Unique.{OneResult, unique}
use Rattle.sector_header.proofs.header_crc.Kinds as header_crc_kinds
use Rattle.sector_header.proofs.header_crc.Reads as header_crc
use Rattle.sector_header.proofs.state_of_word.Kinds as state_of_word_kinds
use Rattle.sector_header.proofs.state_of_word.Reads as state_of_word
use Rattle.sector_header.proofs.header_bytes.Kinds as header_bytes_kinds
use Rattle.sector_header.proofs.header_bytes.Reads as header_bytes_lem

pub header_crc_unique : OneResult 0 header_crc_kinds.ps header_crc_kinds.r header_crc.Learnt
header_crc_unique κs args x y ex ey p q = unique p q

pub state_of_word_unique : OneResult 0 state_of_word_kinds.ps state_of_word_kinds.r state_of_word.Learnt
state_of_word_unique κs args x y ex ey p q = unique p q

pub header_bytes_unique : OneResult 0 header_bytes_kinds.ps header_bytes_kinds.r header_bytes_lem.Learnt
header_bytes_unique κs args x y ex ey p q = unique p q
