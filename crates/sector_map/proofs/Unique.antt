-- Any two results that a contract of this crate allows are equal, by what its callers learn.
use Rattle.sector.proofs.Unique.{OneResult, unique}
use Rattle.sector_map.proofs.state_at.Kinds as state_at_kinds
use Rattle.sector_map.proofs.state_at.Reads as state_at
use Rattle.sector_map.proofs.get_entry_state.Kinds as get_entry_state_kinds
use Rattle.sector_map.proofs.get_entry_state.Reads as get_entry_state
use Rattle.sector_map.proofs.get_entry_statistics.Kinds as get_entry_statistics_kinds
use Rattle.sector_map.proofs.get_entry_statistics.Reads as get_entry_statistics
use Rattle.sector_map.proofs.mark_range.Kinds as mark_range_kinds
use Rattle.sector_map.proofs.mark_range.Reads as mark_range
use Rattle.sector_map.proofs.is_written.Kinds as is_written_kinds
use Rattle.sector_map.proofs.is_written.Reads as is_written

pub state_at_unique : OneResult 0 state_at_kinds.ps state_at_kinds.r state_at.Learnt
state_at_unique κs args x y ex ey p q = unique p q

pub get_entry_state_unique : OneResult 0 get_entry_state_kinds.ps get_entry_state_kinds.r get_entry_state.Learnt
get_entry_state_unique κs args x y ex ey p q = unique p q

pub get_entry_statistics_unique : OneResult 0 get_entry_statistics_kinds.ps get_entry_statistics_kinds.r get_entry_statistics.Learnt
get_entry_statistics_unique κs args x y ex ey p q = unique p q

pub mark_range_unique : OneResult 0 mark_range_kinds.ps mark_range_kinds.r mark_range.Learnt
mark_range_unique κs args x y ex ey p q = unique p q

pub is_written_unique : OneResult 0 is_written_kinds.ps is_written_kinds.r is_written.Learnt
is_written_unique κs args x y ex ey p q = unique p q
