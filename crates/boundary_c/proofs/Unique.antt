-- Any two results that an exported function's contract allows are equal, and so are the buffers that they leave: the laws of the crate `boundary`, of the functions that C calls.
use mathlib.Core.Path.{◌≡◌}
use mathlib.Core.List.{List}
use Prim.Native.Nat.{ℕ}
use borrow.Fn.Kinds.{ParamKind, ResultKind, Dens, Out, res_t, ended_of}
use contract.Lifetimes.{Lfts}
use denote.Triple.Clauses.{AtExit}
use Rattle.sector.proofs.Unique.{OneResult, OneOutcome, unique}
use Rattle.boundary_c.proofs.sums.nvs_crc32.Kinds as nvs_crc32_kinds
use Rattle.boundary_c.proofs.sums.nvs_crc32.Reads as nvs_crc32
use Rattle.boundary_c.proofs.sums.nvs_item_crc.Kinds as nvs_item_crc_kinds
use Rattle.boundary_c.proofs.sums.nvs_item_crc.Reads as nvs_item_crc
use Rattle.boundary_c.proofs.sums.nvs_header_crc.Kinds as nvs_header_crc_kinds
use Rattle.boundary_c.proofs.sums.nvs_header_crc.Reads as nvs_header_crc
use Rattle.boundary_c.proofs.sums.nvs_hash.Kinds as nvs_hash_kinds
use Rattle.boundary_c.proofs.sums.nvs_hash.Reads as nvs_hash
use Rattle.boundary_c.proofs.sums.nvs_type_byte.Kinds as nvs_type_byte_kinds
use Rattle.boundary_c.proofs.sums.nvs_type_byte.Reads as nvs_type_byte
use Rattle.boundary_c.proofs.reading.nvs_width.Kinds as nvs_width_kinds
use Rattle.boundary_c.proofs.reading.nvs_width.Reads as nvs_width
use Rattle.boundary_c.proofs.reading.nvs_load.Kinds as nvs_load_kinds
use Rattle.boundary_c.proofs.reading.nvs_load.Reads as nvs_load
use Rattle.boundary_c.proofs.reading.nvs_raw_read.Kinds as nvs_raw_read_kinds
use Rattle.boundary_c.proofs.reading.nvs_raw_read.Reads as nvs_raw_read
use Rattle.boundary_c.proofs.reading.nvs_load_data.Kinds as nvs_load_data_kinds
use Rattle.boundary_c.proofs.reading.nvs_load_data.Reads as nvs_load_data
use Rattle.boundary_c.proofs.reading.nvs_entry_state.Kinds as nvs_entry_state_kinds
use Rattle.boundary_c.proofs.reading.nvs_entry_state.Reads as nvs_entry_state
use Rattle.boundary_c.proofs.reading.nvs_statistics.Kinds as nvs_statistics_kinds
use Rattle.boundary_c.proofs.reading.nvs_statistics.Reads as nvs_statistics
use Rattle.boundary_c.proofs.reading.nvs_hash_bound.Kinds as nvs_hash_bound_kinds
use Rattle.boundary_c.proofs.reading.nvs_hash_bound.Reads as nvs_hash_bound
use Rattle.boundary_c.proofs.writing.nvs_open.Kinds as nvs_open_kinds
use Rattle.boundary_c.proofs.writing.nvs_open.Reads as nvs_open
use Rattle.boundary_c.proofs.writing.nvs_open_stopped.Kinds as nvs_open_stopped_kinds
use Rattle.boundary_c.proofs.writing.nvs_open_stopped.Reads as nvs_open_stopped
use Rattle.boundary_c.proofs.writing.nvs_initialise.Kinds as nvs_initialise_kinds
use Rattle.boundary_c.proofs.writing.nvs_initialise.Reads as nvs_initialise
use Rattle.boundary_c.proofs.writing.nvs_mark_full.Kinds as nvs_mark_full_kinds
use Rattle.boundary_c.proofs.writing.nvs_mark_full.Reads as nvs_mark_full
use Rattle.boundary_c.proofs.writing.nvs_append_single.Kinds as nvs_append_single_kinds
use Rattle.boundary_c.proofs.writing.nvs_append_single.Reads as nvs_append_single
use Rattle.boundary_c.proofs.writing.nvs_append_namespace.Kinds as nvs_append_namespace_kinds
use Rattle.boundary_c.proofs.writing.nvs_append_namespace.Reads as nvs_append_namespace
use Rattle.boundary_c.proofs.writing.nvs_append_variable.Kinds as nvs_append_variable_kinds
use Rattle.boundary_c.proofs.writing.nvs_append_variable.Reads as nvs_append_variable
use Rattle.boundary_c.proofs.writing.nvs_copy_in.Kinds as nvs_copy_in_kinds
use Rattle.boundary_c.proofs.writing.nvs_copy_in.Reads as nvs_copy_in
use Rattle.boundary_c.proofs.writing.nvs_erase.Kinds as nvs_erase_kinds
use Rattle.boundary_c.proofs.writing.nvs_erase.Reads as nvs_erase
use Rattle.boundary_c.proofs.writing.nvs_purge.Kinds as nvs_purge_kinds
use Rattle.boundary_c.proofs.writing.nvs_purge.Reads as nvs_purge
use Rattle.boundary_c.proofs.writing.nvs_purge_namespace.Kinds as nvs_purge_namespace_kinds
use Rattle.boundary_c.proofs.writing.nvs_purge_namespace.Reads as nvs_purge_namespace

-- of the same arguments, two numbers that a contract allows are equal, and the two buffers that they leave
abbrev OneLeft : (n : ℕ) (ps : List (ParamKind n)) (r : ResultKind n)
    → ((κs : Lfts n) → AtExit (ended_of n ps r) κs → List ℕ) → ((κs : Lfts n) → AtExit (ended_of n ps r) κs → List ℕ) → Out n ps r → Type 0
OneLeft n ps r image buffer contract =
    (κs : Lfts n) (args : Dens κs ps) (x y : (res_t r κs).Denot) (ex ey : AtExit (ended_of n ps r) κs)
    → contract κs args x ex → contract κs args y ey → (x ≡ y) × (image κs ex ≡ image κs ey) × (buffer κs ex ≡ buffer κs ey)

pub nvs_crc32_unique : OneResult 1 nvs_crc32_kinds.ps nvs_crc32_kinds.r nvs_crc32.Learnt
nvs_crc32_unique κs args x y ex ey p q = unique p q

pub nvs_item_crc_unique : OneOutcome 2 nvs_item_crc_kinds.ps nvs_item_crc_kinds.r (λ κs ex. ex.1.0.now) nvs_item_crc.Learnt
nvs_item_crc_unique κs args x y ex ey p q = (unique p.0 q.0, unique p.1 q.1)

pub nvs_header_crc_unique : OneOutcome 2 nvs_header_crc_kinds.ps nvs_header_crc_kinds.r (λ κs ex. ex.1.0.now) nvs_header_crc.Learnt
nvs_header_crc_unique κs args x y ex ey p q = (unique p.0 q.0, unique p.1 q.1)

pub nvs_hash_unique : OneOutcome 2 nvs_hash_kinds.ps nvs_hash_kinds.r (λ κs ex. ex.1.1.1.0.now) nvs_hash.Learnt
nvs_hash_unique κs args x y ex ey p q = (unique p.0 q.0, unique p.1 q.1)

pub nvs_type_byte_unique : OneResult 0 nvs_type_byte_kinds.ps nvs_type_byte_kinds.r nvs_type_byte.Learnt
nvs_type_byte_unique κs args x y ex ey p q = unique p q

pub nvs_width_unique : OneOutcome 1 nvs_width_kinds.ps nvs_width_kinds.r (λ κs ex. ex.1.0.now) nvs_width.Learnt
nvs_width_unique κs args x y ex ey p q = (unique p.0 q.0, unique p.1 q.1)

pub nvs_load_unique : OneOutcome 2 nvs_load_kinds.ps nvs_load_kinds.r (λ κs ex. ex.1.1.0.now) nvs_load.Learnt
nvs_load_unique κs args x y ex ey p q = (unique p.0 q.0, unique p.1 q.1)

pub nvs_raw_read_unique : OneOutcome 2 nvs_raw_read_kinds.ps nvs_raw_read_kinds.r (λ κs ex. ex.1.1.0.now) nvs_raw_read.Learnt
nvs_raw_read_unique κs args x y ex ey p q = (unique p.0 q.0, unique p.1 q.1)

pub nvs_load_data_unique : OneLeft 3 nvs_load_data_kinds.ps nvs_load_data_kinds.r (λ κs ex. ex.1.1.0.now) (λ κs ex. ex.1.1.1.0.now) nvs_load_data.Learnt
nvs_load_data_unique κs args x y ex ey p q = (unique p.0 q.0, unique p.1.0 q.1.0, unique p.1.1 q.1.1)

pub nvs_entry_state_unique : OneOutcome 2 nvs_entry_state_kinds.ps nvs_entry_state_kinds.r (λ κs ex. ex.1.1.0.now) nvs_entry_state.Learnt
nvs_entry_state_unique κs args x y ex ey p q = (unique p.0 q.0, unique p.1 q.1)

pub nvs_statistics_unique : OneOutcome 2 nvs_statistics_kinds.ps nvs_statistics_kinds.r (λ κs ex. ex.1.0.now) nvs_statistics.Learnt
nvs_statistics_unique κs args x y ex ey p q = (unique p.0 q.0, unique p.1 q.1)

pub nvs_hash_bound_unique : OneOutcome 3 nvs_hash_bound_kinds.ps nvs_hash_bound_kinds.r (λ κs ex. ex.1.1.0.now) nvs_hash_bound.Learnt
nvs_hash_bound_unique κs args x y ex ey p q = (unique p.0 q.0, unique p.1 q.1)

pub nvs_open_unique : OneLeft 2 nvs_open_kinds.ps nvs_open_kinds.r (λ κs ex. ex.0.now) (λ κs ex. ex.1.0.now) nvs_open.Learnt
nvs_open_unique κs args x y ex ey p q = (unique p.0 q.0, unique p.1.0 q.1.0, unique p.1.1 q.1.1)

pub nvs_open_stopped_unique : OneLeft 2 nvs_open_stopped_kinds.ps nvs_open_stopped_kinds.r (λ κs ex. ex.0.now) (λ κs ex. ex.1.0.now) nvs_open_stopped.Learnt
nvs_open_stopped_unique κs args x y ex ey p q = (unique p.0 q.0, unique p.1.0 q.1.0, unique p.1.1 q.1.1)

pub nvs_initialise_unique : OneLeft 2 nvs_initialise_kinds.ps nvs_initialise_kinds.r (λ κs ex. ex.0.now) (λ κs ex. ex.1.0.now) nvs_initialise.Learnt
nvs_initialise_unique κs args x y ex ey p q = (unique p.0 q.0, unique p.1.0 q.1.0, unique p.1.1 q.1.1)

pub nvs_mark_full_unique : OneLeft 2 nvs_mark_full_kinds.ps nvs_mark_full_kinds.r (λ κs ex. ex.0.now) (λ κs ex. ex.1.0.now) nvs_mark_full.Learnt
nvs_mark_full_unique κs args x y ex ey p q = (unique p.0 q.0, unique p.1.0 q.1.0, unique p.1.1 q.1.1)

pub nvs_append_single_unique : OneLeft 4 nvs_append_single_kinds.ps nvs_append_single_kinds.r (λ κs ex. ex.0.now) (λ κs ex. ex.1.0.now) nvs_append_single.Learnt
nvs_append_single_unique κs args x y ex ey p q = (unique p.0 q.0, unique p.1.0 q.1.0, unique p.1.1 q.1.1)

pub nvs_append_namespace_unique : OneLeft 3 nvs_append_namespace_kinds.ps nvs_append_namespace_kinds.r (λ κs ex. ex.0.now) (λ κs ex. ex.1.0.now) nvs_append_namespace.Learnt
nvs_append_namespace_unique κs args x y ex ey p q = (unique p.0 q.0, unique p.1.0 q.1.0, unique p.1.1 q.1.1)

pub nvs_append_variable_unique : OneLeft 4 nvs_append_variable_kinds.ps nvs_append_variable_kinds.r (λ κs ex. ex.0.now) (λ κs ex. ex.1.0.now) nvs_append_variable.Learnt
nvs_append_variable_unique κs args x y ex ey p q = (unique p.0 q.0, unique p.1.0 q.1.0, unique p.1.1 q.1.1)

pub nvs_copy_in_unique : OneLeft 3 nvs_copy_in_kinds.ps nvs_copy_in_kinds.r (λ κs ex. ex.0.now) (λ κs ex. ex.1.0.now) nvs_copy_in.Learnt
nvs_copy_in_unique κs args x y ex ey p q = (unique p.0 q.0, unique p.1.0 q.1.0, unique p.1.1 q.1.1)

pub nvs_erase_unique : OneLeft 2 nvs_erase_kinds.ps nvs_erase_kinds.r (λ κs ex. ex.0.now) (λ κs ex. ex.1.0.now) nvs_erase.Learnt
nvs_erase_unique κs args x y ex ey p q = (unique p.0 q.0, unique p.1.0 q.1.0, unique p.1.1 q.1.1)

pub nvs_purge_unique : OneOutcome 1 nvs_purge_kinds.ps nvs_purge_kinds.r (λ κs ex. ex.0.now) nvs_purge.Learnt
nvs_purge_unique κs args x y ex ey p q = (unique p.0 q.0, unique p.1 q.1)

pub nvs_purge_namespace_unique : OneLeft 2 nvs_purge_namespace_kinds.ps nvs_purge_namespace_kinds.r (λ κs ex. ex.0.now) (λ κs ex. ex.1.0.now) nvs_purge_namespace.Learnt
nvs_purge_namespace_unique κs args x y ex ey p q = (unique p.0 q.0, unique p.1.0 q.1.0, unique p.1.1 q.1.1)
