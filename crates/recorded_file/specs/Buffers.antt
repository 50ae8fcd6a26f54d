-- The seven buffers of a replay (compare/RECORDED.md), one after the other in one list.
--
-- In order: the sizes of the whole and of what a call changes; where each buffer starts, and its size; that no two share a byte.
use Rattle.std.specs.Prelude.{◌≡◌, refl, [], ◌∷◌, ℕ, ◌+◌, get_or}

abbrev pub all_size : ℕ
all_size = 17184

-- image, record, output and result stand first: what a call may change
abbrev pub changed_size : ℕ
changed_size = 8928

abbrev pub request_size : ℕ
request_size = 64

abbrev pub source_start : ℕ
source_start = 8928

abbrev pub data_start : ℕ
data_start = 13024

-- by the buffer's number: image, source, record, data, output, request, result; 0 for a number that none has
unfoldable pub start_of : ℕ → ℕ
start_of buffer = get_or (0 ∷ source_start ∷ 4096 ∷ data_start ∷ 4771 ∷ 17120 ∷ 8867 ∷ []) buffer 0

-- 0 for a number that none has
unfoldable pub buffer_size : ℕ → ℕ
buffer_size buffer = get_or (4096 ∷ 4096 ∷ 675 ∷ 4096 ∷ 4096 ∷ 64 ∷ 61 ∷ []) buffer 0

-- image, record, output, result, source, data, request: each starts where the one before it ends
pub buffers_follow : (start_of 0 ≡ 0)
    × (start_of 2 ≡ start_of 0 + buffer_size 0)
    × (start_of 4 ≡ start_of 2 + buffer_size 2)
    × (start_of 6 ≡ start_of 4 + buffer_size 4)
    × (start_of 1 ≡ start_of 6 + buffer_size 6)
    × (start_of 3 ≡ start_of 1 + buffer_size 1)
    × (start_of 5 ≡ start_of 3 + buffer_size 3)
    × (all_size ≡ start_of 5 + buffer_size 5)
    × (changed_size ≡ start_of 1)
unfolding start_of buffer_size
buffers_follow = (refl, refl, refl, refl, refl, refl, refl, refl, refl)
