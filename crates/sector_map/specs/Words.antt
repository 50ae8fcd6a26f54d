-- Words of the entry map (02, R-3): the states in a word, and the word masked for a state.
--
-- In order: the states in a word; the mask of its entries; the bits that are left where an entry is in a state; how many there are of each state.
-- An entry has two bits. A mask holds one bit for each entry, at the place of the lower one.
use Rattle.std.specs.Prelude.{List, [], ◌∷◌, ℕ, zero, suc, ◌+◌, ◌*◌, ◌/◌, ◌%◌}
use Rattle.std.specs.Int.Bits.{bit_and, bit_xor}
use Rattle.std.specs.Int.Count.{ones}
use Rattle.sector.specs.declared.EntryMapState.{EntryMapState}
use Rattle.sector.specs.declared.EntryMapState.TheVariants.{Empty, Written, Erased, Illegal}
use Rattle.sector.specs.declared.Statistics.{Statistics}
use Rattle.sector.specs.Map.{state_of_bits}

-- the states of the k lowest entries of a word, lowest bits first
unfoldable pub word_states : ℕ → ℕ → List EntryMapState
word_states zero word = []
word_states (suc k) word = state_of_bits (word % 4) ∷ word_states k (word / 4)

-- the mask of the k lowest entries
unfoldable pub entry_mask : ℕ → ℕ
entry_mask zero = 0
entry_mask (suc k) = entry_mask k * 4 + 1

-- the lower bits of the entries, and the upper ones at the same places
abbrev pub low_bits : ℕ → ℕ → ℕ
low_bits mask word = bit_and word mask

abbrev pub high_bits : ℕ → ℕ → ℕ
high_bits mask word = bit_and (word / 2) mask

-- a bit is left where the entry is in the state; XOR with the mask turns the bits of the entries
unfoldable pub masked : EntryMapState → ℕ → ℕ → ℕ
masked Empty mask word = bit_and (high_bits mask word) (low_bits mask word)
masked Written mask word = bit_and (high_bits mask word) (bit_xor (low_bits mask word) mask)
masked Erased mask word = bit_and (bit_xor (high_bits mask word) mask) (bit_xor (low_bits mask word) mask)
masked Illegal mask word = bit_and (bit_xor (high_bits mask word) mask) (low_bits mask word)

-- how many entries of a word are in each state
unfoldable pub word_statistics : ℕ → ℕ → Statistics
word_statistics mask word =
    record {
      empty = ones (masked Empty mask word);
      written = ones (masked Written mask word);
      erased = ones (masked Erased mask word);
      illegal = ones (masked Illegal mask word);
    }
