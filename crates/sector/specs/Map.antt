-- The entry map (01, 'The sector'): two bits an entry, entry i at bit 2 * (i mod 4) of map byte i / 4.
--
-- In order: the states and their bits; the state of an entry; all 126 states; what `get_entry_state` and `get_entry_statistics` answer; setting a range.
use Rattle.std.specs.Prelude.{Bool, cond, List, [], ◌∷◌, ℕ, zero, suc, ◌+◌, ◌-◌, ◌*◌, ◌/◌, ◌%◌, ◌^◌, ◌<◌, eqb, ltb, take, get_or, set, Err}
use Rattle.std.specs.Int.Bits.{bit_and}
use Rattle.flash.specs.Flash.{Unit4, units}
use Rattle.sector.specs.Answers.{Answer, Done}
use Rattle.sector.specs.declared.EntryMapState.{EntryMapState}
use Rattle.sector.specs.declared.EntryMapState.TheVariants.{Empty, Written, Erased, Illegal}
use Rattle.sector.specs.declared.Refusal.TheVariants.{CorruptedData}
use Rattle.sector.specs.declared.Statistics.{Statistics}
use Rattle.sector.specs.Layout.{entries_per_page, map_offset, field}

-- ---- states

abbrev pub bits_of : EntryMapState → ℕ
bits_of Empty = 0b11
bits_of Written = 0b10
bits_of Erased = 0b00
bits_of Illegal = 0b01

-- the state of two bits
abbrev pub state_of_bits : ℕ → EntryMapState
state_of_bits bits = get_or (Erased ∷ Illegal ∷ Written ∷ Empty ∷ []) bits Empty

-- ---- the state of an entry

-- the two bits of an entry
abbrev pub entry_bits : List ℕ → ℕ → ℕ
entry_bits map i = get_or map (i / 4) 0 / 4 ^ (i % 4) % 4

-- the state of an entry, by its bits
abbrev pub state_at : List ℕ → ℕ → EntryMapState
state_at map i = state_of_bits (entry_bits map i)

-- what `get_entry_state` answers; the state is Erased, whose bits are 0, where that is not Done
pub record StateAnswer : Type 0 where
  pub answer : Answer
  pub state : EntryMapState

-- an index over 125 is CorruptedData: the last byte's top four bits belong to no entry
unfoldable pub entry_state : List ℕ → ℕ → StateAnswer
entry_state map i =
    cond (ltb i entries_per_page)
    (record { answer = Done; state = state_at map i })
    (record { answer = Err CorruptedData; state = Erased })

-- ---- all states

-- the four states of each byte, lowest bits first
abbrev pub unpack : List ℕ → List EntryMapState
unpack [] = []
unpack (byte ∷ bytes) =
    state_of_bits (byte % 4) ∷ state_of_bits (byte / 4 % 4) ∷ state_of_bits (byte / 16 % 4) ∷ state_of_bits (byte / 64 % 4) ∷ unpack bytes

-- a byte of four states, lowest bits first
abbrev pub packed : EntryMapState → EntryMapState → EntryMapState → EntryMapState → ℕ
packed a b c d = ((bits_of d * 4 + bits_of c) * 4 + bits_of b) * 4 + bits_of a

-- the bytes of a map, four states in each; one to three states over make no byte
abbrev pub pack : List EntryMapState → List ℕ
pack [] = []
pack (a ∷ []) = []
pack (a ∷ b ∷ []) = []
pack (a ∷ b ∷ c ∷ []) = []
pack (a ∷ b ∷ c ∷ d ∷ states) = packed a b c d ∷ pack states

-- the states of the page's entries: the last two of the map's 128 belong to none
abbrev pub states_of : List ℕ → List EntryMapState
states_of map = take entries_per_page (unpack map)

-- ---- statistics

-- the states are the same
abbrev pub same_state : EntryMapState → EntryMapState → Bool
same_state s t = eqb (bits_of s) (bits_of t)

-- how many are in a state
unfoldable pub count_in : EntryMapState → List EntryMapState → ℕ
count_in s [] = 0
count_in s (t ∷ states) = cond (same_state s t) 1 0 + count_in s states

unfoldable pub statistics : List ℕ → Statistics
statistics map =
    record {
      empty = count_in Empty (states_of map);
      written = count_in Written (states_of map);
      erased = count_in Erased (states_of map);
      illegal = count_in Illegal (states_of map);
    }

-- the counts of two parts together
abbrev pub counts_sum : Statistics → Statistics → Statistics
counts_sum a b =
    record { empty = a.empty + b.empty; written = a.written + b.written; erased = a.erased + b.erased; illegal = a.illegal + b.illegal }

-- the sums fit a `u32`
abbrev pub CountsFit : Statistics → Statistics → Type 0
CountsFit a b = (a.empty + b.empty < 2 ^ 32) × (a.written + b.written < 2 ^ 32) × (a.erased + b.erased < 2 ^ 32) × (a.illegal + b.illegal < 2 ^ 32)

-- ---- setting a range

-- a byte of ones but for a state's bits at pair k
abbrev pub mark_mask : EntryMapState → ℕ → ℕ
mark_mask s k = 0xFF - (0b11 - bits_of s) * 4 ^ k

-- one entry's bits are ANDed with a state's
abbrev pub mark : EntryMapState → ℕ → List ℕ → List ℕ
mark s i map = set map (i / 4) (bit_and (get_or map (i / 4) 0) (mark_mask s (i % 4)))

-- the bits of n entries from i on are ANDed with a state's
unfoldable pub mark_range : EntryMapState → ℕ → ℕ → List ℕ → List ℕ
mark_range s i zero map = map
mark_range s i (suc n) map = mark_range s (suc i) n (mark s i map)

-- the units that hold the map bytes of n entries from i on, from a map already marked; n is not 0
unfoldable pub map_units : ℕ → ℕ → List ℕ → List Unit4
map_units i n map =
    let first = i / 16 in
    let last = (i + n - 1) / 16 in
    units (map_offset + 4 * first) (field (4 * first) (4 * (last + 1 - first)) map)
