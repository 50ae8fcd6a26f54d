-- Laws of the words of a map (specs/Words.antt): the ones of a masked word are the entries in that state.
--
-- In order: a word by its lowest entry; the masked word by it; one entry; any number of entries; the bytes of a word; the words of a map; the mask of a
-- state at a pair.
use mathlib.Core.Path.{◌≡◌, refl, sym, ap, ap₂, ◌∙◌}
use mathlib.Core.Bool.{Bool, true, false, cond}
use mathlib.Core.List.{List, [], ◌∷◌, ◌++◌}
use Prim.Native.Nat.{ℕ, zero, suc, ◌+◌, ◌*◌, ◌/◌, ◌%◌, ◌^◌, ◌<◌, ◌≤◌}
use native.Mathlib.Nat.{add_comm, lt_of_le_of_lt}
use native.Mathlib.Omega.{arith}
use lib.Bits.{bit_and, bit_xor, and_block, xor_block, and_mask, and_lt, and_le_r, xor_lt, and_zero_r}
use lib.Count.{ones, ones_cat, ones-le}
use lib.Dec.{lit<}
use lib.ListN.{length, take, drop, length-drop, take-append-drop}
use lib.Seq.{take_all, drop-drop}
use Rattle.flash.proofs.Laws.{four_suc, Bytes, bytes_nil, bytes_cons}
use Rattle.sector.specs.declared.EntryMapState.{EntryMapState}
use Rattle.sector.specs.declared.EntryMapState.TheVariants.{Empty, Written, Erased, Illegal}
use Rattle.sector.specs.Layout.{number, field}
use Rattle.sector.specs.Map.{state_of_bits, same_state, unpack, states_of, count_in, statistics, counts_sum}
use Rattle.sector.proofs.Marks.{unpack_append, count_in-append}
use Rattle.sector_map.specs.Words.{word_states, entry_mask, low_bits, high_bits, masked, word_statistics}

-- ---- a word by its lowest entry

lowest : (word : ℕ) → word ≡ word / 4 * 4 + word % 4
lowest word = omega arith

low_step : (mask rest bits : ℕ) → bits < 4 → low_bits (mask * 4 + 1) (rest * 4 + bits) ≡ low_bits mask rest * 4 + bits % 2
low_step mask rest bits h = and_block 2 rest mask bits 1 h (lit< tt) ∙ ap (λ (bit : ℕ). bit_and rest mask * 4 + bit) (and_mask bits 1)

high_step : (mask rest bits : ℕ) → bits < 4 → high_bits (mask * 4 + 1) (rest * 4 + bits) ≡ high_bits mask rest * 4 + bits / 2
high_step mask rest bits h =
    let low = rest % 2 * 2 + bits / 2 in
    let half : (rest * 4 + bits) / 2 ≡ rest / 2 * 4 + low = omega arith in
    let small : low < 4 = omega arith in
    let upper : low % 2 ≡ bits / 2 = omega arith in
    ap (λ (shifted : ℕ). bit_and shifted (mask * 4 + 1)) half
    ∙ and_block 2 (rest / 2) mask low 1 small (lit< tt)
    ∙ ap (λ (bit : ℕ). bit_and (rest / 2) mask * 4 + bit) (and_mask low 1 ∙ upper)

-- ---- the masked word by it

-- bits as they are, or turned
abbrev side : Bool → ℕ → ℕ → ℕ
side true mask bits = bits
side false mask bits = bit_xor bits mask

-- the two bits of a state
abbrev upper : EntryMapState → Bool
upper Empty = true
upper Written = true
upper Erased = false
upper Illegal = false

abbrev lower : EntryMapState → Bool
lower Empty = true
lower Written = false
lower Erased = false
lower Illegal = true

masked_sides : (s : EntryMapState) (mask word : ℕ) → masked s mask word ≡ bit_and (side (upper s) mask (high_bits mask word)) (side (lower s) mask (low_bits mask word))
unfolding masked
masked_sides Empty mask word = refl
masked_sides Written mask word = refl
masked_sides Erased mask word = refl
masked_sides Illegal mask word = refl

side_step : (kept : Bool) (mask bits bit : ℕ) → bit < 2 → side kept (mask * 4 + 1) (bits * 4 + bit) ≡ side kept mask bits * 4 + side kept 1 bit
side_step true mask bits bit h = refl
side_step false mask bits bit h = xor_block 2 bits mask bit 1 (omega arith) (lit< tt)

side_lt : (kept : Bool) (bit : ℕ) → bit < 2 → side kept 1 bit < 4
side_lt true bit h = omega arith
side_lt false zero h = lit< tt
side_lt false (suc zero) h = lit< tt
side_lt false (suc (suc bit)) h = absurd (omega arith)

-- what is left of one entry
abbrev pair : EntryMapState → ℕ → ℕ
pair s bits = bit_and (side (upper s) 1 (bits / 2)) (side (lower s) 1 (bits % 2))

pair_lt : (s : EntryMapState) (bits : ℕ) → bits < 4 → pair s bits < 4
pair_lt s bits h =
    and_lt 2 (side (upper s) 1 (bits / 2)) (side (lower s) 1 (bits % 2)) (side_lt (upper s) (bits / 2) (omega arith)) (side_lt (lower s) (bits % 2) (omega arith))

masked_step : (s : EntryMapState) (mask rest bits : ℕ) → bits < 4 → masked s (mask * 4 + 1) (rest * 4 + bits) ≡ masked s mask rest * 4 + pair s bits
masked_step s mask rest bits h =
    let high : bits / 2 < 2 = omega arith in
    let low : bits % 2 < 2 = omega arith in
    masked_sides s (mask * 4 + 1) (rest * 4 + bits)
    ∙ ap₂ bit_and
    (ap (side (upper s) (mask * 4 + 1)) (high_step mask rest bits h) ∙ side_step (upper s) mask (high_bits mask rest) (bits / 2) high)
    (ap (side (lower s) (mask * 4 + 1)) (low_step mask rest bits h) ∙ side_step (lower s) mask (low_bits mask rest) (bits % 2) low)
    ∙ and_block 2 (side (upper s) mask (high_bits mask rest)) (side (lower s) mask (low_bits mask rest)) (side (upper s) 1 (bits / 2)) (side (lower s) 1 (bits % 2))
    (side_lt (upper s) (bits / 2) high) (side_lt (lower s) (bits % 2) low)
    ∙ ap (λ (m : ℕ). m * 4 + pair s bits) (sym (masked_sides s mask rest))

-- ---- one entry

one_entry : (s : EntryMapState) (bits : ℕ) → bits < 4 → ones (pair s bits) ≡ cond (same_state s (state_of_bits bits)) 1 0
unfolding ones
one_entry Empty zero h = refl
one_entry Empty (suc zero) h = refl
one_entry Empty (suc (suc zero)) h = refl
one_entry Empty (suc (suc (suc zero))) h = refl
one_entry Written zero h = refl
one_entry Written (suc zero) h = refl
one_entry Written (suc (suc zero)) h = refl
one_entry Written (suc (suc (suc zero))) h = refl
one_entry Erased zero h = refl
one_entry Erased (suc zero) h = refl
one_entry Erased (suc (suc zero)) h = refl
one_entry Erased (suc (suc (suc zero))) h = refl
one_entry Illegal zero h = refl
one_entry Illegal (suc zero) h = refl
one_entry Illegal (suc (suc zero)) h = refl
one_entry Illegal (suc (suc (suc zero))) h = refl
one_entry s (suc (suc (suc (suc bits)))) h = absurd (omega arith)

-- ---- any number of entries

masked_none : (s : EntryMapState) (word : ℕ) → masked s 0 word ≡ 0
unfolding masked
masked_none Empty word = rw (and_zero_r word, and_zero_r (word / 2))
masked_none Written word = rw (and_zero_r word, and_zero_r (word / 2))
masked_none Erased word = rw (and_zero_r word, and_zero_r (word / 2))
masked_none Illegal word = rw (and_zero_r word, and_zero_r (word / 2))

pub ones_masked : (s : EntryMapState) (k word : ℕ) → ones (masked s (entry_mask k) word) ≡ count_in s (word_states k word)
unfolding entry_mask word_states count_in ones
ones_masked s zero word = ap ones (masked_none s word)
ones_masked s (suc k) word =
    let rest = word / 4 in
    let bits = word % 4 in
    let small : bits < 4 = omega arith in
    ap (λ (w : ℕ). ones (masked s (entry_mask k * 4 + 1) w)) (lowest word)
    ∙ ap ones (masked_step s (entry_mask k) rest bits small)
    ∙ ones_cat 2 (masked s (entry_mask k) rest) (pair s bits) (pair_lt s bits small)
    ∙ ap₂ (λ (x y : ℕ). x + y) (ones_masked s k rest) (one_entry s bits small)
    ∙ add_comm (count_in s (word_states k rest)) (cond (same_state s (state_of_bits bits)) 1 0)

pub masked_small : (s : EntryMapState) (mask word : ℕ) → mask < 2 ^ 64 → ones (masked s mask word) ≤ 64
masked_small s mask word h = ones-le 64 (masked s mask word) (rw (masked_sides s mask word) (and_lt 64 _ _ (side_small (upper s) (and_le_r (word / 2) mask)) (side_small (lower s) (and_le_r word mask))))
  where
    side_small : (kept : Bool) {bits : ℕ} → bits ≤ mask → side kept mask bits < 2 ^ 64
    side_small true l = lt_of_le_of_lt l h
    side_small false {bits} l = xor_lt 64 bits mask (lt_of_le_of_lt l h) h

-- no word has more than 64 entries in a state
pub word_counts_small : (mask word : ℕ) → mask < 2 ^ 64
    → ((word_statistics mask word).empty ≤ 64) × ((word_statistics mask word).written ≤ 64) × ((word_statistics mask word).erased ≤ 64)
    × ((word_statistics mask word).illegal ≤ 64)
unfolding word_statistics
word_counts_small mask word h = (masked_small Empty mask word h, masked_small Written mask word h, masked_small Erased mask word h, masked_small Illegal mask word h)

-- ---- the bytes of a word

-- the number of bytes in two parts, the first of four
pub number_append : (xs ys : List ℕ) → length xs ≡ 4 → number (xs ++ ys) ≡ number xs + 0x1_0000_0000 * number ys
number_append (a ∷ b ∷ c ∷ d ∷ []) ys h = omega arith
number_append [] ys h = absurd (omega arith)
number_append (a ∷ []) ys h = absurd (omega arith)
number_append (a ∷ b ∷ []) ys h = absurd (omega arith)
number_append (a ∷ b ∷ c ∷ []) ys h = absurd (omega arith)
number_append (a ∷ b ∷ c ∷ d ∷ e ∷ xs) ys h = absurd (omega arith)

-- the four entries of each byte
pub word_bytes : {bytes : List ℕ} → Bytes bytes → word_states (4 * length bytes) (number bytes) ≡ unpack bytes
unfolding word_states
word_bytes bytes_nil = refl
word_bytes (bytes_cons {byte} {bytes} h b) =
    let n = number bytes in
    let q1 : (byte + 256 * n) / 4 ≡ byte / 4 + 64 * n = omega arith in
    let q2 : (byte / 4 + 64 * n) / 4 ≡ byte / 16 + 16 * n = omega arith in
    let q3 : (byte / 16 + 16 * n) / 4 ≡ byte / 64 + 4 * n = omega arith in
    let q4 : (byte / 64 + 4 * n) / 4 ≡ n = omega arith in
    let e0 : (byte + 256 * n) % 4 ≡ byte % 4 = omega arith in
    let e1 : (byte / 4 + 64 * n) % 4 ≡ byte / 4 % 4 = omega arith in
    let e2 : (byte / 16 + 16 * n) % 4 ≡ byte / 16 % 4 = omega arith in
    let e3 : (byte / 64 + 4 * n) % 4 ≡ byte / 64 % 4 = omega arith in
    rw (four_suc (length bytes), q1, q2, q3, q4, e0, e1, e2, e3)
    (ap
    (λ (states : List EntryMapState). state_of_bits (byte % 4) ∷ state_of_bits (byte / 4 % 4) ∷ state_of_bits (byte / 16 % 4) ∷ state_of_bits (byte / 64 % 4) ∷ states)
    (word_bytes b))

-- ---- the words of a map

first_126 : (a b c d : ℕ) → take 126 (word_states 32 a ++ (word_states 32 b ++ (word_states 32 c ++ word_states 32 d)))
    ≡ word_states 32 a ++ (word_states 32 b ++ (word_states 32 c ++ word_states 30 d))
unfolding word_states
first_126 a b c d = refl

-- the eight bytes of each, in four words
module _ (map : List ℕ) (long : length map ≡ 32) (a b c d : ℕ) (ea : word_states 32 a ≡ unpack (field 0 8 map)) (eb : word_states 32 b ≡ unpack (field 8 8 map))
    (ec : word_states 32 c ≡ unpack (field 16 8 map)) (ed : word_states 32 d ≡ unpack (field 24 8 map)) where
  map_parts : map ≡ field 0 8 map ++ (field 8 8 map ++ (field 16 8 map ++ field 24 8 map))
  map_parts =
      sym
      (rw (
        take_all 8 (drop 24 map) (rw (length-drop, long) (omega arith)),
        ← drop-drop 8 16 map,
        take-append-drop 8 (drop 16 map),
        ← drop-drop 8 8 map,
        take-append-drop 8 (drop 8 map),
        take-append-drop 8 map,
      ))

  -- all but the two states that belong to no entry
  states_words : states_of map ≡ word_states 32 a ++ (word_states 32 b ++ (word_states 32 c ++ word_states 30 d))
  states_words =
      ap (λ (bytes : List ℕ). take 126 (unpack bytes)) map_parts
      ∙ ap (take 126)
      (unpack_append (field 0 8 map) _ ∙ ap₂ joined (sym ea)
      (unpack_append (field 8 8 map) _ ∙ ap₂ joined (sym eb) (unpack_append (field 16 8 map) (field 24 8 map) ∙ ap₂ joined (sym ec) (sym ed))))
      ∙ first_126 a b c d
    where
      joined : List EntryMapState → List EntryMapState → List EntryMapState
      joined xs ys = xs ++ ys

  -- how many of the page's entries are in a state: the last word has 30
  pub count_words : (s : EntryMapState)
      → count_in s (states_of map)
      ≡ ones (masked s (entry_mask 32) a) + ones (masked s (entry_mask 32) b) + ones (masked s (entry_mask 32) c) + ones (masked s (entry_mask 30) d)
  count_words s =
      let sums : count_in s (states_of map) ≡ count_in s (word_states 32 a) + (count_in s (word_states 32 b) + (count_in s (word_states 32 c) + count_in s (word_states 30 d))) =
      ap (count_in s) states_words ∙ count_in-append s (word_states 32 a) _
      ∙ ap (λ (n : ℕ). count_in s (word_states 32 a) + n)
      (count_in-append s (word_states 32 b) _ ∙ ap (λ (n : ℕ). count_in s (word_states 32 b) + n) (count_in-append s (word_states 32 c) (word_states 30 d))) in
      omega (arith, sums, ones_masked s 32 a, ones_masked s 32 b, ones_masked s 32 c, ones_masked s 30 d)

  -- the counts of the page are those of its four words, put together
  pub statistics_words : statistics map
      ≡ counts_sum (counts_sum (counts_sum (word_statistics (entry_mask 32) a) (word_statistics (entry_mask 32) b)) (word_statistics (entry_mask 32) c))
      (word_statistics (entry_mask 30) d)
  unfolding statistics word_statistics
  statistics_words = rw (count_words Empty, count_words Written, count_words Erased, count_words Illegal)

-- ---- the mask of a state at a pair

-- what a state clears of a pair stays within the byte
pub shifted : (m k : ℕ) → m ≤ 3 → k < 4 → m * 2 ^ (2 * k) % 256 ≡ m * 4 ^ k
shifted m zero h l = omega arith
shifted m (suc zero) h l = omega arith
shifted m (suc (suc zero)) h l = omega arith
shifted m (suc (suc (suc zero))) h l = omega arith
shifted m (suc (suc (suc (suc k)))) h l = absurd (omega arith)
