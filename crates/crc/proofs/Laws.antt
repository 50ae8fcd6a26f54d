-- Laws of the CRC: exclusive or, shifts, a digit of the register, a byte taken in, all bytes, the CRC.
--
-- The table rests on `shifts_digit`, over the width of a digit, and a word on `register_number`, over the number of bytes. The nibbles that are looked up are in `Nibbles`.
use Rattle.std.proofs.Common.{◌≡◌, refl, sym, ap, ap₂, ◌∙◌, List, [], ◌∷◌, ◌++◌, ℕ, zero, suc, ◌+◌, ◌*◌, ◌/◌, ◌%◌, ◌^◌, ◌<◌, arith, suc-add, zero-add, length, get_or, take, drop, take-append-drop}
use Rattle.std.proofs.Math.Nat.{mod-lt, zero-mul}
use Rattle.std.proofs.Math.Dec.{lit<}
use Rattle.std.proofs.Math.Pow.{split, pow_pos, ones_sub-lt}
use Rattle.std.proofs.Math.Seq.{drop-cons, drop-drop, drop-length}
use Rattle.std.specs.Int.{from_le_bytes, w32}
use Rattle.std.specs.Int.Bits.{bit_xor, xor_shr, xor_mod, xor_comm, xor_assoc, xor_zero_r, xor_lt, xor_shifted, shifted_half, shifted_even}
use Rattle.std.specs.List.{fold}
use Rattle.std.specs.Simd.{first_chunks}
use Rattle.std.specs.Simd.Lanes.{number_l}
use Rattle.crc.specs.Crc.{feedback, shift, shifts, intake, register, not32, crc32}

-- ---- exclusive or

pub xor_swap : (a b c d : ℕ) → bit_xor (bit_xor a b) (bit_xor c d) ≡ bit_xor (bit_xor a c) (bit_xor b d)
xor_swap a b c d =
    xor_assoc a b (bit_xor c d)
    ∙ ap (bit_xor a) (sym (xor_assoc b c d) ∙ ap (λ (x : ℕ). bit_xor x d) (xor_comm b c) ∙ xor_assoc c b d)
    ∙ sym (xor_assoc a c (bit_xor b d))

-- ---- shifts

feedback_xor : (x y : ℕ) → x < 2 → y < 2 → feedback (bit_xor x y) ≡ bit_xor (feedback x) (feedback y)
feedback_xor zero y p q = refl
feedback_xor (suc zero) zero p q = refl
feedback_xor (suc zero) (suc zero) p q = refl
feedback_xor (suc zero) (suc (suc y)) p q = absurd (omega arith)
feedback_xor (suc (suc x)) y p q = absurd (omega arith)

shift_xor : (x y : ℕ) → shift (bit_xor x y) ≡ bit_xor (shift x) (shift y)
unfolding shift
shift_xor x y =
    ap₂ (λ (h l : ℕ). bit_xor h (feedback l)) (xor_shr x y 1) (xor_mod x y 1)
    ∙ ap (bit_xor (bit_xor (x / 2) (y / 2))) (feedback_xor (x % 2) (y % 2) (omega arith) (omega arith))
    ∙ xor_swap (x / 2) (y / 2) (feedback (x % 2)) (feedback (y % 2))

pub shifts_xor : (n x y : ℕ) → shifts n (bit_xor x y) ≡ bit_xor (shifts n x) (shifts n y)
unfolding shifts
shifts_xor zero x y = refl
shifts_xor (suc n) x y = ap (shifts n) (shift_xor x y) ∙ shifts_xor n (shift x) (shift y)

pub shifts_add : (m n x : ℕ) → shifts (m + n) x ≡ shifts n (shifts m x)
unfolding shifts
shifts_add zero n x = ap (λ (k : ℕ). shifts k x) (zero-add n)
shifts_add (suc m) n x = ap (λ (k : ℕ). shifts k x) (suc-add m n) ∙ shifts_add m n (shift x)

shift_even : (a n : ℕ) → shift (a * 2 ^ suc n) ≡ a * 2 ^ n
unfolding shift
shift_even a n =
    ap₂ (λ (h l : ℕ). bit_xor h (feedback l)) (shifted_half a n) (shifted_even a n) ∙ xor_zero_r (a * 2 ^ n)

-- bits that have not reached the low end only move down
pub shifts_shifted : (n a : ℕ) → shifts n (a * 2 ^ n) ≡ a
unfolding shifts
shifts_shifted zero a = omega arith
shifts_shifted (suc n) a = ap (shifts n) (shift_even a n) ∙ shifts_shifted n a

shift_lt : (x : ℕ) → x < 2 ^ 32 → shift x < 2 ^ 32
unfolding shift
shift_lt x h = xor_lt 32 (x / 2) (feedback (x % 2)) (omega arith) (feedback_lt (x % 2))
  where
    feedback_lt : (n : ℕ) → feedback n < 2 ^ 32
    feedback_lt zero = lit< tt
    feedback_lt (suc n) = lit< tt

pub shifts_lt : (n x : ℕ) → x < 2 ^ 32 → shifts n x < 2 ^ 32
unfolding shifts
shifts_lt zero x h = h
shifts_lt (suc n) x h = shifts_lt n (shift x) (shift_lt x h)

-- ---- a digit

-- the shifts of a number are those of its low digit of w bits, and of the rest, which has w shifts less to go
pub shifts_digit : (w m x : ℕ) → shifts (w + m) x ≡ bit_xor (shifts m (x / 2 ^ w)) (shifts (w + m) (x % 2 ^ w))
shifts_digit w m x =
    ap (shifts (w + m)) (sym (xor_shifted (x / 2 ^ w) w (x % 2 ^ w) (mod-lt x (pow_pos w)) ∙ split x w))
    ∙ shifts_xor (w + m) (x / 2 ^ w * 2 ^ w) (x % 2 ^ w)
    ∙ ap (λ (y : ℕ). bit_xor y (shifts (w + m) (x % 2 ^ w)))
    (shifts_add w m (x / 2 ^ w * 2 ^ w) ∙ ap (shifts m) (shifts_shifted w (x / 2 ^ w)))

-- ---- a byte

-- a byte taken in before m shifts more is the low byte of the number that is taken in
shifts_intake : (m r byte rest : ℕ) → byte < 256 → shifts m (bit_xor (intake r byte) rest) ≡ shifts (8 + m) (bit_xor r (byte + 256 * rest))
unfolding intake
shifts_intake m r byte rest h =
    let whole : rest * 256 + byte ≡ byte + 256 * rest = omega arith in
    ap (λ (y : ℕ). shifts m (bit_xor (shifts 8 (bit_xor r byte)) y)) (sym (shifts_shifted 8 rest))
    ∙ ap (shifts m) (sym (shifts_xor 8 (bit_xor r byte) (rest * 256)))
    ∙ sym (shifts_add 8 m (bit_xor (bit_xor r byte) (rest * 256)))
    ∙ ap (shifts (8 + m)) (xor_assoc r byte (rest * 256) ∙ ap (bit_xor r) (xor_comm byte (rest * 256) ∙ xor_shifted rest 8 byte h ∙ whole))

intake_lt : (r byte : ℕ) → r < 2 ^ 32 → byte < 256 → intake r byte < 2 ^ 32
unfolding intake
intake_lt r byte p q = shifts_lt 8 (bit_xor r byte) (xor_lt 32 r byte p (omega arith))

-- ---- all bytes

-- bytes taken in one by one are their number, the lowest first, taken in at once
pub register_number : (r : ℕ) (bytes : List ℕ) → ((i : ℕ) → get_or bytes i 0 < 256) → register r bytes ≡ shifts (8 * length bytes) (bit_xor r (number_l 256 bytes))
unfolding register shifts
register_number r [] h = sym (xor_zero_r r)
register_number r (byte ∷ bytes) h =
    register_number (intake r byte) bytes (λ i. h (suc i))
    ∙ shifts_intake (8 * length bytes) r byte (number_l 256 bytes) (h 0)
    ∙ ap (λ (n : ℕ). shifts n (bit_xor r (byte + 256 * number_l 256 bytes))) (eight_more (length bytes))
  where
    eight_more : (n : ℕ) → 8 + 8 * n ≡ 8 * suc n
    eight_more n = omega arith

-- the number of the bytes from a place on is their first byte and the number of the others
number-drop : (bytes : List ℕ) (at : ℕ) → at < length bytes → number_l 256 (drop at bytes) ≡ get_or bytes at 0 + 256 * number_l 256 (drop (suc at) bytes)
number-drop bytes at h = rw (drop-cons bytes at 0 h)

number_none : (bytes : List ℕ) (n : ℕ) → length bytes ≡ n → number_l 256 (drop n bytes) ≡ 0
number_none bytes n h = rw (← h, drop-length bytes)

number_word : (bytes : List ℕ) → length bytes ≡ 4 → number_l 256 bytes ≡ from_le_bytes w32 bytes
number_word bytes h =
    omega (
      arith,
      number-drop bytes 0 (omega arith),
      number-drop bytes 1 (omega arith),
      number-drop bytes 2 (omega arith),
      number-drop bytes 3 (omega arith),
      number_none bytes 4 h,
    )

-- a word is taken in at once
pub register_word : (r : ℕ) (bytes : List ℕ) → ((i : ℕ) → get_or bytes i 0 < 256) → length bytes ≡ 4 → register r bytes ≡ shifts 32 (bit_xor r (from_le_bytes w32 bytes))
register_word r bytes h four =
    register_number r bytes h ∙ ap₂ (λ (n x : ℕ). shifts (8 * n) (bit_xor r x)) four (number_word bytes four)

-- and two words are: the low one has the shifts of the high one to go too
pub register_words : (r low high : ℕ) (bytes : List ℕ) → ((i : ℕ) → get_or bytes i 0 < 256) → length bytes ≡ 8
    → low ≡ from_le_bytes w32 (get_or bytes 0 0 ∷ get_or bytes 1 0 ∷ get_or bytes 2 0 ∷ get_or bytes 3 0 ∷ [])
    → high ≡ from_le_bytes w32 (get_or bytes 4 0 ∷ get_or bytes 5 0 ∷ get_or bytes 6 0 ∷ get_or bytes 7 0 ∷ [])
    → low < 2 ^ 32 → register r bytes ≡ bit_xor (shifts 64 (bit_xor r low)) (shifts 32 high)
register_words r low high bytes h eight p q fits =
    let whole : number_l 256 bytes ≡ high * 2 ^ 32 + low =
    omega (
      arith,
      number-drop bytes 0 (omega arith),
      number-drop bytes 1 (omega arith),
      number-drop bytes 2 (omega arith),
      number-drop bytes 3 (omega arith),
      number-drop bytes 4 (omega arith),
      number-drop bytes 5 (omega arith),
      number-drop bytes 6 (omega arith),
      number-drop bytes 7 (omega arith),
      number_none bytes 8 eight,
    )
    in
    register_number r bytes h
    ∙ ap₂ (λ (n x : ℕ). shifts (8 * n) (bit_xor r x)) eight (whole ∙ sym (xor_shifted high 32 low fits) ∙ xor_comm (high * 2 ^ 32) low)
    ∙ ap (shifts 64) (sym (xor_assoc r low (high * 2 ^ 32)))
    ∙ shifts_xor 64 (bit_xor r low) (high * 2 ^ 32)
    ∙ ap (bit_xor (shifts 64 (bit_xor r low))) (shifts_add 32 32 (high * 2 ^ 32) ∙ ap (shifts 32) (shifts_shifted 32 high))

pub register_append : (r : ℕ) (a b : List ℕ) → register r (a ++ b) ≡ register (register r a) b
unfolding register
register_append r [] b = refl
register_append r (byte ∷ a) b = register_append (intake r byte) a b

-- k chunks of n bytes, and then the rest
pub register_chunks : (n k r : ℕ) (bytes : List ℕ) → register (fold register r (first_chunks n k bytes)) (drop (k * n) bytes) ≡ register r bytes
register_chunks n zero r bytes = rw zero-mul
register_chunks n (suc k) r bytes =
    let more : suc k * n ≡ n + k * n = omega arith in
    rw (more, ← drop-drop (k * n) n bytes)
    (register_chunks n k (register r (take n bytes)) (drop n bytes)
    ∙ sym (register_append r (take n bytes) (drop n bytes))
    ∙ ap (register r) (take-append-drop n bytes))

-- byte by byte
pub fold_intake : (r : ℕ) (bytes : List ℕ) → fold intake r bytes ≡ register r bytes
unfolding register
fold_intake r [] = refl
fold_intake r (byte ∷ bytes) = fold_intake (intake r byte) bytes

pub register_lt : (r : ℕ) (bytes : List ℕ) → r < 2 ^ 32 → ((i : ℕ) → get_or bytes i 0 < 256) → register r bytes < 2 ^ 32
unfolding register
register_lt r [] p h = p
register_lt r (byte ∷ bytes) p h = register_lt (intake r byte) bytes (intake_lt r byte p (h 0)) (λ i. h (suc i))

-- ---- the CRC

not32_lt : (x : ℕ) → not32 x < 2 ^ 32
not32_lt x = ones_sub-lt 32 x

not32_not32 : (x : ℕ) → x < 2 ^ 32 → not32 (not32 x) ≡ x
not32_not32 x h = omega arith

pub crc_lt : (start : ℕ) (bytes : List ℕ) → crc32 start bytes < 2 ^ 32
unfolding crc32
crc_lt start bytes = not32_lt (register (not32 start) bytes)

-- the CRC of bytes that come in two parts: the second goes on from the first
pub crc_append : (start : ℕ) (a b : List ℕ) → ((i : ℕ) → get_or a i 0 < 256) → crc32 (crc32 start a) b ≡ crc32 start (a ++ b)
unfolding crc32
crc_append start a b h =
    ap (λ (r : ℕ). not32 (register r b)) (not32_not32 (register (not32 start) a) (register_lt (not32 start) a (not32_lt start) h))
    ∙ ap not32 (sym (register_append (not32 start) a b))
