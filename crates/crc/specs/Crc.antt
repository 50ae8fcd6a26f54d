-- CRC-32 (01, 'The sector'): the register starts as NOT start, the polynomial is 0xEDB88320 reflected, the answer is NOT register.
--
-- In order: one bit, several bits, one byte, all bytes, the CRC. The tables of the code are not here: they are values of `shifts`.
use Rattle.std.specs.Prelude.{List, [], ◌∷◌, ℕ, zero, suc, ◌-◌, ◌/◌, ◌%◌, ◌^◌}
use Rattle.std.specs.Int.Bits.{bit_xor}

-- what a bit that falls out of the register xors in: nothing for 0, the polynomial for 1
abbrev pub feedback : ℕ → ℕ
feedback zero = 0
feedback (suc n) = 0xEDB88320

-- one bit falls out at the low end
unfoldable pub shift : ℕ → ℕ
shift register = bit_xor (register / 2) (feedback (register % 2))

-- n bits fall out
unfoldable pub shifts : ℕ → ℕ → ℕ
shifts zero register = register
shifts (suc n) register = shifts n (shift register)

-- a byte is xored into the low end, and its eight bits fall out
unfoldable pub intake : ℕ → ℕ → ℕ
intake register byte = shifts 8 (bit_xor register byte)

-- the register after all bytes; after none it is as it was
unfoldable pub register : ℕ → List ℕ → ℕ
register r [] = r
register r (byte ∷ bytes) = register (intake r byte) bytes

-- NOT, of 32 bits
abbrev pub not32 : ℕ → ℕ
not32 x = 2 ^ 32 - 1 - x

unfoldable pub crc32 : ℕ → List ℕ → ℕ
crc32 start bytes = not32 (register (not32 start) bytes)
