-- The nibble that the code looks up.
--
-- In order: a single bit after its shifts; numbers from the values of their bits; the nibbles after their shifts.
-- No public contract of another crate cites this file: `nibble_shifts` (crc/Nibbles) ties a nibble to `shifts`.
use Rattle.std.specs.Prelude.{List, [], ◌∷◌, ◌++◌, map, ℕ, ◌-◌, get_or}
use Rattle.std.specs.Int.Bits.{bit_xor}

-- a 1 at the low end, after 0, 1, .., 64 shifts
abbrev pub ones : List ℕ
ones =
    0x00000001 ∷ 0xEDB88320 ∷ 0x76DC4190 ∷ 0x3B6E20C8 ∷ 0x1DB71064 ∷ 0x0EDB8832 ∷ 0x076DC419 ∷ 0xEE0E612C
    ∷ 0x77073096 ∷ 0x3B83984B ∷ 0xF0794F05 ∷ 0x958424A2 ∷ 0x4AC21251 ∷ 0xC8D98A08 ∷ 0x646CC504 ∷ 0x32366282
    ∷ 0x191B3141 ∷ 0xE1351B80 ∷ 0x709A8DC0 ∷ 0x384D46E0 ∷ 0x1C26A370 ∷ 0x0E1351B8 ∷ 0x0709A8DC ∷ 0x0384D46E
    ∷ 0x01C26A37 ∷ 0xED59B63B ∷ 0x9B14583D ∷ 0xA032AF3E ∷ 0x5019579F ∷ 0xC5B428EF ∷ 0x8F629757 ∷ 0xAA09C88B
    ∷ 0xB8BC6765 ∷ 0xB1E6B092 ∷ 0x58F35849 ∷ 0xC1C12F04 ∷ 0x60E09782 ∷ 0x30704BC1 ∷ 0xF580A6C0 ∷ 0x7AC05360
    ∷ 0x3D6029B0 ∷ 0x1EB014D8 ∷ 0x0F580A6C ∷ 0x07AC0536 ∷ 0x03D6029B ∷ 0xEC53826D ∷ 0x9B914216 ∷ 0x4DC8A10B
    ∷ 0xCB5CD3A5 ∷ 0x8816EAF2 ∷ 0x440B7579 ∷ 0xCFBD399C ∷ 0x67DE9CCE ∷ 0x33EF4E67 ∷ 0xF44F2413 ∷ 0x979F1129
    ∷ 0xA6770BB4 ∷ 0x533B85DA ∷ 0x299DC2ED ∷ 0xF9766256 ∷ 0x7CBB312B ∷ 0xD3E51BB5 ∷ 0x844A0EFA ∷ 0x4225077D
    ∷ 0xCCAA009E ∷ []

-- what each number of some bits adds up to, in the order of the numbers; the values of the bits come highest first
abbrev pub spread : List ℕ → List ℕ
spread [] = 0 ∷ []
spread (top ∷ bits) = spread bits ++ map (λ (sum : ℕ). bit_xor sum top) (spread bits)

-- each nibble after n shifts, of which its bit j needs j to reach the low end
abbrev pub nibbles : ℕ → List ℕ
nibbles n = spread (get_or ones (n - 3) 0 ∷ get_or ones (n - 2) 0 ∷ get_or ones (n - 1) 0 ∷ get_or ones n 0 ∷ [])

-- a nibble after n shifts
abbrev pub nibble : (n value : ℕ) → ℕ
nibble n value = get_or (nibbles n) value 0
