-- CRCs that antt computes from the definition: 01's vector, no bytes, and one CRC that goes on from another.
use mathlib.Core.Path.{◌≡◌, refl}
use mathlib.Core.List.{[], ◌∷◌}
use Rattle.crc.specs.Crc.{shift, shifts, intake, register, crc32}

-- start 0 over "123456789" gives 0xCBF43926
digits_from_0 : crc32 0 (0x31 ∷ 0x32 ∷ 0x33 ∷ 0x34 ∷ 0x35 ∷ 0x36 ∷ 0x37 ∷ 0x38 ∷ 0x39 ∷ []) ≡ 0xCBF43926
unfolding shift shifts intake register crc32
digits_from_0 = refl

-- the CRC of no bytes is the start
no_bytes : crc32 0xFFFFFFFF [] ≡ 0xFFFFFFFF
unfolding register crc32
no_bytes = refl

-- "12345", and then "6789" from there
digits_in_two_parts : crc32 (crc32 0 (0x31 ∷ 0x32 ∷ 0x33 ∷ 0x34 ∷ 0x35 ∷ [])) (0x36 ∷ 0x37 ∷ 0x38 ∷ 0x39 ∷ []) ≡ 0xCBF43926
unfolding shift shifts intake register crc32
digits_in_two_parts = refl
