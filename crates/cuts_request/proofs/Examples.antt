-- Words at both sides of an edge, by their definitions.
use Rattle.std.proofs.Common.{◌≡◌, refl, true, false, [], ◌∷◌, replicate, Some, None, codes}
use Rattle.cuts_request.specs.Words.{digits_from, number_in, is_key, type_of, value_bytes}

number_255 : number_in 0xFF (codes "255") ≡ Some 255
unfolding digits_from
number_255 = refl

number_256 : number_in 0xFF (codes "256") ≡ None
unfolding digits_from
number_256 = refl

number_empty : number_in 0xFF [] ≡ None
number_empty = refl

number_0x42 : number_in 0xFF (codes "0x42") ≡ Some 0x42
unfolding digits_from
number_0x42 = refl

number_0x : number_in 0xFF (codes "0x") ≡ None
number_0x = refl

type_blob_data : type_of (codes "BlobData") ≡ Some 0x42
unfolding digits_from
type_blob_data = refl

-- 15 bytes, 16 bytes
key_15 : is_key (replicate 15 0x6B) ≡ true
key_15 = refl

key_16 : is_key (replicate 16 0x6B) ≡ false
key_16 = refl

-- 0x0102 in two bytes
value_two_bytes : value_bytes 2 0x0102 ≡ 0x02 ∷ 0x01 ∷ replicate 6 0xFF
value_two_bytes = refl
