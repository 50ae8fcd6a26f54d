-- An item's header entry (01, 'The sector'): its CRC, its hash, and the bytes of a new one.
use Rattle.std.specs.Prelude.{Bool, ◌&&◌, not, List, [], ◌∷◌, ◌++◌, ℕ, ◌%◌, ◌^◌, eqb, take, drop, length}
use Rattle.crc.specs.Crc.{crc32}
use Rattle.flash.specs.Flash.{all_ones}
use Rattle.sector.specs.Layout.{little_endian, stored_crc, key_of, namespace_of, type_byte_of, chunk_of}
use Rattle.sector.specs.Types.{is_known}

-- the value that every CRC of a page starts from
abbrev pub crc_start : ℕ
crc_start = 0xFFFFFFFF

-- over bytes 0..4, key and data
unfoldable pub item_crc : List ℕ → ℕ
item_crc entry = crc32 crc_start (take 4 entry ++ drop 8 entry)

-- the low 24 bits of the CRC of namespace, key, chunk
unfoldable pub hash_of : ℕ → List ℕ → ℕ → ℕ
hash_of namespace key chunk = crc32 crc_start (namespace ∷ key ++ (chunk ∷ [])) % 2 ^ 24

-- the hash of an item's header entry
abbrev pub hash_of_item : List ℕ → ℕ
hash_of_item entry = hash_of (namespace_of entry) (key_of entry) (chunk_of entry)

-- its type byte is one of the thirteen
abbrev pub known_type : List ℕ → Bool
known_type entry = is_known (type_byte_of entry)

-- the CRC of an entry is right, over its bytes as they lie
abbrev pub crc_right : List ℕ → Bool
crc_right entry = eqb (item_crc entry) (stored_crc entry)

-- an entry that loads: not all 0xFF, of a known type, and its CRC is right
unfoldable pub loads : List ℕ → Bool
loads entry = not (all_ones entry) && (known_type entry && crc_right entry)

-- the 32 bytes of a new item: namespace, type, span, chunk, CRC, key, data
unfoldable pub item_bytes : ℕ → ℕ → ℕ → ℕ → List ℕ → List ℕ → List ℕ
item_bytes namespace type span chunk key bytes =
    namespace ∷ type ∷ span ∷ chunk
    ∷ little_endian 4 (crc32 crc_start (namespace ∷ type ∷ span ∷ chunk ∷ key ++ bytes)) ++ (key ++ bytes)

-- the data of Sized, Blob and BlobData: size, 0xFFFF, payload CRC
unfoldable pub sized_data : List ℕ → List ℕ
sized_data payload = little_endian 2 (length payload) ++ (0xFF ∷ 0xFF ∷ little_endian 4 (crc32 crc_start payload))
