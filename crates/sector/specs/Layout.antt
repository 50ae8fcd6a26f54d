-- The sector (01, 'The sector'): where each part of an image lies.
--
-- In order: sizes; little-endian numbers; bytes compared; the parts of an image; the fields of an entry.
-- An image is the list of its bytes. Not here: what the fields mean (Header, Map, Types, Item).
use Rattle.std.specs.Prelude.{Bool, false, ◌&&◌, List, [], ◌∷◌, ℕ, zero, suc, ◌+◌, ◌*◌, ◌/◌, ◌%◌, eqb, length, take, drop, get_or}

-- ---- sizes

abbrev pub sector_size : ℕ
sector_size = 4096

abbrev pub entries_per_page : ℕ
entries_per_page = 126

abbrev pub entry_size : ℕ
entry_size = 32

-- the map's first byte
abbrev pub map_offset : ℕ
map_offset = 32

-- entry 0's first byte
abbrev pub items_offset : ℕ
items_offset = 64

-- an entry's first byte
abbrev pub entry_address : ℕ → ℕ
entry_address i = items_offset + entry_size * i

-- ---- little-endian numbers

-- the number that bytes hold, lowest first; 0 of none
abbrev pub number : List ℕ → ℕ
number [] = 0
number (byte ∷ bytes) = byte + 256 * number bytes

-- a number's lowest n bytes, lowest first
abbrev pub little_endian : ℕ → ℕ → List ℕ
little_endian zero x = []
little_endian (suc n) x = x % 256 ∷ little_endian n (x / 256)

-- size bytes from an offset on
abbrev pub field : ℕ → ℕ → List ℕ → List ℕ
field offset size bytes = take size (drop offset bytes)

-- ---- bytes compared

-- as many, and the same
abbrev pub same_bytes : List ℕ → List ℕ → Bool
same_bytes [] ys = eqb (length ys) 0
same_bytes (x ∷ xs) [] = false
same_bytes (x ∷ xs) (y ∷ ys) = eqb x y && same_bytes xs ys

-- ---- the parts of an image

abbrev pub state_word : List ℕ → ℕ
state_word image = number (field 0 4 image)

abbrev pub sequence_of : List ℕ → ℕ
sequence_of image = number (field 4 4 image)

abbrev pub version_of : List ℕ → ℕ
version_of image = get_or image 8 0

abbrev pub stored_header_crc : List ℕ → ℕ
stored_header_crc image = number (field 28 4 image)

abbrev pub map_of : List ℕ → List ℕ
map_of image = field map_offset 32 image

-- the 32 bytes of an entry
abbrev pub entry_at : List ℕ → ℕ → List ℕ
entry_at image i = field (entry_address i) entry_size image

-- the first n entries of the bytes after the map
unfoldable pub chunks : ℕ → List ℕ → List (List ℕ)
chunks zero bytes = []
chunks (suc n) bytes = take entry_size bytes ∷ chunks n (drop entry_size bytes)

-- all 126 entries
abbrev pub entries_of : List ℕ → List (List ℕ)
entries_of image = chunks entries_per_page (drop items_offset image)

-- ---- the fields of an entry

abbrev pub namespace_of : List ℕ → ℕ
namespace_of entry = get_or entry 0 0

abbrev pub type_byte_of : List ℕ → ℕ
type_byte_of entry = get_or entry 1 0

abbrev pub span_of : List ℕ → ℕ
span_of entry = get_or entry 2 0

-- 255 for none
abbrev pub chunk_of : List ℕ → ℕ
chunk_of entry = get_or entry 3 0

abbrev pub stored_crc : List ℕ → ℕ
stored_crc entry = number (field 4 4 entry)

abbrev pub key_of : List ℕ → List ℕ
key_of entry = field 8 16 entry

-- of Sized, Blob and BlobData: the payload's size
abbrev pub size_of : List ℕ → ℕ
size_of entry = number (field 24 2 entry)

-- of Sized, Blob and BlobData: the payload's CRC
abbrev pub stored_payload_crc : List ℕ → ℕ
stored_payload_crc entry = number (field 28 4 entry)
