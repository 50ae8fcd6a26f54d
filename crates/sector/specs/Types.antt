-- Item types (01, 'The sector' and 'Type byte').
--
-- In order: the thirteen types and their bytes; what a byte decides; a primitive's width as an answer.
use Rattle.std.specs.Prelude.{◌≡◌, refl, Bool, true, false, cond, List, [], ◌∷◌, ℕ, eqb, Err}
use Rattle.sector.specs.Answers.{Answer, Done}
use Rattle.sector.specs.declared.ItemType.{ItemType}
use Rattle.sector.specs.declared.ItemType.TheVariants.{U8, I8, U16, I16, U32, I32, U64, I64, Sized, Blob, BlobData, BlobIndex, Any}
use Rattle.sector.specs.declared.Kind.{Kind}
use Rattle.sector.specs.declared.Refusal.TheVariants.{ItemTypeMismatch}

abbrev pub byte_of : ItemType → ℕ
byte_of U8 = 0x01
byte_of I8 = 0x11
byte_of U16 = 0x02
byte_of I16 = 0x12
byte_of U32 = 0x04
byte_of I32 = 0x14
byte_of U64 = 0x08
byte_of I64 = 0x18
byte_of Sized = 0x21
byte_of Blob = 0x41
byte_of BlobData = 0x42
byte_of BlobIndex = 0x48
byte_of Any = 0xFF

-- all but Any, in 01's order
abbrev pub known_types : List ItemType
known_types = U8 ∷ I8 ∷ U16 ∷ I16 ∷ U32 ∷ I32 ∷ U64 ∷ I64 ∷ Sized ∷ Blob ∷ BlobData ∷ BlobIndex ∷ []

-- the first of some types that has this byte; Any where none has
abbrev pub type_among : List ItemType → ℕ → ItemType
type_among [] byte = Any
type_among (t ∷ types) byte = cond (eqb byte (byte_of t)) t (type_among types byte)

-- a byte that is none of the thirteen is Any
unfoldable pub item_type : ℕ → ItemType
item_type byte = type_among known_types byte

-- no two types share their byte
pub type_byte_lem : (t : ItemType) → item_type (byte_of t) ≡ t
unfolding item_type
type_byte_lem U8 = refl
type_byte_lem I8 = refl
type_byte_lem U16 = refl
type_byte_lem I16 = refl
type_byte_lem U32 = refl
type_byte_lem I32 = refl
type_byte_lem U64 = refl
type_byte_lem I64 = refl
type_byte_lem Sized = refl
type_byte_lem Blob = refl
type_byte_lem BlobData = refl
type_byte_lem BlobIndex = refl
type_byte_lem Any = refl

-- a byte that is none of the thirteen becomes 0xFF
abbrev pub type_byte : ℕ → ℕ
type_byte byte = byte_of (item_type byte)

-- one of the thirteen: `type_byte` leaves it as it is
abbrev pub is_known : ℕ → Bool
is_known byte = eqb (type_byte byte) byte

-- a primitive's width; 0 of other types
abbrev pub width_of : ItemType → ℕ
width_of U8 = 1
width_of I8 = 1
width_of U16 = 2
width_of I16 = 2
width_of U32 = 4
width_of I32 = 4
width_of U64 = 8
width_of I64 = 8
width_of Sized = 0
width_of Blob = 0
width_of BlobData = 0
width_of BlobIndex = 0
width_of Any = 0

-- a payload lies after the header
abbrev pub has_payload : ItemType → Bool
has_payload U8 = false
has_payload I8 = false
has_payload U16 = false
has_payload I16 = false
has_payload U32 = false
has_payload I32 = false
has_payload U64 = false
has_payload I64 = false
has_payload Sized = true
has_payload Blob = true
has_payload BlobData = true
has_payload BlobIndex = false
has_payload Any = false

-- all that a type byte decides
unfoldable pub kind_of : ℕ → Kind
kind_of byte = record { named = item_type byte; width = width_of (item_type byte); payload = has_payload (item_type byte) }

-- what `get_primitive_bytes_width` answers; the width is 0 where that is not Done
pub record WidthAnswer : Type 0 where
  pub answer : Answer
  pub width : ℕ

-- types other than the primitives are ItemTypeMismatch, with the byte as loaded
unfoldable pub primitive_width : ℕ → WidthAnswer
primitive_width byte =
    cond (eqb (width_of (item_type byte)) 0)
    (record { answer = Err (ItemTypeMismatch (type_byte byte)); width = 0 })
    (record { answer = Done; width = width_of (item_type byte) })
