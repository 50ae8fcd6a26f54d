-- A request in words, as the program `cuts` takes it: a namespace, a type, a key and a value.
--
-- In order: numbers; the key; the type by its number or its name; the value of a single entry; the request, or the first word that is wrong.
-- A word is the list of its bytes. Not here: the files that the program reads.
use Rattle.std.specs.Prelude.{Bool, ◌&&◌, cond, List, [], ◌∷◌, ◌++◌, ℕ, ◌+◌, ◌-◌, ◌*◌, eqb, leb, ltb, length, take, drop, get_or, replicate, Option, Some, None, Result, Ok, Err, unwrap_or, bytes_eq, codes}
use Rattle.std.specs.Option.{option_or}
use Rattle.sector.specs.declared.ItemType.TheVariants.{U8, I8, U16, I16, U32, I32, U64, I64, Sized, Blob, BlobData, BlobIndex, Any}
use Rattle.sector.specs.Layout.{little_endian}
use Rattle.sector.specs.Types.{byte_of, kind_of}
use Rattle.cuts_request.specs.declared.Request.{Request}
use Rattle.cuts_request.specs.declared.Value.{Value}
use Rattle.cuts_request.specs.declared.Value.TheVariants.{Single, Data}
use Rattle.cuts_request.specs.declared.Wrong.{Wrong}
use Rattle.cuts_request.specs.declared.Wrong.TheVariants.{BadNamespace, BadType, BadKey, BadValue}

-- ---- numbers

-- what a digit stands for: 0 to 9, then A to F, or a to f; 16 where the byte is none
abbrev pub digit_of : ℕ → ℕ
digit_of byte =
    cond (ltb byte 0x30) 16
    (cond (ltb byte 0x3A) (byte - 0x30)
    (cond (ltb byte 0x41) 16
    (cond (ltb byte 0x47) (byte - 0x37)
    (cond (ltb byte 0x61) 16
    (cond (ltb byte 0x67) (byte - 0x57) 16)))))

-- the number that digits of a base stand for, after digits that stand for `before`; none where a byte is no digit of
-- the base, or where the number is over `most`
unfoldable pub digits_from : ℕ → ℕ → ℕ → List ℕ → Option ℕ
digits_from base most before [] = Some before
digits_from base most before (byte ∷ text) =
    cond (ltb (digit_of byte) base && leb (before * base + digit_of byte) most)
    (digits_from base most (before * base + digit_of byte) text)
    None

-- at least one digit
abbrev pub digits_of : ℕ → ℕ → List ℕ → Option ℕ
digits_of base most text = cond (eqb (length text) 0) None (digits_from base most 0 text)

-- begins with 0x
abbrev pub is_hex : List ℕ → Bool
is_hex text = ltb 1 (length text) && (eqb (get_or text 0 0) 0x30 && eqb (get_or text 1 0) 0x78)

-- a number from 0 to `most`, in decimal digits, or in hexadecimal ones with a 0x prefix
abbrev pub number_in : ℕ → List ℕ → Option ℕ
number_in most text = cond (is_hex text) (digits_of 16 most (drop 2 text)) (digits_of 10 most text)

-- ---- the key

-- 1 to 15 bytes
abbrev pub is_key : List ℕ → Bool
is_key text = ltb 0 (length text) && ltb (length text) 16

-- the word, and zeros up to 16 bytes; zeros alone where it is no key
abbrev pub key_bytes : List ℕ → List ℕ
key_bytes text = cond (is_key text) (text ++ replicate (16 - length text) 0) (replicate 16 0)

-- ---- the type

-- a name and its type byte
abbrev pub Name : Type 0
Name = List ℕ × ℕ

-- the names of 01: U8, I8, U16, I16, U32, I32, U64, I64, Sized, Blob, BlobData, BlobIndex, Any
abbrev pub type_names : List Name
type_names =
    (codes "U8", byte_of U8)
    ∷ (codes "I8", byte_of I8)
    ∷ (codes "U16", byte_of U16)
    ∷ (codes "I16", byte_of I16)
    ∷ (codes "U32", byte_of U32)
    ∷ (codes "I32", byte_of I32)
    ∷ (codes "U64", byte_of U64)
    ∷ (codes "I64", byte_of I64)
    ∷ (codes "Sized", byte_of Sized)
    ∷ (codes "Blob", byte_of Blob)
    ∷ (codes "BlobData", byte_of BlobData)
    ∷ (codes "BlobIndex", byte_of BlobIndex)
    ∷ (codes "Any", byte_of Any)
    ∷ []

-- the byte of the first name that is the word
abbrev pub named_among : List Name → List ℕ → Option ℕ
named_among [] text = None
named_among (name ∷ names) text = cond (bytes_eq text name.0) (Some name.1) (named_among names text)

-- the type byte: a number from 0 to 255, or a name of 01
abbrev pub type_of : List ℕ → Option ℕ
type_of text = option_or (number_in 0xFF text) (named_among type_names text)

-- ---- the value of a single entry

-- the bytes that a value takes: a primitive's width; of other types 8
abbrev pub value_width : ℕ → ℕ
value_width kind = cond (eqb (kind_of kind).width 0) 8 (kind_of kind).width

-- the largest number of so many bytes
abbrev pub most_of : ℕ → ℕ
most_of width =
    cond (eqb width 1) 0xFF (cond (eqb width 2) 0xFFFF (cond (eqb width 4) 0xFFFFFFFF 0xFFFFFFFFFFFFFFFF))

-- a single's value; of data 0, since its word is a file's name
abbrev pub value_of : ℕ → List ℕ → Option ℕ
value_of kind text = cond (kind_of kind).payload (Some 0) (number_in (most_of (value_width kind)) text)

-- the value's lowest bytes, lowest first, and 0xFF in the rest of the eight
abbrev pub value_bytes : ℕ → ℕ → List ℕ
value_bytes width value = take width (little_endian 8 value) ++ replicate (8 - width) 0xFF

-- ---- the request

-- a single's bytes; of data nothing, since its bytes are a file's
abbrev pub held_value : ℕ → ℕ → Value
held_value kind value = cond (kind_of kind).payload Data (Single (value_bytes (value_width kind) value))

abbrev pub request_from : ℕ → ℕ → List ℕ → ℕ → Request
request_from namespace kind key value =
    record { namespace = namespace; kind = kind; key = key_bytes key; value = held_value kind value }

-- the first word that is wrong, or the request: of what the words were read as, and the key
abbrev pub words_checked : Option ℕ → Option ℕ → List ℕ → Option ℕ → Result Request Wrong
words_checked None kind key value = Err BadNamespace
words_checked (Some namespace) None key value = Err BadType
words_checked (Some namespace) (Some kind) key None = Err (cond (is_key key) BadValue BadKey)
words_checked (Some namespace) (Some kind) key (Some value) =
    cond (is_key key) (Ok (request_from namespace kind key value)) (Err BadKey)

abbrev pub parsed : List ℕ → List ℕ → List ℕ → List ℕ → Result Request Wrong
parsed namespace kind key value =
    words_checked (number_in 0xFF namespace) (type_of kind) key (value_of (unwrap_or (type_of kind) 0) value)
