-- The page header (01, 'The sector'): states and their words, its CRC, and the bytes of a new one.
use Rattle.std.specs.Prelude.{◌≡◌, refl, Bool, true, false, cond, List, [], ◌∷◌, ◌++◌, ℕ, eqb, replicate}
use Rattle.crc.specs.Crc.{crc32}
use Rattle.sector.specs.declared.PageState.{PageState}
use Rattle.sector.specs.declared.PageState.TheVariants.{Uninitialized, Active, Full, Freeing, Corrupt, Invalid}
use Rattle.sector.specs.Layout.{little_endian, field}
use Rattle.sector.specs.Item.{crc_start}

abbrev pub word_of : PageState → ℕ
word_of Uninitialized = 0xFFFFFFFF
word_of Active = 0xFFFFFFFE
word_of Full = 0xFFFFFFFC
word_of Freeing = 0xFFFFFFF8
word_of Corrupt = 0xFFFFFFF0
word_of Invalid = 0

-- the first of some states that has this word; Corrupt where none has
abbrev pub state_among : List PageState → ℕ → PageState
state_among [] word = Corrupt
state_among (s ∷ states) word = cond (eqb word (word_of s)) s (state_among states word)

-- any other word reads as Corrupt
unfoldable pub state_of_word : ℕ → PageState
state_of_word word = state_among (Uninitialized ∷ Active ∷ Full ∷ Freeing ∷ Invalid ∷ []) word

-- no two states share their word
pub state_word_lem : (s : PageState) → state_of_word (word_of s) ≡ s
unfolding state_of_word
state_word_lem Uninitialized = refl
state_word_lem Active = refl
state_word_lem Full = refl
state_word_lem Freeing = refl
state_word_lem Corrupt = refl
state_word_lem Invalid = refl

abbrev pub is_uninitialized : PageState → Bool
is_uninitialized Uninitialized = true
is_uninitialized Active = false
is_uninitialized Full = false
is_uninitialized Freeing = false
is_uninitialized Corrupt = false
is_uninitialized Invalid = false

abbrev pub is_active : PageState → Bool
is_active Uninitialized = false
is_active Active = true
is_active Full = false
is_active Freeing = false
is_active Corrupt = false
is_active Invalid = false

-- Active, Full or Freeing: such a page opens, and erase takes it
abbrev pub is_in_use : PageState → Bool
is_in_use Uninitialized = false
is_in_use Active = true
is_in_use Full = true
is_in_use Freeing = true
is_in_use Corrupt = false
is_in_use Invalid = false

-- over bytes 4..28
unfoldable pub header_crc : List ℕ → ℕ
header_crc header = crc32 crc_start (field 4 24 header)

-- what a new header's CRC covers: sequence, version 0xFE, 19 bytes 0xFF
abbrev pub header_body : ℕ → List ℕ
header_body sequence = little_endian 4 sequence ++ (0xFE ∷ replicate 19 0xFF)

-- the 32 bytes of a new header: Active, its body, the body's CRC
unfoldable pub header_bytes : ℕ → List ℕ
header_bytes sequence =
    little_endian 4 (word_of Active) ++ (header_body sequence ++ little_endian 4 (crc32 crc_start (header_body sequence)))

-- the state word's bytes
abbrev pub state_bytes : PageState → List ℕ
state_bytes s = little_endian 4 (word_of s)
