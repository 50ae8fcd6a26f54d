-- A record and its 675 bytes give each other back, and bytes that hold no state are no record that is fit to use.
--
-- In order: what the fields of a record have room for; the record, and the bytes, that come back; bytes without a state.
-- Each statement is a type; proofs/ has a proof of each.
use Rattle.std.specs.Prelude.{◌≡◌, true, false, List, ℕ, ◌^◌, ◌<◌, length, get_or}
use Rattle.page.specs.Record.{Page, no_item, fit_to_use}
use Rattle.sector.specs.Layout.{entries_per_page}
use Rattle.boundary_encoding.specs.Encoding.{is_state, record_size, record_bytes, record_of}

-- what the fields of a record in memory have room for
pub record Holds (page : Page) : Type 0 where
  pub sequence : page.sequence < 2 ^ 32
  pub crc : page.crc < 2 ^ 32
  pub map : length page.map ≡ 32
  pub list : length page.list ≡ entries_per_page
  pub hashes : (i : ℕ) → (get_or page.list i no_item).hash < 2 ^ 32

-- a record comes back from its bytes
abbrev pub RecordComesBack : Type 0
RecordComesBack = (page : Page) → Holds page → record_of (record_bytes page) ≡ page

-- 675 bytes, of which the first is a state, come back from the record that they hold
abbrev pub BytesComeBack : Type 0
BytesComeBack =
    (bytes : List ℕ) → length bytes ≡ record_size → ((i : ℕ) → get_or bytes i 0 < 256) → is_state (get_or bytes 0 0) ≡ true
    → record_bytes (record_of bytes) ≡ bytes

-- a byte that is no state makes a record that is not fit to use, whatever the other bytes are
abbrev pub NoStateIsUnfit : Type 0
NoStateIsUnfit = (bytes : List ℕ) → is_state (get_or bytes 0 0) ≡ false → fit_to_use (record_of bytes) ≡ false
