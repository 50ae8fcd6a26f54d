-- What the appends write is whole: no rule of the reading refuses it by its bytes.
--
-- In order: types with a byte of their own; the fields of a new item's bytes; a single entry; a payload.
use mathlib.Core.Path.{◌≡◌, refl, sym, ap, ◌∙◌}
use mathlib.Core.Bool.{Bool, true, false, not, cond, and-false}
use mathlib.Core.List.{List, [], ◌∷◌, ◌++◌}
use mathlib.Core.Logic.{◌⊎◌, inl, inr}
use Rattle.std.specs.Prelude.{None}
use Prim.Native.Nat.{ℕ, ◌-◌, ◌*◌, ◌^◌, ◌≤◌, ◌<◌}
use native.Mathlib.Omega.{arith}
use lib.Dec.{eqb}
use lib.ListN.{length, take, drop, replicate, length-append}
use lib.Seq.{take_at, drop_at, drop-drop, take-take}
use borrow.Author.Tests.{eqb-true, eq-eqb, ne_eqb, le-ltb}
use Rattle.crc.specs.Crc.{crc32}
use Rattle.crc.proofs.Laws.{crc_lt}
use Rattle.flash.specs.Flash.{all_ones, is_ones}
use Rattle.sector.specs.declared.ItemType.{ItemType}
use Rattle.sector.specs.declared.ItemType.TheVariants.{U8, I8, U16, I16, U32, I32, U64, I64, Sized, Blob, BlobData, BlobIndex, Any}
use Rattle.sector.specs.Item.{crc_start, item_crc, known_type, crc_right, item_bytes, sized_data}
use Rattle.sector.specs.Layout.{number, size_of, stored_payload_crc}
use Rattle.sector.specs.Types.{byte_of, known_types, type_among, item_type, type_byte, has_payload}
use Rattle.sector.proofs.Laws.{number-little_endian, length_chunks}
use Rattle.call_append.specs.declared.Single.{Single}
use Rattle.call_append.specs.declared.Variable.{Variable}
use Rattle.call_append.specs.Append.{is_single, single_bytes, span_for, variable_header}
use Rattle.opening_reading.specs.Reading.{is_payload, covered, span_off_page, wrong_span, header_refusal, joined, payload_refusal}
use Rattle.opening_reading.proofs.Verdicts.{Entries, Whole}
use Rattle.theorem_power_cut.specs.History.{VariableRequest, payload_entries}
use Rattle.opening_reading.proofs.Entries.{joined_chunks}

-- ---- types with a byte of their own

type_of_byte : (types : List ItemType) (byte : ℕ) → (type_among types byte ≡ Any) ⊎ (byte_of (type_among types byte) ≡ byte)
type_of_byte [] byte = inl refl
type_of_byte (t ∷ types) byte = by_test (type_of_byte types byte) (eqb byte (byte_of t)) refl
  where
    by_test : (type_among types byte ≡ Any) ⊎ (byte_of (type_among types byte) ≡ byte) → (same : Bool) → eqb byte (byte_of t) ≡ same
        → (cond same t (type_among types byte) ≡ Any) ⊎ (byte_of (cond same t (type_among types byte)) ≡ byte)
    by_test others true e = inr (sym (eqb-true byte (byte_of t) e))
    by_test others false e = others

-- a byte whose type passes a test that Any does not pass is that type's own
known_byte : (test : ItemType → Bool) → test Any ≡ false → (kind : ℕ) → test (item_type kind) ≡ true → type_byte kind ≡ kind
unfolding item_type
known_byte test any kind h = by_case (type_of_byte known_types kind)
  where
    by_case : (item_type kind ≡ Any) ⊎ (type_byte kind ≡ kind) → type_byte kind ≡ kind
    by_case (inl e) = let wrong : false ≡ true = sym any ∙ ap test (sym e) ∙ h in cc
    by_case (inr e) = e

known_not_any : (test : ItemType → Bool) → test Any ≡ false → (kind : ℕ) → test (item_type kind) ≡ true → kind ≡ 0xFF → ⊥
unfolding item_type
known_not_any test any kind h e =
    let wrong : false ≡ true = sym any ∙ ap (λ (k : ℕ). test (item_type k)) (sym e) ∙ h in
    let z : ◌≡◌ {A = ℕ} 0 1 = cc in
    omega arith

single_no_payload : (t : ItemType) → is_single t ≡ true → has_payload t ≡ false
single_no_payload U8 h = refl
single_no_payload I8 h = refl
single_no_payload U16 h = refl
single_no_payload I16 h = refl
single_no_payload U32 h = refl
single_no_payload I32 h = refl
single_no_payload U64 h = refl
single_no_payload I64 h = refl
single_no_payload Sized h = cc
single_no_payload Blob h = cc
single_no_payload BlobData h = cc
single_no_payload BlobIndex h = refl
single_no_payload Any h = refl

-- ---- the fields of a new item's bytes

module _ (namespace kind span chunk : ℕ) (key bytes : List ℕ) where
  -- its type byte is the one asked for
  new_known : type_byte kind ≡ kind → known_type (item_bytes namespace kind span chunk key bytes) ≡ true
  unfolding item_bytes
  new_known e = eq-eqb (type_byte kind) kind e

  -- its CRC is the one that it stores
  new_crc : crc_right (item_bytes namespace kind span chunk key bytes) ≡ true
  unfolding item_bytes item_crc
  new_crc =
      let covered = namespace ∷ kind ∷ span ∷ chunk ∷ key ++ bytes in
      eq-eqb _ _ (sym (number-little_endian 4 (crc32 crc_start covered) (crc_lt crc_start covered)))

  -- it is not all 0xFF, since its type byte is not
  new_not_blank : (kind ≡ 0xFF → ⊥) → all_ones (item_bytes namespace kind span chunk key bytes) ≡ false
  unfolding item_bytes all_ones
  new_not_blank e = rw (ne_eqb kind 0xFF e) (and-false (is_ones namespace))

-- a header that passes each rule
header_stands : (entry : List ℕ) (left : ℕ) → all_ones entry ≡ false → known_type entry ≡ true → crc_right entry ≡ true
    → span_off_page entry left ≡ false → wrong_span entry ≡ false → header_refusal entry left ≡ None
unfolding header_refusal
header_stands entry left ones known crc off wrong = rw (ones, known, crc, off, wrong)

-- a payload that passes each rule
payload_stands : (entry : List ℕ) (entries : Entries) → is_payload entry ≡ true → size_of entry ≤ 32 * covered entry
    → crc32 crc_start (take (size_of entry) (joined entries)) ≡ stored_payload_crc entry → payload_refusal entry entries ≡ None
unfolding payload_refusal
payload_stands entry entries typed size crc =
    rw (typed, le-ltb (32 * covered entry) (size_of entry) size, eq-eqb (crc32 crc_start (take (size_of entry) (joined entries))) (stored_payload_crc entry) crc)

-- ---- a single entry

-- whatever lies after it
pub single_whole : (request : Single) → is_single (item_type request.kind) ≡ true → (rest : Entries) → Whole (single_bytes request) 0 rest
single_whole request h rest =
    record {
      header =
          header_stands (single_bytes request) (length rest)
          (new_not_blank request.namespace request.kind 1 request.chunk request.key request.bytes (known_not_any is_single refl request.kind h))
          (new_known request.namespace request.kind 1 request.chunk request.key request.bytes (known_byte is_single refl request.kind h))
          (new_crc request.namespace request.kind 1 request.chunk request.key request.bytes)
          (unfold item_bytes in (le-ltb (length rest) 0 (omega arith)))
          (unfold item_bytes in (and-false (not (has_payload (item_type request.kind)))));
      span = unfold item_bytes in refl;
      payload = unfold payload_refusal item_bytes in (rw (single_no_payload (item_type request.kind) h));
    }

-- ---- a payload

module _ (request : Variable) (payload : List ℕ) (asked : VariableRequest request payload) (typed : has_payload (item_type request.kind) ≡ true)
    (fits : span_for (length payload) ≤ 126) where
  abbrev span : ℕ
  span = span_for (length payload)

  small : length payload < 256 ^ 2
  small = omega (arith, fits)

  -- the data field, after the key
  new_data : drop 24 (variable_header request payload) ≡ sized_data payload
  unfolding item_bytes
  new_data = drop_at request.key (sized_data payload) 16 asked.key_size

  pub new_size : size_of (variable_header request payload) ≡ length payload
  unfolding sized_data
  new_size = ap (λ (field : List ℕ). number (take 2 field)) new_data ∙ number-little_endian 2 (length payload) small

  new_payload_crc : stored_payload_crc (variable_header request payload) ≡ crc32 crc_start payload
  unfolding sized_data
  new_payload_crc =
      ap (λ (field : List ℕ). number (take 4 field)) (sym (drop-drop 4 24 (variable_header request payload)) ∙ ap (drop 4) new_data)
      ∙ number-little_endian 4 (crc32 crc_start payload) (crc_lt crc_start payload)

  -- entries after the header
  abbrev pub behind : ℕ
  behind = span_for (length payload) - 1

  room : length payload ≤ 32 * behind
  room = omega arith

  -- the payload is the start of its entries
  pub payload_there : take (length payload) (joined (payload_entries behind payload)) ≡ payload
  payload_there =
      let filled = payload ++ replicate (32 * behind - length payload) 0xFF in
      ap (take (length payload)) (joined_chunks behind filled)
      ∙ take-take (length payload) (32 * behind) filled room
      ∙ take_at payload (replicate (32 * behind - length payload) 0xFF) (length payload) refl

  pub length-payload_entries : length (payload_entries behind payload) ≡ behind
  length-payload_entries = length_chunks behind (payload ++ replicate (32 * behind - length payload) 0xFF)

  header_off : (left : ℕ) → behind ≤ left → span_off_page (variable_header request payload) left ≡ false
  unfolding item_bytes
  header_off left h = rw (ne_eqb (span_for (length payload)) 0 (λ e. omega arith), le-ltb left behind h)

  header_right_span : wrong_span (variable_header request payload) ≡ false
  unfolding item_bytes
  header_right_span = rw typed

  header_covers : covered (variable_header request payload) ≡ behind
  unfolding item_bytes
  header_covers = refl

  pub header_typed : is_payload (variable_header request payload) ≡ true
  unfolding item_bytes
  header_typed = typed

  pub variable_whole : (rest : Entries) → Whole (variable_header request payload) behind (payload_entries behind payload ++ rest)
  variable_whole rest =
      let entries = payload_entries behind payload in
      record {
        header =
            header_stands (variable_header request payload) (length (entries ++ rest))
            (new_not_blank request.namespace request.kind span request.chunk request.key (sized_data payload) (known_not_any has_payload refl request.kind typed))
            (new_known request.namespace request.kind span request.chunk request.key (sized_data payload) (known_byte has_payload refl request.kind typed))
            (new_crc request.namespace request.kind span request.chunk request.key (sized_data payload))
            (header_off (length (entries ++ rest)) (omega (arith, length-append entries rest, length-payload_entries)))
            header_right_span;
        span = header_covers;
        payload =
            rw (take_at entries rest behind length-payload_entries)
            (payload_stands (variable_header request payload) entries header_typed
            (rw (new_size, header_covers) room)
            (rw (new_size, payload_there) (sym new_payload_crc)));
      }
