-- The writes of the calls, as writes on a page that stands: a single entry, a payload after its header, a copy.
--
-- In order: the bytes of new items; one write of whole entries; header and payload; a copy.
use mathlib.Core.Path.{◌≡◌, sym, ap, ap₂, ◌∙◌, subst}
use mathlib.Core.Bool.{true}
use mathlib.Core.List.{List, [], ◌∷◌, ◌++◌, append_assoc, append-nil}
use Prim.Native.Nat.{ℕ, zero, suc, ◌+◌, ◌-◌, ◌*◌, ◌/◌, ◌%◌, ◌≤◌, ◌<◌}
use native.Mathlib.Omega.{arith}
use lib.ListN.{length, take, drop, replicate, length-append, length-replicate, length-drop}
use lib.Seq.{take_all, take_at, drop_at, drop-drop, length-take-le}
use Rattle.flash.specs.Flash.{units, run}
use Rattle.flash.proofs.Laws.{Bytes, bytes_nil, bytes_cons, bytes_append, bytes_ones, bytes_take, bytes_drop, bytes_run, run_append, run-units_erased, within_units, within_wider, within_append}
use Rattle.crc.specs.Crc.{crc32}
use Rattle.sector.specs.Item.{crc_start, item_bytes, sized_data}
use Rattle.sector.specs.Layout.{entry_address, entry_at, chunks, entries_of, span_of, little_endian}
use Rattle.sector.proofs.Laws.{length-entries_of, length_chunks, length-item_bytes, length-sized_data}
use Rattle.sector.specs.Types.{item_type, has_payload}
use Rattle.call_append.specs.declared.Single.{Single}
use Rattle.call_append.specs.declared.Variable.{Variable}
use Rattle.call_append.specs.Append.{is_single, single_bytes, span_for, variable_header}
use Rattle.call_copy.specs.Copy.{copied_bytes}
use Rattle.opening_reading.specs.Reading.{Item}
use Rattle.opening_reading.proofs.Verdicts.{Entries, Whole, whole_span}
use Rattle.theorem_writing.proofs.FitRecords.{bytes_of}
use Rattle.theorem_power_cut.specs.History.{SingleRequest, VariableRequest, KeptIn, payload_entries}
use Rattle.theorem_power_cut.proofs.Standing.{Standing, front_bytes, front_size, regroup, blank_parts}
use Rattle.opening_reading.proofs.Entries.{take_chunks, drop_chunks}
use Rattle.theorem_power_cut.proofs.Chunks.{chunks_take}
use Rattle.theorem_power_cut.proofs.Found.{find}
use Rattle.theorem_power_cut.proofs.NewItem.{single_whole, variable_whole}
use Rattle.theorem_power_cut.proofs.Begun.{Lays}
use Rattle.theorem_reopening.proofs.KeptItem.{WholeAt}

-- ---- bytes

pub bytes_little_endian : (n x : ℕ) → Bytes (little_endian n x)
bytes_little_endian zero x = bytes_nil
bytes_little_endian (suc n) x = let small : x % 256 < 256 = omega arith in bytes_cons small (bytes_little_endian n (x / 256))

bytes_item : (namespace kind span chunk : ℕ) {key bytes : List ℕ} → namespace < 256 → kind < 256 → span < 256 → chunk < 256 → Bytes key → Bytes bytes
    → Bytes (item_bytes namespace kind span chunk key bytes)
unfolding item_bytes
bytes_item namespace kind span chunk n k s c bk bb =
    bytes_cons n (bytes_cons k (bytes_cons s (bytes_cons c (bytes_append (bytes_little_endian 4 _) (bytes_append bk bb)))))

-- ---- one write of whole entries

module _ {image : List ℕ} {items : List Item} (p : Standing image items) where
  -- bytes laid onto the first n blank entries
  lay : (n : ℕ) (bytes : List ℕ) → n ≤ p.spare → Bytes bytes → length bytes ≤ 32 * n
      → run (units (entry_address (length p.front)) bytes) image
      ≡ front_bytes p ++ (bytes ++ (replicate (32 * n - length bytes) 0xFF ++ replicate (32 * (p.spare - n)) 0xFF))
  lay n bytes h b fits =
      let behind : List ℕ = replicate (32 * (p.spare - n)) 0xFF in
      ap₂ (λ (address : ℕ) (before : List ℕ). run (units address bytes) before) (sym (front_size p)) (blank_parts p n h)
      ∙ run-units_erased (32 * n) (front_bytes p) behind (subst Bytes (blank_parts p n h) p.bytes) b fits

  pub lays_whole : (entry : List ℕ) (new : Entries) (laid : List ℕ) → length laid ≡ 32 * suc (length new) → chunks (suc (length new)) laid ≡ entry ∷ new
      → Whole entry (length new) new → suc (length new) ≤ p.spare → Bytes laid
      → Lays p entry new (units (entry_address (length p.front)) laid)
  lays_whole entry new laid size entries whole room b =
      let n = suc (length new) in
      let none : 32 * n - length laid ≡ 0 = omega arith in
      record {
        laid = laid;
        laid_size = size;
        laid_entries = entries;
        whole = whole;
        room = room;
        within = within_wider (entry_address (length p.front)) (entry_address (length p.front + n)) (omega arith) (omega arith) (within_units (entry_address (length p.front)) laid);
        does =
            lay n laid room b (omega arith)
            ∙ ap (λ (gap : ℕ). front_bytes p ++ (laid ++ (replicate {A = ℕ} gap 0xFF ++ replicate (32 * (p.spare - n)) 0xFF))) none
            ∙ regroup p (laid ++ replicate (32 * (p.spare - n)) 0xFF);
      }

  pub lays_single : (request : Single) → SingleRequest request → is_single (item_type request.kind) ≡ true → 1 ≤ p.spare
      → Lays p (single_bytes request) [] (units (entry_address (length p.front)) (single_bytes request))
  lays_single request asked typed room =
      let size = length-item_bytes request.namespace request.kind 1 request.chunk request.key request.bytes asked.key_size asked.bytes_size in
      lays_whole (single_bytes request) [] (single_bytes request) size
      (unfold chunks in (ap (λ (entry : List ℕ). entry ∷ []) (take_all 32 (single_bytes request) (omega arith))))
      (single_whole request typed []) room
      (bytes_item request.namespace request.kind 1 request.chunk asked.namespace asked.kind (omega arith) asked.chunk
      (bytes_of request.key asked.key) (bytes_of request.bytes asked.bytes))

  -- ---- header and payload

  module _ (request : Variable) (payload : List ℕ) (asked : VariableRequest request payload) (typed : has_payload (item_type request.kind) ≡ true)
      (room : span_for (length payload) ≤ p.spare) where
    abbrev k : ℕ
    k = span_for (length payload) - 1

    abbrev start : ℕ
    start = length p.front

    abbrev header : List ℕ
    header = variable_header request payload

    abbrev gap : List ℕ
    gap = replicate (32 * k - length payload) 0xFF

    abbrev behind : List ℕ
    behind = replicate (32 * (p.spare - span_for (length payload))) 0xFF

    fits : span_for (length payload) ≤ 126
    fits = omega (arith, room, p.sum)

    bytes_payload : Bytes payload
    bytes_payload = bytes_of payload asked.bytes

    header_bytes_lem : Bytes header
    unfolding sized_data
    header_bytes_lem =
        bytes_item request.namespace request.kind (span_for (length payload)) request.chunk asked.namespace asked.kind (omega (arith, fits)) asked.chunk
        (bytes_of request.key asked.key)
        (bytes_append (bytes_little_endian 2 (length payload)) (bytes_append (bytes_ones 2) (bytes_little_endian 4 (crc32 crc_start payload))))

    header_size : length header ≡ 32
    header_size = length-item_bytes request.namespace request.kind (span_for (length payload)) request.chunk request.key (sized_data payload) asked.key_size (length-sized_data payload)

    -- the header entry first
    after_header : run (units (entry_address start) header) image ≡ (front_bytes p ++ header) ++ (replicate (32 * k) 0xFF ++ behind)
    after_header =
        let n = span_for (length payload) in
        let left : 32 * n - length header ≡ 32 * k = omega (arith, header_size) in
        lay n header room header_bytes_lem (omega (arith, header_size))
        ∙ ap (λ (m : ℕ). front_bytes p ++ (header ++ (replicate {A = ℕ} m 0xFF ++ behind))) left
        ∙ sym (append_assoc (front_bytes p) header (replicate (32 * k) 0xFF ++ behind))

    abbrev new : Entries
    new = payload_entries k payload

    new_length : length new ≡ k
    new_length = length_chunks k (payload ++ gap)

    abbrev laid : List ℕ
    laid = header ++ (payload ++ gap)

    -- then the payload after it
    after_payload : run (units (entry_address start) header ++ units (entry_address (start + 1)) payload) image ≡ front_bytes p ++ (laid ++ behind)
    after_payload =
        let front = front_bytes p ++ header in
        let front_long : length front ≡ entry_address (start + 1) = omega (arith, length-append (front_bytes p) header, front_size p, header_size) in
        let blank : List ℕ = replicate (32 * k) 0xFF in
        run_append (units (entry_address start) header) (units (entry_address (start + 1)) payload) image
        ∙ ap₂ (λ (address : ℕ) (before : List ℕ). run (units address payload) before) (sym front_long) after_header
        ∙ run-units_erased (32 * k) front behind (subst Bytes after_header (bytes_run (units (entry_address start) header) p.bytes)) bytes_payload (omega arith)
        ∙ append_assoc (front_bytes p) header (payload ++ (gap ++ behind))
        ∙ ap (λ (rest : List ℕ). front_bytes p ++ (header ++ rest)) (sym (append_assoc payload gap behind))
        ∙ ap (λ (rest : List ℕ). front_bytes p ++ rest) (sym (append_assoc header (payload ++ gap) behind))

    laid_is : chunks (suc k) laid ≡ header ∷ new
    unfolding chunks
    laid_is = ap₂ (λ (first rest : List ℕ). first ∷ chunks k rest) (take_at header (payload ++ gap) 32 header_size) (drop_at header (payload ++ gap) 32 header_size)

    whole_new : Whole header (length new) new
    whole_new = subst (λ (n : ℕ). Whole header n new) (sym new_length) (rw (append-nil new) at (variable_whole request payload asked typed fits []))

    pub lays_variable :
        Lays p header (payload_entries k payload) (units (entry_address start) header ++ units (entry_address (start + 1)) payload)
    lays_variable =
        let end = entry_address (start + suc (length new)) in
        record {
          laid = laid;
          laid_size = omega (arith, length-append header (payload ++ gap), length-append payload gap, length-replicate {A = ℕ} (32 * k - length payload) 0xFF, header_size, new_length);
          laid_entries = ap (λ (n : ℕ). chunks (suc n) laid) new_length ∙ laid_is;
          whole = whole_new;
          room = omega (arith, new_length);
          within =
              within_append
              (within_wider (entry_address start) end (omega arith) (omega (arith, header_size)) (within_units (entry_address start) header))
              (within_wider (entry_address start) end (omega arith) (omega (arith, new_length)) (within_units (entry_address (start + 1)) payload));
          does =
              after_payload
              ∙ regroup p (laid ++ behind)
              ∙ ap (λ (n : ℕ). p.header ++ (p.map ++ (p.used ++ (laid ++ replicate {A = ℕ} (32 * (p.spare - n)) 0xFF)))) (omega (arith, new_length));
        }

  -- ---- a copy of an item that the source's reading keeps

  module _ (source : List ℕ) (index : ℕ) (entries : Entries) (kept : KeptIn source index entries) where
    pub place : WholeAt index entries (entries_of source)
    place = find source kept.sector.size kept.kept

    abbrev bytes_there : List ℕ
    bytes_there = drop (entry_address index) source

    abbrev count : ℕ
    count = suc (length place.new)

    group_long : length entries ≡ count
    group_long = ap length place.header_first

    inside : index + count ≤ 126
    inside = omega (arith, place.fits, group_long, length-entries_of source)

    there_is : chunks count bytes_there ≡ place.header ∷ place.new
    there_is =
        let bytes = drop 64 source in
        ap (chunks count) (sym (drop-drop (32 * index) 64 source))
        ∙ sym (take_chunks count (126 - index) (drop (32 * index) bytes) (omega (arith, inside)))
        ∙ ap (take count) (sym (drop_chunks index 126 bytes (omega (arith, inside))))
        ∙ ap (λ (k : ℕ). take k (drop index (chunks 126 bytes))) (sym group_long)
        ∙ place.bytes
        ∙ place.header_first

    pub entry_is : entry_at source index ≡ place.header
    unfolding chunks
    entry_is =
        let e : take 32 bytes_there ∷ chunks (length place.new) (drop 32 bytes_there) ≡ place.header ∷ place.new = there_is in
        cc

    pub copied_span : span_of (entry_at source index) ≡ count
    copied_span = ap span_of entry_is ∙ whole_span place.whole

    copied_is : copied_bytes source index ≡ take (32 * count) bytes_there
    copied_is = ap (λ (n : ℕ). take (32 * n) bytes_there) copied_span

    source_size : length bytes_there ≡ 4096 - entry_address index
    source_size = length-drop (entry_address index) source ∙ ap (λ (n : ℕ). n - entry_address index) kept.sector.size

    pub lays_copy : span_of (entry_at source index) ≤ p.spare
        → Lays p place.header place.new (units (entry_address (length p.front)) (copied_bytes source index))
    lays_copy room =
        lays_whole place.header place.new (copied_bytes source index)
        (ap length copied_is ∙ length-take-le (32 * count) bytes_there (omega (arith, source_size, inside)))
        (ap (chunks count) copied_is ∙ chunks_take count bytes_there ∙ there_is)
        place.whole
        (omega (arith, copied_span))
        (bytes_take (32 * span_of (entry_at source index)) (bytes_drop (entry_address index) (bytes_of source kept.sector.bytes)))
