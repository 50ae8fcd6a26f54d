-- The record at hand: what opening reads off a page that stands, and that each call hands back just that.
--
-- In order: fields of the header; the record of a page that stands; one more item.
use mathlib.Core.Path.{◌≡◌, refl, sym, ap, ◌∙◌}
use mathlib.Core.Bool.{Bool, true, false, cond}
use mathlib.Core.List.{List, [], ◌∷◌, ◌++◌, append-nil}
use Prim.Native.Nat.{ℕ, zero, suc, ◌+◌, ◌*◌, ◌≤◌, ◌<◌}
use native.Mathlib.Nat.{add-zero}
use native.Mathlib.Omega.{arith}
use lib.Dec.{eqb}
use lib.ListN.{length, take, drop, get_or, set, replicate, length-append, length-drop}
use lib.Seq.{take-append-le, drop-append-le, drop-drop, get_or-take, get_or-drop, take_at}
use Rattle.page.specs.declared.Listed.{Listed}
use Rattle.page.specs.Record.{Page, padded, with_item}
use Rattle.page.proofs.Laws.{padded_more}
use Rattle.sector.specs.declared.EntryMapState.{EntryMapState}
use Rattle.sector.specs.declared.EntryMapState.TheVariants.{Empty, Written, Erased}
use Rattle.sector.specs.declared.PageState.TheVariants.{Full}
use Rattle.sector.specs.Header.{state_of_word}
use Rattle.sector.specs.Layout.{number, field, state_word, sequence_of, version_of, stored_header_crc, namespace_of}
use Rattle.sector.specs.Item.{hash_of_item}
use Rattle.sector.specs.Map.{states_of, count_in, same_state, mark_range}
use Rattle.sector.proofs.Marks.{count_in-append}
use Rattle.opening_reading.specs.Reading.{Item, item}
use Rattle.opening_found.specs.Found.{kept_items}
use Rattle.opening.specs.Opening.{opened_map, opened_page, header_of, listed_items}
use Rattle.opening_reading.proofs.Verdicts.{States, Entries}
use Rattle.theorem_reopening.proofs.OpenedFront.{count_none}
use Rattle.theorem_power_cut.proofs.Standing.{Standing, standing_map, standing_kept, standing_opened_map}

-- ---- fields of the header

-- a field that lies in a front
pub field_front : (offset size : ℕ) (front rest : List ℕ) → offset + size ≤ length front → field offset size (front ++ rest) ≡ field offset size front
field_front offset size front rest h =
    ap (take size) (drop-append-le offset front rest (omega arith))
    ∙ take-append-le size (drop offset front) rest (rw (length-drop offset front) (omega arith))

pub version_front : (front rest : List ℕ) → length front ≡ 32 → version_of (front ++ rest) ≡ version_of front
version_front front rest size =
    sym (get_or-take 32 (front ++ rest) 8 0 (omega arith)) ∙ ap (λ (bytes : List ℕ). get_or bytes 8 0) (take_at front rest 32 size)

-- ---- the record of a page that stands

-- from the header, the map, the states of the entries in use and the items
abbrev pub page_of : List ℕ → List ℕ → States → List Item → Page
page_of header map front items =
    record {
      state = state_of_word (state_word header);
      sequence = sequence_of header;
      version = version_of header;
      crc = stored_header_crc header;
      map = map;
      used = count_in Written front;
      erased = count_in Erased front;
      len = length (listed_items items);
      list = padded (listed_items items);
    }

-- what opening reads of an image, from its header, the map that it leaves, and the items that it keeps
module _ (image header rest map : List ℕ) (front : States) (spare : ℕ) (items : List Item) (split : image ≡ header ++ rest) (size : length header ≡ 32)
    (map_is : opened_map image ≡ map) (states : states_of map ≡ front ++ replicate spare Empty) (kept : kept_items image ≡ items) where
  header_field : (offset width : ℕ) → offset + width ≤ 32 → field offset width image ≡ field offset width header
  header_field offset width h = ap (field offset width) split ∙ field_front offset width header rest (omega arith)

  count_front : (s : EntryMapState) → same_state s Empty ≡ false → count_in s (states_of (opened_map image)) ≡ count_in s front
  count_front s e =
      ap (λ (map : List ℕ). count_in s (states_of map)) map_is
      ∙ ap (count_in s) states
      ∙ count_in-append s front (replicate spare Empty)
      ∙ omega (arith, count_none s Empty spare e)

  pub opened_is : opened_page image ≡ page_of header map front items
  unfolding opened_page
  opened_is =
      rw (
        header_field 0 4 (omega arith),
        header_field 4 4 (omega arith),
        header_field 28 4 (omega arith),
        ap version_of split ∙ version_front header rest size,
        kept,
        count_front Written refl,
        count_front Erased refl,
        map_is,
      )

pub standing_page : {image : List ℕ} {items : List Item} (p : Standing image items) → opened_page image ≡ page_of p.header p.map p.front items
standing_page {image} {items} p =
    opened_is image p.header (p.map ++ (p.used ++ replicate (32 * p.spare) 0xFF)) p.map p.front p.spare items
    p.split p.header_size (standing_opened_map p ∙ standing_map p) p.states (standing_kept p)

-- ---- one more item

-- the place of an item on the list; none in namespace 0
abbrev placed : Bool → Listed → List Listed
placed unlisted place = cond unlisted [] (place ∷ [])

listed_more : (items : List Item) (i : ℕ) (entry : List ℕ) (new : Entries)
    → listed_items (items ++ (item i (entry ∷ new) ∷ []))
    ≡ listed_items items ++ placed (eqb (namespace_of entry) 0) (record { hash = hash_of_item entry; index = i })
listed_more [] i entry new = refl
listed_more (item j group ∷ items) i entry new = by_test (eqb (namespace_of (header_of group)) 0) (listed_more items i entry new)
  where
    first : Listed
    first = record { hash = hash_of_item (header_of group); index = j }

    more : List Listed
    more = placed (eqb (namespace_of entry) 0) (record { hash = hash_of_item entry; index = i })

    by_test : (none : Bool) → listed_items (items ++ (item i (entry ∷ new) ∷ [])) ≡ listed_items items ++ more
        → cond none (listed_items (items ++ (item i (entry ∷ new) ∷ []))) (first ∷ listed_items (items ++ (item i (entry ∷ new) ∷ [])))
        ≡ cond none (listed_items items) (first ∷ listed_items items) ++ more
    by_test true e = e
    by_test false e = ap (λ (places : List Listed). first ∷ places) e

list_after : (unlisted : Bool) (places : List Listed) (place : Listed) → length places < 126
    → cond unlisted (padded places) (set (padded places) (length places) place) ≡ padded (places ++ placed unlisted place)
list_after true places place h = ap padded (sym (append-nil places))
list_after false places place h = padded_more places place h

len_after : (unlisted : Bool) (places : List Listed) (place : Listed)
    → cond unlisted (length places) (length places + 1) ≡ length (places ++ placed unlisted place)
len_after true places place = ap length (sym (append-nil places))
len_after false places place = sym (length-append places (place ∷ []))

count_written : (n : ℕ) → count_in Written (replicate n Written) ≡ n
unfolding count_in
count_written zero = refl
count_written (suc n) = let rest = count_written n in omega arith

-- what a call hands back for a new item is what opening will read
module _ (header after map : List ℕ) (front : States) (items : List Item) (entry : List ℕ) (new : Entries) (span : ℕ)
    (counted : count_in Written front + count_in Erased front ≡ length front)
    (state : cond (eqb (length front + span) 126) Full (state_of_word (state_word header)) ≡ state_of_word (state_word after))
    (behind : drop 4 after ≡ drop 4 header)
    (short : length (listed_items items) < 126) where
  sequence_same : sequence_of after ≡ sequence_of header
  sequence_same = ap (λ (bytes : List ℕ). number (take 4 bytes)) behind

  version_same : version_of after ≡ version_of header
  version_same =
      sym (get_or-drop 4 after 4 0) ∙ ap (λ (bytes : List ℕ). get_or bytes 4 0) behind ∙ get_or-drop 4 header 4 0

  crc_same : stored_header_crc after ≡ stored_header_crc header
  crc_same =
      ap (λ (bytes : List ℕ). number (take 4 bytes)) (sym (drop-drop 24 4 after) ∙ ap (drop 24) behind ∙ drop-drop 24 4 header)

  pub with_item_lem : with_item (page_of header map front items) span (namespace_of entry) (hash_of_item entry)
      ≡ page_of after (mark_range Written (length front) span map) (front ++ replicate span Written) (items ++ (item (length front) (entry ∷ new) ∷ []))
  unfolding with_item
  with_item_lem =
      let place : Listed = record { hash = hash_of_item entry; index = length front } in
      let unlisted = eqb (namespace_of entry) 0 in
      rw (
        counted,
        state,
        ← sequence_same,
        ← version_same,
        ← crc_same,
        list_after unlisted (listed_items items) place short,
        len_after unlisted (listed_items items) place,
        listed_more items (length front) entry new,
        count_in-append Written front (replicate span Written),
        count_in-append Erased front (replicate span Written),
        count_written span,
        count_none Erased Written span refl,
        add-zero (count_in Erased front),
      )
