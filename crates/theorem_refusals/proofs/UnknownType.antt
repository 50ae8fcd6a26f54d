-- An unknown type byte is never an item: its entry does not load, and each call asks whether it does.
--
-- In order: known and unknown; which entries load; the calls; the reading.
use mathlib.Core.Path.{◌≡◌, refl, sym, ap, ◌∙◌}
use mathlib.Core.Bool.{Bool, true, false, ◌&&◌, not, and-false, and-eq-true_iff, false≢true}
use mathlib.Core.List.Memᴰ
use mathlib.Core.List.{List, [], ◌∷◌, Memᴰ}
use Prim.Native.Nat.{ℕ, zero, suc}
use lib.ListN.{length}
use borrow.Author.Tests.{eq-eqb, eqb-true, lt-ltb}
use Rattle.flash.specs.Flash.{all_ones}
use Rattle.flash.proofs.Laws.{replicate-all_ones}
use Rattle.sector.specs.declared.EntryMapState.{EntryMapState}
use Rattle.sector.specs.declared.EntryMapState.TheVariants.{Empty, Written, Erased, Illegal}
use Rattle.sector.specs.declared.ItemType.{ItemType}
use Rattle.sector.specs.declared.ItemType.TheVariants.{Any}
use Rattle.sector.specs.Item.{known_type, crc_right, loads}
use Rattle.sector.specs.Layout.{map_of, entry_at, entries_of, type_byte_of}
use Rattle.sector.specs.Map.{states_of}
use Rattle.sector.specs.Types.{byte_of, item_type, type_byte, type_byte_lem}
use Rattle.call_copy.specs.Copy.{copy_in, copy_in_image}
use Rattle.call_load.specs.Load.{load_item}
use Rattle.call_load_data.specs.Payload.{data_answer}
use Rattle.opening_reading.specs.declared.Verdict.{Verdict}
use Rattle.opening_reading.specs.declared.Verdict.TheVariants.{NotAnItem, RefusedEntry, RefusedItem, Kept}
use Rattle.opening_reading.specs.Reading.{item, header_refusal, verdict_at, steps_over, with_kept, kept_from}
use Rattle.opening_reading.proofs.Verdicts.{States, Entries, Decided, refused_entry, refused_item, kept_item, decided, verdict_refused_item, header_loads}
use Rattle.opening_found.specs.Found.{kept_items}
use Rattle.opening.specs.Opening.{header_of}
use Rattle.theorem_refusals.specs.UnknownType.{Unknown, UnknownNeverLoads, KnownLoads, UnknownIsNotFound, UnknownIsNotCopied, UnknownIsNotPurged, UnknownIsRefused, KeptIsKnown}

-- ---- known and unknown

-- a known byte is that of the type that it names
type_of_lem : (entry : List ℕ) → known_type entry ≡ true → type_byte_of entry ≡ byte_of (item_type (type_byte_of entry))
type_of_lem entry e = sym (eqb-true (type_byte (type_byte_of entry)) (type_byte_of entry) e)

not_known : (entry : List ℕ) → Unknown entry → known_type entry ≡ false
not_known entry unknown = by_test (known_type entry) refl
  where
    by_test : (known : Bool) → known_type entry ≡ known → known ≡ false
    by_test true e = absurd (unknown (item_type (type_byte_of entry)) (type_of_lem entry e))
    by_test false e = refl

is_known_lem : (entry : List ℕ) (t : ItemType) → type_byte_of entry ≡ byte_of t → known_type entry ≡ true
is_known_lem entry t e = rw (e, type_byte_lem t) (eq-eqb (byte_of t) (byte_of t) refl)

-- whoever fails the test is none of the thirteen
pub unknown_by_test : (entry : List ℕ) → known_type entry ≡ false → Unknown entry
unknown_by_test entry e t byte = false≢true (sym e ∙ is_known_lem entry t byte)

-- ---- which entries load

pub unknown_never_loads : UnknownNeverLoads
unfolding loads
unknown_never_loads entry unknown = rw (not_known entry unknown) (and-false (not (all_ones entry)))

pub known_loads : KnownLoads
unfolding loads
known_loads entry t e = rw (is_known_lem entry t e)

-- ---- the calls

pub unknown_is_not_found : UnknownIsNotFound
unfolding load_item data_answer
unknown_is_not_found image index room size inside unknown =
    let refused = unknown_never_loads (entry_at image index) unknown in (
      rw (eq-eqb (length image) 4096 size, lt-ltb index 126 inside, refused),
      rw (eq-eqb (length image) 4096 size, lt-ltb index 126 inside, refused),
    )

pub unknown_is_not_copied : UnknownIsNotCopied
unfolding copy_in copy_in_image
unknown_is_not_copied image page source index n size source_size fit active inside unknown =
    let refused = unknown_never_loads (entry_at source index) unknown in (
      rw (eq-eqb (length image) 4096 size, eq-eqb (length source) 4096 source_size, fit, active, lt-ltb index 126 inside, refused),
      rw (eq-eqb (length image) 4096 size, eq-eqb (length source) 4096 source_size, fit, active, lt-ltb index 126 inside, refused),
    )

pub unknown_is_not_purged : UnknownIsNotPurged
unknown_is_not_purged namespace Empty entry unknown = (refl, refl)
unknown_is_not_purged namespace Written entry unknown = rw (unknown_never_loads entry unknown) (refl, refl)
unknown_is_not_purged namespace Erased entry unknown = rw (unknown_never_loads entry unknown) (refl, refl)
unknown_is_not_purged namespace Illegal entry unknown = (refl, refl)

-- ---- the reading

-- an entry that is all 0xFF has the byte of Any
not_blank : (entry : List ℕ) → length entry ≡ 32 → Unknown entry → all_ones entry ≡ false
not_blank entry size unknown = by_test (all_ones entry) refl
  where
    by_test : (ones : Bool) → all_ones entry ≡ ones → ones ≡ false
    by_test true e =
        let byte : type_byte_of entry ≡ 0xFF = rw (replicate-all_ones entry e, size) in
        absurd (unknown Any byte)
    by_test false e = refl

pub unknown_is_refused : UnknownIsRefused
unfolding header_refusal
unknown_is_refused entry states entries size unknown = rw (not_blank entry size unknown, not_known entry unknown)

-- what is kept loads
kept_header : (s : EntryMapState) (entry : List ℕ) (states : States) (entries : Entries) (k : ℕ) → verdict_at s entry states entries ≡ Kept k → loads entry ≡ true
kept_header Empty entry states entries k e = cc
kept_header Erased entry states entries k e = cc
kept_header Illegal entry states entries k e = cc
kept_header Written entry states entries k e = by_case (decided entry states entries)
  where
    by_case : Decided entry states entries → loads entry ≡ true
    by_case (refused_entry reason h) = let wrong : RefusedEntry reason ≡ Kept k = rw h at e in cc
    by_case (refused_item reason j s) = let wrong : RefusedItem reason j ≡ Kept k = sym (verdict_refused_item s) ∙ e in cc
    by_case (kept_item j g) = header_loads entry (length entries) g.whole.header

kept_loads : {index : ℕ} {group : Entries} (k i : ℕ) (states : States) (entries : Entries)
    → Memᴰ (item index group) (kept_from k i states entries) → loads (header_of group) ≡ true
kept_loads k i [] entries m = absurd (Memᴰ.not-nil m)
kept_loads k i (s ∷ states) [] m = absurd (Memᴰ.not-nil m)
kept_loads {index} {group} zero i (s ∷ states) (entry ∷ entries) m =
    by_verdict (verdict_at s entry states entries) refl (λ k. kept_loads k (suc i) states entries) m
  where
    by_verdict : (v : Verdict) → verdict_at s entry states entries ≡ v
        → ((k : ℕ) → Memᴰ (item index group) (kept_from k (suc i) states entries) → loads (header_of group) ≡ true)
        → Memᴰ (item index group) (with_kept v i entry entries (kept_from (steps_over v) (suc i) states entries))
        → loads (header_of group) ≡ true
    by_verdict NotAnItem e rest m = rest zero m
    by_verdict (RefusedEntry reason) e rest m = rest zero m
    by_verdict (RefusedItem reason k) e rest m = rest k m
    by_verdict (Kept k) e rest (Memᴰ.head same) =
        let first : header_of group ≡ entry = cc in
        ap loads first ∙ kept_header s entry states entries k e
    by_verdict (Kept k) e rest (Memᴰ.tail m) = rest k m
kept_loads (suc k) i (s ∷ states) (entry ∷ entries) m = kept_loads k (suc i) states entries m

-- what loads is known
loads_known : (entry : List ℕ) → loads entry ≡ true → known_type entry ≡ true
unfolding loads
loads_known entry h =
    let both = (and-eq-true_iff (not (all_ones entry)) (known_type entry && crc_right entry)).0 h in
    ((and-eq-true_iff (known_type entry) (crc_right entry)).0 both.1).0

pub kept_is_known : KeptIsKnown
unfolding kept_items
kept_is_known image index entries m =
    let known = loads_known (header_of entries) (kept_loads zero zero (states_of (map_of image)) (entries_of image) m) in
    (item_type (type_byte_of (header_of entries)), type_of_lem (header_of entries) known)
