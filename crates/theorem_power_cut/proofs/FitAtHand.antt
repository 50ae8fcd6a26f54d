-- The record at hand is fit to use at every point of a history.
--
-- In order: how many items are kept, and how many of them are listed; the places that list them; a page that is held; every history.
use mathlib.Core.Path.{◌≡◌, refl, ap, ◌∙◌, subst}
use mathlib.Core.Bool.{Bool, true, false, cond}
use mathlib.Core.List.{List, [], ◌∷◌}
use Prim.Native.Nat.{ℕ, zero, suc, ◌+◌, ◌-◌, ◌≤◌, ◌<◌, ◌^◌}
use native.Mathlib.Omega.{arith}
use lib.Dec.{eqb}
use lib.ListN.{length, replicate}
use lib.Seq.{take-append_seam, drop-append_seam}
use borrow.Author.Tests.{lt-ltb}
use Rattle.flash.specs.Flash.{every, all_ones}
use Rattle.page.specs.declared.Listed.{Listed}
use Rattle.page.specs.Record.{Page, no_item, place_fits, place_zero, uninitialized, fit_to_use}
use Rattle.page.proofs.Laws.{fit_of}
use Rattle.sector.specs.declared.EntryMapState.TheVariants.{Empty, Written}
use Rattle.sector.specs.Header.{state_of_word, is_in_use}
use Rattle.sector.specs.Item.{hash_of_item}
use Rattle.sector.specs.Layout.{state_word, namespace_of, key_of, chunk_of, chunks}
use Rattle.sector.specs.Map.{states_of, count_in}
use Rattle.sector.proofs.Marks.{count_in-append}
use Rattle.opening_reading.specs.declared.Verdict.{Verdict}
use Rattle.opening_reading.specs.declared.Verdict.TheVariants.{NotAnItem, RefusedEntry, RefusedItem, Kept}
use Rattle.opening_reading.specs.Reading.{verdict_at, steps_over, Item, item, with_kept, kept_from}
use Rattle.opening_reading.proofs.Verdicts.{States, Entries}
use Rattle.opening.specs.Opening.{header_of, listed_items}
use Rattle.theorem_writing.proofs.FitRecords.{known_state, known_fits, every_replicate, hash_short}
use Rattle.theorem_reopening.proofs.OpenedFront.{count_closed, count_none}
use Rattle.theorem_reopening.proofs.KeptItem.{Indices, indices_nil, indices_cons, indices_kept_from}
use Rattle.theorem_power_cut.specs.PowerCut.{RecordIsFit}
use Rattle.theorem_power_cut.proofs.Standing.{Standing}
use Rattle.theorem_power_cut.proofs.AtHand.{page_of}
use Rattle.theorem_power_cut.proofs.Headers.{header_opens}
use Rattle.theorem_power_cut.proofs.Held.{Held, Known, held, blank}
use Rattle.theorem_power_cut.proofs.Demand.{known}

-- ---- how many

with_kept_short : (verdict : Verdict) (i : ℕ) (entry : List ℕ) (entries : Entries) (items : List Item)
    → length (with_kept verdict i entry entries items) ≤ suc (length items)
with_kept_short NotAnItem i entry entries items = omega arith
with_kept_short (RefusedEntry reason) i entry entries items = omega arith
with_kept_short (RefusedItem reason k) i entry entries items = omega arith
with_kept_short (Kept k) i entry entries items = omega arith

-- an entry is the header of one item at most
kept_short : (k i : ℕ) (states : States) (entries : Entries) → length (kept_from k i states entries) ≤ length states
kept_short k i [] entries = omega arith
kept_short k i (s ∷ states) [] = omega arith
kept_short zero i (s ∷ states) (entry ∷ entries) =
    let verdict = verdict_at s entry states entries in
    let rest = kept_from (steps_over verdict) (suc i) states entries in
    omega (arith, with_kept_short verdict i entry entries rest, kept_short (steps_over verdict) (suc i) states entries)
kept_short (suc k) i (s ∷ states) (entry ∷ entries) = omega (arith, kept_short k (suc i) states entries)

one_more_short : (none : Bool) (place : Listed) (places : List Listed) → length (cond none places (place ∷ places)) ≤ suc (length places)
one_more_short true place places = omega arith
one_more_short false place places = omega arith

listed_short : (items : List Item) → length (listed_items items) ≤ length items
listed_short [] = omega arith
listed_short (item i entries ∷ items) =
    let place : Listed = record { hash = hash_of_item (header_of entries); index = i } in
    omega (arith, one_more_short (eqb (namespace_of (header_of entries)) 0) place (listed_items items), listed_short items)

-- ---- the places

one_more_fits : (none : Bool) (place : Listed) (places : List Listed) → place_fits place ≡ true → every place_fits places ≡ true
    → every place_fits (cond none places (place ∷ places)) ≡ true
one_more_fits true place places h e = e
one_more_fits false place places h e = rw (h, e)

item_fits : (i : ℕ) (entry : List ℕ) → i < 126 → place_fits (record { hash = hash_of_item entry; index = i }) ≡ true
item_fits i entry h =
    rw (lt-ltb i 126 h, lt-ltb (hash_of_item entry) (2 ^ 24) (hash_short (namespace_of entry) (key_of entry) (chunk_of entry)))

listed_fit_lem : {low high : ℕ} {items : List Item} → high ≤ 126 → Indices low high items → every place_fits (listed_items items) ≡ true
listed_fit_lem h indices_nil = refl
listed_fit_lem h (indices_cons {items = items} i entries l g d) =
    let place : Listed = record { hash = hash_of_item (header_of entries); index = i } in
    one_more_fits (eqb (namespace_of (header_of entries)) 0) place (listed_items items) (item_fits i (header_of entries) (omega arith)) (listed_fit_lem h d)

-- ---- a page that is held

module _ {image : List ℕ} {items : List Item} (p : Standing image items) where
  abbrev entries : Entries
  entries = chunks (length p.front) p.used

  few : length (listed_items items) ≤ length p.front
  few = omega (arith, listed_short items, subst (λ (kept : List Item). length kept ≤ length p.front) p.kept (kept_short zero zero p.front entries))

  places_fit : every place_fits (listed_items items) ≡ true
  places_fit =
      listed_fit_lem (omega (arith, p.sum)) (subst (Indices zero (zero + length p.front)) p.kept (indices_kept_from zero zero p.front entries))

  written : count_in Written (states_of p.map) ≡ count_in Written p.front
  written =
      ap (count_in Written) p.states
      ∙ count_in-append Written p.front (replicate p.spare Empty)
      ∙ omega (arith, count_none Written Empty p.spare refl)

held_fit : {image : List ℕ} {page : Page} {items : List Item} → Held image page items → fit_to_use page ≡ true
held_fit {items = items} h =
    let p = h.standing in
    let places = listed_items items in
    let at_hand = page_of p.header p.map p.front items in
    let opens = header_opens p.header _ p.header_size (rw p.split at h.opens) in
    let blanks : List Listed = replicate (126 - length places) no_item in
    rw h.page_is
    (fit_of at_hand
    (record {
      counts = omega (arith, count_closed p.closed, p.sum);
      len_fits = omega (arith, count_closed p.closed, few p);
      written_fits_lem = omega (arith, written p);
      listed_fit_lem = rw (take-append_seam places blanks) (places_fit p);
      behind_zero_lem = rw (drop-append_seam places blanks) (every_replicate place_zero (126 - length places) no_item refl);
      blank_fits_lem = known_fits at_hand (known_state is_in_use refl (state_of_word (state_word p.header)) opens.state);
    }))

-- ---- every history

uninitialized_fit : fit_to_use uninitialized ≡ true
unfolding fit_to_use all_ones count_in
uninitialized_fit = refl

pub record_is_fit : RecordIsFit
record_is_fit image page items h = by_known (known h)
  where
    by_known : Known image page items → fit_to_use page ≡ true
    by_known (held h) = held_fit h
    by_known (blank i p e) = rw p uninitialized_fit
